use Rattle.std.proofs.Common.{take}
use Rattle.nest_base.specs.NumberLists.{component_numbers}
use Rattle.oe_cover.specs.Planning.{IsPlanning, HasPlanned}
use Rattle.oe_cover.proofs.all.cover_all.Given as goal

-- the components before this one in the order are planned
abbrev pub invariant-loop-c : goal.invariant-loop-c
invariant-loop-c l = record {
  planning : IsPlanning l.fn.graph l.graph l.planner;
  planned : HasPlanned l.fn.graph (take l.c-index (component_numbers l.c-items)) l.planner;
}
