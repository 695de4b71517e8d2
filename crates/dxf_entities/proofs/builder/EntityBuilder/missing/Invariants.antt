use Rattle.std.proofs.Common.{◌≡◌, drop}
use Rattle.std.specs.Prelude.{find, not, is_some}
use Rattle.dxf_entities.specs.Groups.{groups_needed}
use Rattle.dxf_entities.specs.EntityBuilder.{value_read}
use Rattle.dxf_entities.specs.Refusals.{missing_in}
use Rattle.dxf_entities.proofs.builder.EntityBuilder.missing.Given as goal

abbrev pub invariant-loop-group : goal.invariant-loop-group
invariant-loop-group l = record {
  items : l.group-items ≡ groups_needed l.self.shape;
  rest : find (λ g. not (is_some (value_read l.self g))) (drop l.group-index l.group-items) ≡ missing_in (value_read l.self) l.self.shape;
}
