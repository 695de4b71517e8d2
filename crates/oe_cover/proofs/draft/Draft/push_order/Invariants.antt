use Rattle.std.proofs.Common.{length, ◌-◌, ◌≡◌, ◌≤◌, ◌++◌, ℕ, Bool, drop, take}
use Rattle.half_edges.specs.Graph.{rotations_of}
use Rattle.nest_base.specs.NumberLists.{side_numbers}
use Rattle.oe_cover.specs.Cuts.{AnswersBy, chains_by}
use Rattle.oe_cover.specs.Drafts.{IsDraft, chains_in}
use Rattle.oe_cover.proofs.draft.Draft.push_order.Given as goal

-- the chains before `first` are appended, and those of the rest are all that is wanting
abbrev pub invariant-loop-first : goal.invariant-loop-first
invariant-loop-first g l =
    (l.first ≤ length l.order)
    × ((rule : ℕ → ℕ → Bool) → AnswersBy (goal.F-post g l.goes_on) rule →
    chains_in l.self ++ chains_by rule (rotations_of l.graph) (drop l.first (side_numbers l.order)) ≡ chains_in l.fn.self ++ chains_by rule (rotations_of l.graph) (side_numbers l.order))
    × (l.self.sides.items ≡ l.fn.self.sides.items ++ take l.first l.order)
    × ((room : ℕ) → IsDraft room l.fn.self → IsDraft room l.self)

abbrev pub decreases-loop-first : goal.decreases-loop-first
decreases-loop-first g l = length l.order - l.first
