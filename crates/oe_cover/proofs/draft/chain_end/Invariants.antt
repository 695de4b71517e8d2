use Rattle.std.proofs.Common.{length, ◌-◌, ◌≡◌, ◌≤◌, ◌<◌, ◌+◌, ℕ, Bool, drop}
use Rattle.half_edges.specs.Graph.{rotations_of}
use Rattle.nest_base.specs.NumberLists.{side_numbers}
use Rattle.oe_cover.specs.Cuts.{AnswersBy, chain_length}
use Rattle.oe_cover.proofs.draft.chain_end.Given as goal

-- the chain goes at least to `last`, and from there as far as it goes from `first`
abbrev pub invariant-loop-last : goal.invariant-loop-last
invariant-loop-last g l =
    (l.fn.first ≤ l.last)
    × (l.last < length l.order)
    × ((rule : ℕ → ℕ → Bool) → AnswersBy (goal.F-post g l.goes_on) rule →
    l.fn.first + chain_length rule (rotations_of l.graph) (drop l.fn.first (side_numbers l.order)) ≡ l.last + chain_length rule (rotations_of l.graph) (drop l.last (side_numbers l.order)))

abbrev pub decreases-loop-last : goal.decreases-loop-last
decreases-loop-last g l = length l.order - l.last
