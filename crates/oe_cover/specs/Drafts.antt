-- Plans while they are made.
use Rattle.std.specs.Prelude.{◌≤◌, ℕ, List, length, vec_capacity}
use Rattle.nest_base.specs.NumberLists.{side_numbers}
use Rattle.oe_cover.specs.declared.draft.Draft.{Draft}
use Rattle.oe_cover.specs.Pieces.{pieces, AreEnds}

-- the chains so far
abbrev pub chains_in : Draft → List (List ℕ)
chains_in d = pieces (side_numbers d.sides.items) 0 d.ends.items

-- each chain ends where the next one begins, and there is room for so many half-edges in all
pub record IsDraft (room : ℕ) (d : Draft) : Type 0 where
  pub are_ends : AreEnds 0 d.ends.items (length d.sides.items)
  pub sides : room ≤ vec_capacity d.sides
  pub ends : room ≤ vec_capacity d.ends
