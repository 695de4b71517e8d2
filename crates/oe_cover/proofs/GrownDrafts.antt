-- A draft with one more chain.
use Rattle.std.proofs.Common.{arith, ◌≡◌, ◌≤◌, ◌<◌, ◌+◌, ℕ, List, [], ◌∷◌, ◌++◌, length, length-append, sym, ap, subst, ◌∙◌}
use Rattle.std.specs.Prelude.{vec_capacity}
use Rattle.std.proofs.lemmas.List.{map-append}
use Rattle.nest_base.specs.declared.numbers.Side.{Side}
use Rattle.nest_base.specs.NumberLists.{side_numbers}
use Rattle.nest_base.proofs.NumberLists.{length-side_numbers}
use Rattle.face_nesting.proofs.NumbersOf.{side_number}
use Rattle.oe_cover.specs.declared.draft.Draft.{Draft}
use Rattle.oe_cover.specs.Pieces.{AreEnds}
use Rattle.oe_cover.specs.Drafts.{IsDraft, chains_in}
use Rattle.oe_cover.proofs.Pieces.{ends_grow, pieces_grow}

-- there are no more ends than half-edges
pub ends_few : (first : ℕ) (ends : List ℕ) (behind : ℕ) → AreEnds first ends behind → first + length ends ≤ behind
ends_few first [] behind are = omega (arith, are)
ends_few first (end ∷ ends) behind are = omega (arith, are.0, ends_few end ends behind are.1)

-- a chain is appended to a draft
pub record IsAppended (before after : Draft) (chain : List Side) : Type 0 where
  pub some : 0 < length chain
  pub sides : after.sides.items ≡ before.sides.items ++ chain
  pub ends : after.ends.items ≡ before.ends.items ++ (length before.sides.items + length chain) ∷ []
  pub sides_room : vec_capacity before.sides ≤ vec_capacity after.sides
  pub ends_room : vec_capacity before.ends ≤ vec_capacity after.ends

pub chains_grow : (before after : Draft) (chain : List Side) (room : ℕ) → IsDraft room before → IsAppended before after chain →
    chains_in after ≡ chains_in before ++ side_numbers chain ∷ []
chains_grow before after chain room is is_appended =
    let long = length-side_numbers before.sides.items in
    let are : AreEnds 0 before.ends.items (length (side_numbers before.sides.items)) = subst (AreEnds 0 before.ends.items) (sym long) is.are_ends in
    let end : length before.sides.items + length chain ≡ length (side_numbers before.sides.items) + length (side_numbers chain) = omega (arith, long, length-side_numbers chain) in
    rw (is_appended.sides, is_appended.ends, end, map-append side_number before.sides.items chain) (pieces_grow (side_numbers before.sides.items) (side_numbers chain) before.ends.items are)

pub draft_grows : (before after : Draft) (chain : List Side) (room : ℕ) → IsDraft room before → IsAppended before after chain → IsDraft room after
draft_grows before after chain room is is_appended =
    let long : length after.sides.items ≡ length before.sides.items + length chain = ap length is_appended.sides ∙ length-append before.sides.items chain in
    record {
      are_ends = rw (is_appended.ends, long) (ends_grow 0 before.ends.items (length before.sides.items) (length before.sides.items + length chain) is.are_ends (omega (arith, is_appended.some)));
      sides = omega (arith, is.sides, is_appended.sides_room);
      ends = omega (arith, is.ends, is_appended.ends_room);
    }
