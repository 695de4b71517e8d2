-- The places of a list, and the numbers of mark vertices and of parents.
use Rattle.std.proofs.Common.{arith, ◌≡◌, inl, inr, ℕ, zero, suc, ◌<◌, List, [], ◌∷◌, length, refl, ap, ◌∙◌}
use Rattle.std.specs.Prelude.{Some, slice_get, Contains, AllPairs}
use Rattle.std.proofs.lemmas.Bool.{cases_order}
use Rattle.std.proofs.lemmas.Option.{slice_get_within, slice_get-get_or, get_or_from_slice_get}
use Rattle.nest_base.specs.declared.places.Point.{Point}
use Rattle.nest_base.specs.declared.places.Edge.{Edge}
use Rattle.nest_base.specs.Order.{IsMarkedBefore}
use Rattle.nest_base.proofs.Orders.{IsMarkedBefore-irrefl}
use Rattle.nest_base.proofs.ListReads.{read_below, Contains-from_read}
use Rattle.plate_sides.specs.Components.{IsMark, AreMarks}
use Rattle.plate_plans.specs.Laws.{ParentsHaveLesserNumbers}

-- of two places of one element neither is the lesser, in a list in an order that nothing has with itself
not_later : {X : Type 0} (R : X → X → Type 0) (xs : List X) (i j : ℕ) (x : X) → AllPairs R xs → (R x x → ⊥) →
    slice_get xs i ≡ Some x → slice_get xs j ≡ Some x → i < j → ⊥
not_later R xs i j x pairs irrefl at_i at_j less =
    irrefl (rw (get_or_from_slice_get xs i x x at_i, get_or_from_slice_get xs j x x at_j) at (pairs i j x less (slice_get_within xs j x at_j)))

module _ {edges : List Edge} {marks : List Point} (are : AreMarks edges marks) where
  pub mark_at : (c : ℕ) (mark : Point) → slice_get marks c ≡ Some mark → IsMark edges mark
  mark_at c mark at = (are.are_all mark).0 (Contains-from_read marks c mark at)

  -- each component has a number
  pub number_of : (mark : Point) → IsMark edges mark → (c : ℕ) × (c < length marks) × (slice_get marks c ≡ Some mark)
  number_of mark is =
      let at = (are.are_all mark).1 is in
      (at.0, at.1, slice_get-get_or marks at.0 mark at.1 ∙ ap Some at.2)

  -- and one alone
  pub one_number : (c d : ℕ) (mark : Point) → slice_get marks c ≡ Some mark → slice_get marks d ≡ Some mark → c ≡ d
  one_number c d mark at_c at_d = elim (cases_order c d) [
    | inl same ↦ same
    | inr (inl less) ↦ absurd (not_later IsMarkedBefore marks c d mark are.in_order irrefl at_c at_d less)
    | inr (inr more) ↦ absurd (not_later IsMarkedBefore marks d c mark are.in_order irrefl at_d at_c more)
  ]
    where
      irrefl : IsMarkedBefore mark mark → ⊥
      irrefl before = IsMarkedBefore-irrefl mark mark before refl

-- each parent has a lesser number
pub parents_come_first : ParentsHaveLesserNumbers
parents_come_first edges marks parents are c p lies =
    let mark = read_below marks c (omega (arith, slice_get_within parents c (Some p) lies, are.as_many)) in
    ((are.each c mark.0 (Some p) mark.1 lies).some p refl).3
