-- The first two segments that cross off the lattice.
use Rattle.std.proofs.Common.{arith, ◌≡◌, ℕ, ◌+◌, ◌<◌, ◌≤◌, ◌⊎◌, inl, inr, List, take, get_or, Contains, refl, sym, subst, ◌∙◌}
use Rattle.std.specs.Prelude.{All, Some, slice_get}
use Rattle.std.proofs.lemmas.Bool.{cases_order, cases_lt}
use Rattle.std.proofs.lemmas.List.{get_or-take, length-take}
use Rattle.std.proofs.lemmas.List.Elements.{All-contains}
use Rattle.std.proofs.lemmas.Option.{get_or_from_slice_get, slice_get_within}
use Rattle.nest_base.specs.declared.places.Point.{Point}
use Rattle.nest_base.specs.declared.places.Segment.{Segment}
use Rattle.nest_base.specs.Plane.{direction}
use Rattle.nest_base.proofs.Directions.{cross_product-self}
use Rattle.nest_base.proofs.ListReads.{Contains-from_read}
use Rattle.plate_edges.specs.Cuts.{CrossesOffLattice}
use Rattle.segment_split.specs.CutPoints.{CrossesFirst}
use Rattle.segment_split.specs.Splits.{AreCrossing, IsFirstCrossing}
use Rattle.segment_split.proofs.Meetings.{CrossesOffLattice-turned}
use Rattle.segment_split.proofs.SplitSoFar.{CrossesNone}

-- what is found at an index is in the front of the list that ends at a later index
found_in_front : (xs : List Segment) (i n : ℕ) (x : Segment) → slice_get xs i ≡ Some x → i < n → Contains (take n xs) x
found_in_front xs i n x found below =
    (i, omega (arith, slice_get_within xs i x found, length-take n xs), get_or-take n xs i x below ∙ get_or_from_slice_get xs i x x found)

-- at one index one thing is found
found_once : (xs : List Segment) (i j : ℕ) (x y : Segment) → slice_get xs i ≡ Some x → slice_get xs j ≡ Some y → i ≡ j → x ≡ y
found_once xs i j x y first second same =
    sym (get_or_from_slice_get xs i x x first) ∙ subst (λ k. get_or xs i x ≡ get_or xs k x) same refl ∙ get_or_from_slice_get xs j y x second

-- no segment crosses itself
crosses_another : (s t : Segment) → CrossesOffLattice s t → s ≡ t → ⊥
crosses_another s t crosses same =
    let own : CrossesOffLattice s s = subst (CrossesOffLattice s) (sym same) crosses in
    own.not_parallel (cross_product-self (direction s.a s.b))

-- where the segments in front of s cross none, s crosses none of these
crosses_later : (segments : List Segment) (index other : ℕ) (s t : Segment) → All (CrossesNone segments) (take index segments) →
    slice_get segments index ≡ Some s → slice_get segments other ≡ Some t → CrossesOffLattice s t → index < other
crosses_later segments index other s t cut s_found t_found crosses = elim (cases_order index other) [
  | inl same ↦ absurd (crosses_another s t crosses (found_once segments index other s t s_found t_found same))
  | inr (inl less) ↦ less
  | inr (inr more) ↦
      let none : CrossesNone segments t = All-contains (CrossesNone segments) (take index segments) t cut (found_in_front segments other index t t_found more) in
      absurd (All-contains (λ u. CrossesOffLattice t u → ⊥) segments s none (Contains-from_read segments index s s_found) (CrossesOffLattice-turned s t crosses))
]

-- no pair comes before that of s and the first segment that it crosses
comes_first : (segments : List Segment) (index other : ℕ) (s : Segment) (place : Point) → All (CrossesNone segments) (take index segments) → slice_get segments index ≡ Some s →
    CrossesFirst segments s other place → (m n : ℕ) (p : Point) → AreCrossing segments m n p → (index + 1 < m) ⊎ ((index + 1 ≡ m) × (other + 1 ≤ n))
comes_first segments index other s place cut s_found first m n p pair = elim (cases_order index pair.i) [
  | inl same ↦ inr (
    omega (arith, same, pair.numbers),
    elim (cases_lt pair.j other) [
      | inl before ↦
          let crosses : CrossesOffLattice s pair.t = subst (λ u. CrossesOffLattice u pair.t) (sym (found_once segments index pair.i s pair.s s_found pair.found.0 same)) pair.crosses.crosses in
          absurd (All-contains (λ u. CrossesOffLattice s u → ⊥) (take other segments) pair.t first.first (found_in_front segments pair.j other pair.t pair.found.1 before) crosses)
      | inr later ↦ omega (arith, later, pair.numbers)
    ],
  )
  | inr (inl less) ↦ inl (omega (arith, less, pair.numbers))
  | inr (inr more) ↦
      let none : CrossesNone segments pair.s = All-contains (CrossesNone segments) (take index segments) pair.s cut (found_in_front segments pair.i index pair.s pair.found.0 more) in
      absurd (All-contains (λ u. CrossesOffLattice pair.s u → ⊥) segments pair.t none (Contains-from_read segments pair.j pair.t pair.found.1) pair.crosses.crosses)
]

-- the first segment that crosses any, and the first that it crosses
pub first_crossing : (segments : List Segment) (index other : ℕ) (s : Segment) (place : Point) → All (CrossesNone segments) (take index segments) → slice_get segments index ≡ Some s →
    CrossesFirst segments s other place → IsFirstCrossing segments (index + 1) (other + 1) place
first_crossing segments index other s place cut s_found first = record {
  crossing = record {
    i = index;
    j = other;
    numbers = (refl, refl, crosses_later segments index other s first.segment cut s_found first.found first.crosses.crosses);
    s = s;
    t = first.segment;
    found = (s_found, first.found);
    crosses = first.crosses;
  };
  least = comes_first segments index other s place cut s_found first;
}
