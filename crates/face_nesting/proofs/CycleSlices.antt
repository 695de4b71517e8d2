-- The half-edges of a cycle in the list of all, between where it begins and where the next one does.
use Rattle.std.proofs.Common.{arith, ◌≡◌, ℕ, zero, suc, ◌+◌, ◌-◌, ◌≤◌, List, [], ◌∷◌, length, length-append, take, drop, refl, ap, subst, ◌∙◌}
use Rattle.std.specs.Prelude.{Some, slice_get, slice_index}
use Rattle.std.proofs.Math.Seq.{take-append_seam, drop-append-add}
use Rattle.std.proofs.lemmas.Option.{none-some, same_Some, get_or_from_slice_get}
use Rattle.face_nesting.specs.Cycles.{offsets}
use Rattle.face_nesting.proofs.CycleLists.{joined, joined-cons}

-- cycle c stands in the list of all from one place on to before another
pub record IsSlice (sides starts : List ℕ) (c : ℕ) (cycle : List ℕ) : Type 0 where
  pub first : ℕ
  pub begins : slice_index starts c ≡ first
  pub ends : slice_index starts (c + 1) ≡ first + length cycle
  pub within : first + length cycle ≤ length sides
  pub cut : take (length cycle) (drop first sides) ≡ cycle

-- the same, where the places are counted from n
record IsCut (n : ℕ) (cycles : List (List ℕ)) (c : ℕ) (cycle : List ℕ) : Type 0 where
  pub first : ℕ
  pub begins : slice_get (offsets n cycles) c ≡ Some (n + first)
  pub ends : slice_get (offsets n cycles) (c + 1) ≡ Some (n + first + length cycle)
  pub within : first + length cycle ≤ length (joined cycles)
  pub cut : take (length cycle) (drop first (joined cycles)) ≡ cycle

offsets_begin : (n : ℕ) (cycles : List (List ℕ)) → slice_get (offsets n cycles) 0 ≡ Some n
offsets_begin n [] = refl
offsets_begin n (cycle ∷ cycles) = refl

length-joined-cons : (cycle : List ℕ) (cycles : List (List ℕ)) → length (joined (cycle ∷ cycles)) ≡ length cycle + length (joined cycles)
length-joined-cons cycle cycles = ap length (joined-cons cycle cycles) ∙ length-append cycle (joined cycles)

cut_at : (n : ℕ) (cycles : List (List ℕ)) (c : ℕ) (cycle : List ℕ) → slice_get cycles c ≡ Some cycle → IsCut n cycles c cycle
cut_at n [] c cycle at = absurd (none-some cycle at)
cut_at n (head ∷ cycles) zero cycle at =
    let same = same_Some head cycle at in
    let none : n ≡ n + 0 = omega arith in
    let long : n + length head ≡ n + 0 + length cycle = omega (arith, ap length same) in
    record {
      first = 0;
      begins = ap Some none;
      ends = offsets_begin (n + length head) cycles ∙ ap Some long;
      within = omega (arith, length-joined-cons head cycles, ap length same);
      cut = subst (λ (xs : List ℕ). take (length xs) (joined (head ∷ cycles)) ≡ xs) same (ap (take (length head)) (joined-cons head cycles) ∙ take-append_seam head (joined cycles));
    }
cut_at n (head ∷ cycles) (suc c) cycle at =
    let later = cut_at (n + length head) cycles c cycle at in
    let first : n + length head + later.first ≡ n + (length head + later.first) = omega arith in
    let behind : n + length head + later.first + length cycle ≡ n + (length head + later.first) + length cycle = omega arith in
    let next : suc c + 1 ≡ suc (c + 1) = omega arith in
    record {
      first = length head + later.first;
      begins = later.begins ∙ ap Some first;
      ends = ap (slice_get (offsets n (head ∷ cycles))) next ∙ later.ends ∙ ap Some behind;
      within = omega (arith, length-joined-cons head cycles, later.within);
      cut = ap (λ xs. take (length cycle) (drop (length head + later.first) xs)) (joined-cons head cycles) ∙ ap (take (length cycle)) (drop-append-add head (joined cycles) later.first) ∙ later.cut;
    }

pub slice_at : (sides starts : List ℕ) (cycles : List (List ℕ)) (c : ℕ) (cycle : List ℕ) → sides ≡ joined cycles → starts ≡ offsets 0 cycles → slice_get cycles c ≡ Some cycle →
    IsSlice sides starts c cycle
slice_at sides starts cycles c cycle are_sides are_starts at =
    let here = cut_at 0 cycles c cycle at in
    let begins = get_or_from_slice_get starts c (0 + here.first) 0 (ap (λ xs. slice_get xs c) are_starts ∙ here.begins) in
    let ends = get_or_from_slice_get starts (c + 1) (0 + here.first + length cycle) 0 (ap (λ xs. slice_get xs (c + 1)) are_starts ∙ here.ends) in
    record {
      first = here.first;
      begins = omega (arith, begins);
      ends = omega (arith, ends);
      within = omega (arith, here.within, ap length are_sides);
      cut = ap (λ xs. take (length cycle) (drop here.first xs)) are_sides ∙ here.cut;
    }

-- so what is read between the two places is the cycle
pub slice_is : (sides starts : List ℕ) (c : ℕ) (cycle : List ℕ) → IsSlice sides starts c cycle →
    take (slice_index starts (c + 1) - slice_index starts c) (drop (slice_index starts c) sides) ≡ cycle
slice_is sides starts c cycle is =
    let long : slice_index starts (c + 1) - slice_index starts c ≡ length cycle = omega (arith, is.begins, is.ends) in
    rw (long, is.begins) is.cut
