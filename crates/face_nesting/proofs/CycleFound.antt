-- A cycle that has been traced stands behind the older ones.
use Rattle.std.proofs.Common.{arith, ◌≡◌, ◌≢◌, inl, inr, ℕ, ◌+◌, ◌<◌, List, [], ◌∷◌, ◌++◌, Bool, true, false, length, length-append, get_or, sym, ap, subst, ◌∙◌}
use Rattle.std.specs.Prelude.{Contains, AllPairs, Some, slice_get}
use Rattle.std.proofs.lemmas.List.{flat_map_more}
use Rattle.std.proofs.lemmas.List.Elements.{Contains-append_right}
use Rattle.std.proofs.lemmas.Option.{slice_get-get_or, same_Some, slice_get_within}
use Rattle.nest_base.proofs.Lists.{AllPairs-rest, AllZip-append}
use Rattle.rotation_systems.specs.RotationSystem.{RotationSystem}
use Rattle.nest_base.proofs.ListReads.{Contains-from_read, read-front, read_of_pushed}
use Rattle.face_nesting.specs.Cycles.{IsCycleFrom, AreCyclesOf, AreTold, offsets}
use Rattle.face_nesting.proofs.CycleLists.{joined, joined_holds, offsets_more, starts_long}
use Rattle.face_nesting.proofs.CycleTracing.{IsTracing}

pairs_behind : {X : Type 0} (R : X → X → Type 0) (xs ys : List X) → AllPairs R (xs ++ ys) → AllPairs R ys
pairs_behind R [] ys pairs = pairs
pairs_behind R (x ∷ xs) ys pairs = pairs_behind R xs ys (AllPairs-rest R x (xs ++ ys) pairs)

joined_more : (cycles : List (List ℕ)) (cycle : List ℕ) → joined (cycles ++ cycle ∷ []) ≡ joined cycles ++ cycle
joined_more cycles cycle = sym (flat_map_more (λ (xs : List ℕ). xs) [] cycles cycle)

-- what a tracing leaves that has come round
path_is_cycle : (g : RotationSystem) (old_sides old_cycle_of : List ℕ) (first r : ℕ) (sides cycle_of : List ℕ) (traced : List Bool)
    (is : IsTracing g old_sides old_cycle_of first r first sides cycle_of traced) → length old_sides < length sides → IsCycleFrom g first is.path
path_is_cycle g old_sides old_cycle_of first r sides cycle_of traced is grown =
    let some : 0 < length is.path = omega (arith, grown, ap length is.are_sides, length-append old_sides is.path) in
    record {
      begins = sym (read-front is.path (first ∷ []) 0 some) ∙ is.begins;
      goes_round = is.goes;
      once = pairs_behind (λ t u. t ≢ u) old_sides is.path (subst (AllPairs (λ t u. t ≢ u)) is.are_sides is.once);
    }

pub first_found : (g : RotationSystem) (old_sides old_cycle_of : List ℕ) (first r : ℕ) (sides cycle_of : List ℕ) (traced : List Bool) →
    IsTracing g old_sides old_cycle_of first r first sides cycle_of traced → length old_sides < length sides → Contains sides first
first_found g old_sides old_cycle_of first r sides cycle_of traced is grown =
    let is_cycle = path_is_cycle g old_sides old_cycle_of first r sides cycle_of traced is grown in
    subst (λ xs. Contains xs first) (sym is.are_sides) (Contains-append_right old_sides is.path first (Contains-from_read is.path 0 first is_cycle.begins))

pub cycle_found : (g : RotationSystem) (heads old_cycle_of old_sides old_starts : List ℕ) (first r : ℕ) (sides cycle_of : List ℕ) (traced : List Bool) →
    AreCyclesOf g heads old_cycle_of old_sides old_starts → IsTracing g old_sides old_cycle_of first r first sides cycle_of traced →
    length old_sides < length sides → r + 1 ≡ length old_starts → AreCyclesOf g (heads ++ first ∷ []) cycle_of sides (old_starts ++ length sides ∷ [])
cycle_found g heads old_cycle_of old_sides old_starts first r sides cycle_of traced are is grown count =
    let is_cycle = path_is_cycle g old_sides old_cycle_of first r sides cycle_of traced is grown in
    let all : sides ≡ joined are.cycles ++ is.path = is.are_sides ∙ ap (λ (xs : List ℕ). xs ++ is.path) are.are_sides in
    let end : length sides ≡ 0 + length (joined are.cycles ++ is.path) = omega (arith, ap length all) in
    let number : r ≡ length are.cycles = omega (arith, count, starts_long are) in
    record {
      cycles = are.cycles ++ is.path ∷ [];
      each = AllZip-append (IsCycleFrom g) heads (first ∷ []) are.cycles (is.path ∷ []) are.each (is_cycle, tt);
      are_sides = all ∙ sym (joined_more are.cycles is.path);
      are_starts = ap (λ (ns : List ℕ). ns ++ length sides ∷ []) are.are_starts ∙ ap (λ n. offsets 0 are.cycles ++ n ∷ []) end ∙ sym (offsets_more 0 are.cycles is.path);
      within = is.within;
      once = is.once;
      as_many = is.as_many;
      numbered = λ k s cycle at stands. elim (read_of_pushed are.cycles is.path k cycle at) [
        | inl old ↦ is.kept s (subst (λ xs. Contains xs s) (sym are.are_sides) (joined_holds are.cycles k cycle s old stands)) ∙ are.numbered k s cycle old stands
        | inr (last, same) ↦ is.numbered s (subst (λ xs. Contains xs s) (sym same) stands) ∙ ap Some (number ∙ sym last)
      ];
    }

-- what isn't told stands in no cycle, and what stands in none isn't told
pub untold_new : (g : RotationSystem) (traced : List Bool) (sides : List ℕ) (s : ℕ) → AreTold g traced sides → slice_get traced s ≡ Some false → Contains sides s → ⊥
untold_new g traced sides s told is stands = grind (arith, same_Some true false (sym ((told.told s).1 stands) ∙ is))

pub new_untold : (g : RotationSystem) (traced : List Bool) (sides : List ℕ) (s : ℕ) → AreTold g traced sides → s < g.sides → (Contains sides s → ⊥) → slice_get traced s ≡ Some false
new_untold g traced sides s told below new =
    of (get_or traced s false) (slice_get-get_or traced s false (omega (arith, below, told.as_many)))
  where
    of : (b : Bool) → slice_get traced s ≡ Some b → slice_get traced s ≡ Some false
    of true at = absurd (new ((told.told s).0 at))
    of false at = at

pub told_below : (g : RotationSystem) (traced : List Bool) (sides : List ℕ) (s : ℕ) → AreTold g traced sides → slice_get traced s ≡ Some false → s < g.sides
told_below g traced sides s told is = omega (arith, slice_get_within traced s false is, told.as_many)
