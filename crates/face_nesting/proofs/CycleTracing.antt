-- A cycle while it is being traced.
use Rattle.std.proofs.Common.{arith, ◌≡◌, ◌≢◌, inl, inr, ℕ, ◌<◌, List, [], ◌∷◌, ◌++◌, Bool, true, length, append_assoc, set, length-set, refl, sym, ap, subst, ◌∙◌}
use Rattle.std.specs.Prelude.{Contains, All, AllPairs, Some, slice_get}
use Rattle.std.proofs.lemmas.List.{append-nil}
use Rattle.std.proofs.lemmas.List.Elements.{All-contains, All-push, Contains-append_left, Contains-append_right, Contains-append_cases, Contains-push, Contains-push_cases}
use Rattle.std.proofs.lemmas.Bool.{cases_eq}
use Rattle.std.proofs.lemmas.Option.{slice_get_within}
use Rattle.nest_base.proofs.Lists.{Contains-none, All-from_contains}
use Rattle.rotation_systems.specs.RotationSystem.{RotationSystem, IsRotationSystem, along}
use Rattle.nest_base.proofs.ListReads.{Contains-from_read, AllPairs-pushed, read-front, read_written, read_unwritten}
use Rattle.face_nesting.specs.Cycles.{AreTold}
use Rattle.face_nesting.proofs.CycleSteps.{IsPath, path_begun, path_more, path_met, along_below}

-- half-edges are told that stand in a cycle, and one more
pub told_more : (g : RotationSystem) (traced : List Bool) (sides : List ℕ) (s : ℕ) → AreTold g traced sides → s < g.sides → AreTold g (set traced s true) (sides ++ s ∷ [])
told_more g traced sides s are below =
    let within : s < length traced = omega (arith, are.as_many) in
    record {
      as_many = length-set traced s true ∙ are.as_many;
      told = λ t. elim (cases_eq t s) [
        | inl same ↦ (λ is. subst (Contains (sides ++ s ∷ [])) (sym same) (Contains-push sides s), λ stands. ap (slice_get (set traced s true)) same ∙ read_written traced s true within)
        | inr other ↦ (
          λ is. Contains-append_left sides (s ∷ []) t ((are.told t).0 (sym (read_unwritten traced s t true other) ∙ is)),
          λ stands. elim (Contains-push_cases sides s t stands) [
            | inl before ↦ read_unwritten traced s t true other ∙ (are.told t).1 before
            | inr is ↦ absurd (other (sym is))
          ],
        )
      ];
    }

-- the cycle r that begins with `first` has come as far as to s: these half-edges stand behind those of older cycles
pub record IsTracing (g : RotationSystem) (old_sides old_cycle_of : List ℕ) (first r s : ℕ) (sides cycle_of : List ℕ) (traced : List Bool) : Type 0 where
  pub path : List ℕ
  pub are_sides : sides ≡ old_sides ++ path
  pub begins : slice_get (path ++ s ∷ []) 0 ≡ Some first
  pub goes : IsPath g path s
  pub below : s < g.sides
  pub within : All (λ t. t < g.sides) sides
  pub once : AllPairs (λ t u. t ≢ u) sides
  pub as_many : length cycle_of ≡ g.sides
  pub kept : (t : ℕ) → Contains old_sides t → slice_get cycle_of t ≡ slice_get old_cycle_of t
  pub numbered : (t : ℕ) → Contains path t → slice_get cycle_of t ≡ Some r
  pub told : AreTold g traced sides

pub tracing_begun : (g : RotationSystem) (sides cycle_of : List ℕ) (first r : ℕ) (traced : List Bool) → first < g.sides → All (λ t. t < g.sides) sides → AllPairs (λ t u. t ≢ u) sides →
    length cycle_of ≡ g.sides → AreTold g traced sides → IsTracing g sides cycle_of first r first sides cycle_of traced
tracing_begun g sides cycle_of first r traced below within once as_many told = record {
  path = [];
  are_sides = sym (append-nil sides);
  begins = refl;
  goes = path_begun g first;
  below = below;
  within = within;
  once = once;
  as_many = as_many;
  kept = λ t stands. refl;
  numbered = λ t stands. absurd (Contains-none t stands);
  told = told;
}

module _ {g : RotationSystem} (known : IsRotationSystem g) {old_sides old_cycle_of : List ℕ} {first r s : ℕ} {sides cycle_of : List ℕ} {traced : List Bool}
    (is : IsTracing g old_sides old_cycle_of first r s sides cycle_of traced) where
  in_path : (t : ℕ) → Contains is.path t → Contains sides t
  in_path t stands = subst (λ xs. Contains xs t) (sym is.are_sides) (Contains-append_right old_sides is.path t stands)

  in_old : (t : ℕ) → Contains old_sides t → Contains sides t
  in_old t stands = subst (λ xs. Contains xs t) (sym is.are_sides) (Contains-append_left old_sides is.path t stands)

  path_within : All (λ t. t < g.sides) is.path
  path_within = All-from_contains (λ t. t < g.sides) is.path (λ t stands. All-contains (λ t. t < g.sides) sides t is.within (in_path t stands))

  -- s stands in no cycle, so the cycle may go on
  module _ (new : Contains sides s → ⊥) where
    other_from : (t : ℕ) → Contains sides t → t ≢ s
    other_from t stands same = new (subst (Contains sides) same stands)

    pub traced_on : IsTracing g old_sides old_cycle_of first r (along g s) (sides ++ s ∷ []) (set cycle_of s r) (set traced s true)
    traced_on = record {
      path = is.path ++ s ∷ [];
      are_sides = ap (λ (xs : List ℕ). xs ++ s ∷ []) is.are_sides ∙ append_assoc old_sides is.path (s ∷ []);
      begins = read-front (is.path ++ s ∷ []) (along g s ∷ []) 0 (slice_get_within (is.path ++ s ∷ []) 0 first is.begins) ∙ is.begins;
      goes = path_more g is.path s is.goes;
      below = along_below known s is.below;
      within = All-push (λ t. t < g.sides) sides s is.within is.below;
      once = AllPairs-pushed (λ t u. t ≢ u) sides s is.once (λ k t at. other_from t (Contains-from_read sides k t at));
      as_many = length-set cycle_of s r ∙ is.as_many;
      kept = λ t stands. read_unwritten cycle_of s t r (other_from t (in_old t stands)) ∙ is.kept t stands;
      numbered = λ t stands. elim (Contains-push_cases is.path s t stands) [
        | inl before ↦ read_unwritten cycle_of s t r (other_from t (in_path t before)) ∙ is.numbered t before
        | inr same ↦ ap (slice_get (set cycle_of s r)) (sym same) ∙ read_written cycle_of s r (omega (arith, is.below, is.as_many))
      ];
      told = told_more g traced sides s is.told is.below;
    }

    -- what comes behind s stands in no cycle either, unless the cycle is round
    pub traced_new : ((t : ℕ) → t < g.sides → Contains old_sides (along g t) → Contains old_sides t) → along g s ≢ first → Contains (sides ++ s ∷ []) (along g s) → ⊥
    traced_new closed other stands =
        let in_three = subst (λ xs. Contains xs (along g s)) (ap (λ (xs : List ℕ). xs ++ s ∷ []) is.are_sides ∙ append_assoc old_sides is.path (s ∷ [])) stands in
        elim (Contains-append_cases old_sides (is.path ++ s ∷ []) (along g s) in_three) [
          | inl old ↦ new (in_old s (closed s is.below old))
          | inr met ↦ elim (path_met known is.path s first (along g s) is.goes path_within is.below is.begins met refl) [
            | inl round ↦ other round
            | inr before ↦ new (in_path s before)
          ]
        ]
