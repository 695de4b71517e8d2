-- Places that are added to a list.
use Rattle.std.proofs.Common.{arith, ◌≡◌, ℕ, ◌+◌, ◌⊎◌, ◌↔◌, inl, inr, List, [], ◌∷◌, ◌++◌, length-append, subst}
use Rattle.std.specs.Prelude.{Contains}
use Rattle.std.proofs.lemmas.List.Elements.{Contains-append_left, Contains-push, Contains-push_cases}
use Rattle.nest_base.specs.declared.places.Point.{Point}
use Rattle.segment_split.specs.CutPoints.{AddsPlaces}

-- nothing is added where nothing is wanted
pub adds_none : (P : Point → Type 0) (n : ℕ) (places : List Point) → ((q : Point) → P q → ⊥) → AddsPlaces P n places places
adds_none P n places none = record {
  are_all = λ q. (λ c. inl c, λ h. elim h [ inl c ↦ c | inr wanted ↦ absurd (none q wanted) ]);
  few = omega arith;
}

-- one place, where just that one is wanted
pub adds_one : (P : Point → Type 0) (n : ℕ) (places : List Point) (p : Point) → P p → ((q : Point) → P q → p ≡ q) → AddsPlaces P (n + 1) places (places ++ p ∷ [])
adds_one P n places p here only = record {
  are_all = λ q. (
    λ c. elim (Contains-push_cases places p q c) [ inl before ↦ inl before | inr same ↦ inr (subst P same here) ],
    λ h. elim h [
      | inl before ↦ Contains-append_left places (p ∷ []) q before
      | inr wanted ↦ subst (Contains (places ++ p ∷ [])) (only q wanted) (Contains-push places p)
    ],
  );
  few = omega (arith, length-append places (p ∷ []));
}

-- those with P, and then those with Q
pub adds_then : (P Q R : Point → Type 0) (m n : ℕ) (first second third : List Point) → AddsPlaces P m first second → AddsPlaces Q n second third →
    ((q : Point) → R q ↔ (P q ⊎ Q q)) → AddsPlaces R (m + n) first third
adds_then P Q R m n first second third h k either = record {
  are_all = λ q. (
    λ c. elim ((k.are_all q).0 c) [
      | inl between ↦ elim ((h.are_all q).0 between) [ inl before ↦ inl before | inr p ↦ inr ((either q).1 (inl p)) ]
      | inr p ↦ inr ((either q).1 (inr p))
    ],
    λ c. elim c [
      | inl before ↦ (k.are_all q).1 (inl ((h.are_all q).1 (inl before)))
      | inr r ↦ elim ((either q).0 r) [ inl p ↦ (k.are_all q).1 (inl ((h.are_all q).1 (inr p))) | inr p ↦ (k.are_all q).1 (inr p) ]
    ],
  );
  few = omega (arith, h.few, k.few);
}
