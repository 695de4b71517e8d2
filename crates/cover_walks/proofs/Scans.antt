-- A scan round a vertex goes on past what is burnt, and comes to an end.
use Rattle.std.proofs.Common.{◌≡◌, ℕ, ◌<◌, ◌≤◌, ◌≢◌, ◌+◌, ◌⊎◌, inl, inr, sym, ap, subst, arith, ◌∙◌, suc, zero, below_more, add-one, Bool, true, false, IsTrue, refl}
use Rattle.std.proofs.lemmas.Bool.{cases_eq, cases_lt}
use Rattle.rotation_systems.specs.RotationSystem.{RotationSystem, IsRotationSystem, turn, degree}
use Rattle.cover_walks.specs.Choices.{HasUnburnt, AllBurnt, Turned, Passes}
use Rattle.cover_walks.proofs.Turns.{turn_in, turn_from}

module _ (g : RotationSystem) (r : IsRotationSystem g) (burnt : ℕ → Bool) (a avoid : ℕ) (in_a : a < g.sides) where
  pub passes_in : {k t : ℕ} → Passes g burnt a avoid k t → t < g.sides
  passes_in {k} p = subst (λ s. s < g.sides) (sym p.at) (turn_in g r (suc k) a in_a)

  pub passes_next : {k t u : ℕ} → Passes g burnt a avoid k t → IsTrue (burnt t) → t ≢ avoid → u ≡ g.ccw t → Passes g burnt a avoid (k + 1) u
  passes_next {k} {t} p b n e = record {
    at = rw add-one (e ∙ ap g.ccw p.at);
    passed = below_more (λ j. IsTrue (burnt (turn g (suc j) a)) × (turn g (suc j) a ≢ avoid)) k p.passed
        (subst (λ s. IsTrue (burnt s) × (s ≢ avoid)) p.at (b, n));
  }

  -- as many steps as half-edges leave the vertex would pass all of them
  pub passes_no_end : {k t : ℕ} → Passes g burnt a avoid k t → degree g (g.from a) ≤ k → HasUnburnt g burnt (g.from a) → ⊥
  passes_no_end {k} p l (s, b, e, n) =
      let w = r.whole a s in_a b e in
      n (subst (λ s. IsTrue (burnt s)) w.2 (p.passed w.0 (omega (arith, w.1))).0)

module _ (g : RotationSystem) (r : IsRotationSystem g) (burnt : ℕ → Bool) (a : ℕ) (in_a : a < g.sides) where
  pub turned_in : {k t : ℕ} → Turned g burnt a k t → t < g.sides
  turned_in {k} p = subst (λ s. s < g.sides) (sym p.at) (turn_in g r k a in_a)

  pub turned_next : {k t u : ℕ} → Turned g burnt a k t → u ≡ g.ccw t → IsTrue (burnt u) → Turned g burnt a (k + 1) u
  turned_next {k} {t} {u} p e b = record {
    at = rw add-one (e ∙ ap g.ccw p.at);
    passed = below_more (λ j. IsTrue (burnt (turn g (suc j) a))) k p.passed (subst (λ s. IsTrue (burnt s)) (e ∙ ap g.ccw p.at) b);
  }

  pub turned_free : {k t u : ℕ} → Turned g burnt a k t → u ≡ g.ccw t → (IsTrue (burnt u) → ⊥) → HasUnburnt g burnt (g.from a)
  turned_free {k} {t} {u} p e n =
      let is : u ≡ turn g (suc k) a = e ∙ ap g.ccw p.at in
      (u, subst (λ s. s < g.sides) (sym is) (turn_in g r (suc k) a in_a), ap g.from is ∙ turn_from g r (suc k) a in_a, n)

  pub turned_all : {k t : ℕ} → Turned g burnt a k t → degree g (g.from a) ≤ k → AllBurnt g burnt (g.from a)
  turned_all {k} p l s b e =
      let w = r.whole a s in_a b e in
      subst (λ s. IsTrue (burnt s)) w.2 (p.passed w.0 (omega (arith, w.1)))

-- a vertex has an unburnt half-edge, or all are burnt
pub find_unburnt : (g : RotationSystem) (burnt : ℕ → Bool) (v : ℕ) → AllBurnt g burnt v ⊎ HasUnburnt g burnt v
find_unburnt g burnt v = elim (below g.sides) [ inl h ↦ inl (λ s b e. h s b b e) | inr k ↦ inr k ]
  where
    test : (b : Bool) → IsTrue b ⊎ (IsTrue b → ⊥)
    test true = inl refl
    test false = inr (λ e. cc)

    below : (n : ℕ) → ((s : ℕ) → s < n → s < g.sides → g.from s ≡ v → IsTrue (burnt s)) ⊎ HasUnburnt g burnt v
    below zero = inl (λ s b c e. absurd (omega arith))
    below (suc n) =
        elim (below n) [
          | inr k ↦ inr k
          | inl h ↦ elim (test (burnt n)) [
            | inl is ↦ inl (λ s b c e. elim (cases_eq s n) [ inl q ↦ subst (λ u. IsTrue (burnt u)) (sym q) is | inr q ↦ h s (omega arith) c e ])
            | inr not ↦ elim (cases_lt n g.sides) [
              | inr far ↦ inl (λ s b c e. elim (cases_eq s n) [ inl q ↦ absurd (omega arith) | inr q ↦ h s (omega arith) c e ])
              | inl near ↦ elim (cases_eq (g.from n) v) [
                | inl at ↦ inr (n, near, at, not)
                | inr off ↦ inl (λ s b c e. elim (cases_eq s n) [ inl q ↦ absurd (off (ap g.from (sym q) ∙ e)) | inr q ↦ h s (omega arith) c e ])
              ]
            ]
          ]
        ]
