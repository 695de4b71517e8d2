-- What stands round a vertex at which a choice is made.
use Rattle.std.proofs.Common.{◌≡◌, ℕ, ◌<◌, ◌≤◌, ◌≢◌, List, [], ◌∷◌, ◌++◌, ◌⊎◌, inl, inr, refl, sym, ap, subst, arith, ◌∙◌, suc, zero}
use Rattle.std.proofs.lemmas.Bool.{cases_eq}
use Rattle.rotation_systems.specs.RotationSystem.{RotationSystem, IsRotationSystem, turn, mirrored}
use Rattle.cover_walks.specs.Orders.{Has}
use Rattle.cover_walks.specs.Walks.{Touches, IsExhausted, AllFinished}
use Rattle.cover_walks.proofs.Turns.{turn_in, back_in}

-- what is used at a vertex that isn't exhausted stands in the stack, but for the half-edge that leads back along `avoid`
pub used_in_stack : (g : RotationSystem) (l : List ℕ) (avoid : ℕ) (done stack : List ℕ) (z s : ℕ) → (IsExhausted g l z → ⊥) → AllFinished g l avoid done →
    g.from s ≡ z → s ≢ g.twin avoid → Has g (done ++ stack) s → Has g stack s
used_in_stack g l avoid [] stack z s n h e k b = b
used_in_stack g l avoid (a ∷ done) stack z s n h e k (inl q) = absurd (n (subst (λ v. IsExhausted g l v) (ap g.from q ∙ e) h.0))
used_in_stack g l avoid (a ∷ done) stack z s n h e k (inr (inl q)) =
    elim h.1 [
      | inl p ↦ absurd (k (sym q ∙ ap g.twin p))
      | inr p ↦ absurd (n (subst (λ v. IsExhausted g l v) (ap g.from q ∙ e) p))
    ]
used_in_stack g l avoid (a ∷ done) stack z s n h e k (inr (inr b)) = used_in_stack g l avoid done stack z s n h.2 e k b

module _ (g : RotationSystem) (r : IsRotationSystem g) (start : ℕ) (stack : List ℕ) where
  -- the first one past those of the stack touches it, counterclockwise from a
  pub touches_ccw : (a k : ℕ) → a < g.sides → Has g stack a ⊎ (a ≡ start) → ((j : ℕ) → j < k → Has g stack (turn g (suc j) a)) → Touches g start stack (turn g (suc k) a)
  touches_ccw a zero b (inl h) f = inl (subst (λ x. Has g stack x) (sym (r.cw_ccw a b)) h)
  touches_ccw a zero b (inr e) f = inr (inr (inl (r.cw_ccw a b ∙ e)))
  touches_ccw a (suc k) b o f = inl (subst (λ x. Has g stack x) (sym (r.cw_ccw (turn g (suc k) a) (turn_in g r (suc k) a b))) (f k (omega arith)))

  -- and clockwise
  pub touches_cw : (a k : ℕ) → a < g.sides → Has g stack a ⊎ (g.cw a ≡ start) → ((j : ℕ) → j < k → Has g stack (turn (mirrored g) (suc j) a)) → Touches g start stack (turn (mirrored g) (suc k) a)
  touches_cw a zero b (inl h) f = inr (inl (subst (λ x. Has g stack x) (sym (r.ccw_cw a b)) h))
  touches_cw a zero b (inr e) f = inr (inr (inr e))
  touches_cw a (suc k) b o f = inr (inl (subst (λ x. Has g stack x) (sym (r.ccw_cw (turn (mirrored g) (suc k) a) (back_in g r (suc k) a b))) (f k (omega arith))))

  -- counterclockwise from a and clockwise from b one passes the stack and comes to one half-edge f
  module _ (a b f m n : ℕ) (in_a : a < g.sides) (in_b : b < g.sides)
      (joined : ((b ≡ a) × Has g stack a) ⊎ (b ≡ g.ccw a))
      (ccw_to : turn g (suc m) a ≡ f) (ccw_all : (j : ℕ) → j < m → Has g stack (turn g (suc j) a))
      (cw_to : turn (mirrored g) (suc n) b ≡ f) (cw_all : (j : ℕ) → j < n → Has g stack (turn (mirrored g) (suc j) b)) where
    -- s is met on one of the two ways
    Met : ℕ → Type 0
    Met s = ((s ≡ a) × Has g stack a) ⊎ ((j : ℕ) × (j ≤ m) × (s ≡ turn g (suc j) a)) ⊎ ((j : ℕ) × (j ≤ n) × (s ≡ turn (mirrored g) (suc j) b))

    met_back : (k : ℕ) → k ≤ suc n → Met (turn (mirrored g) k b)
    unfolding Met
    met_back zero h = elim joined [ inl q ↦ inl q | inr q ↦ inr (inl (0, omega arith, q)) ]
    met_back (suc k) h = inr (inr (k, omega arith, refl))

    -- from f counterclockwise one goes back along the clockwise way
    met_next : (s : ℕ) → Met s → Met (g.ccw s)
    unfolding Met
    met_next s (inl q) = inr (inl (0, omega arith, ap g.ccw q.0))
    met_next s (inr (inl (j, h, e))) =
        elim (cases_eq j m) [
          | inl q ↦
              let at_f : s ≡ turn (mirrored g) (suc n) b = e ∙ (ap (λ k. turn g (suc k) a) q ∙ (ccw_to ∙ sym cw_to)) in
              subst Met (sym (ap g.ccw at_f ∙ r.ccw_cw (turn (mirrored g) n b) (back_in g r n b in_b))) (met_back n (omega arith))
          | inr q ↦ inr (inl (suc j, omega arith, ap g.ccw e))
        ]
    met_next s (inr (inr (j, h, e))) =
        subst Met (sym (ap g.ccw e ∙ r.ccw_cw (turn (mirrored g) j b) (back_in g r j b in_b))) (met_back j (omega arith))

    met_turn : (k : ℕ) → Met (turn g (suc k) a)
    unfolding Met
    met_turn zero = inr (inl (0, omega arith, refl))
    met_turn (suc k) = met_next (turn g (suc k) a) (met_turn k)

    met_means : (s : ℕ) → Met s → Has g stack s ⊎ (s ≡ f)
    unfolding Met
    met_means s (inl q) = inl (subst (λ x. Has g stack x) (sym q.0) q.1)
    met_means s (inr (inl (j, h, e))) =
        elim (cases_eq j m) [
          | inl q ↦ inr (e ∙ (ap (λ k. turn g (suc k) a) q ∙ ccw_to))
          | inr q ↦ inl (subst (λ x. Has g stack x) (sym e) (ccw_all j (omega arith)))
        ]
    met_means s (inr (inr (j, h, e))) =
        elim (cases_eq j n) [
          | inl q ↦ inr (e ∙ (ap (λ k. turn (mirrored g) (suc k) b) q ∙ cw_to))
          | inr q ↦ inl (subst (λ x. Has g stack x) (sym e) (cw_all j (omega arith)))
        ]

    -- so nothing but f and the stack is at the vertex
    pub both_ways : (s : ℕ) → s < g.sides → g.from s ≡ g.from a → Has g stack s ⊎ (s ≡ f)
    both_ways s bs e =
        let w = r.whole a s in_a bs e in
        subst (λ x. Has g stack x ⊎ (x ≡ f)) w.2 (met_means (turn g (suc w.0) a) (met_turn w.0))
