-- The half-edge at which one stops is unused and touches the stack: counterclockwise, unless one stops at the one to avoid; else
-- clockwise.
use Rattle.std.proofs.Common.{◌≡◌, ℕ, ◌<◌, ◌≢◌, List, ◌++◌, ◌⊎◌, inl, inr, sym, ap, subst, ◌∙◌, suc, Bool, IsTrue}
use Rattle.rotation_systems.specs.RotationSystem.{RotationSystem, IsRotationSystem, turn, mirrored}
use Rattle.cover_walks.specs.Orders.{Has}
use Rattle.cover_walks.specs.Walks.{Touches, IsExhausted}
use Rattle.cover_walks.specs.Choices.{Stops, IsReference, CanChoose, IsChosen}
use Rattle.cover_walks.proofs.Holdings.{Has-after}
use Rattle.cover_walks.proofs.Turns.{turn_in, back_in, turn_from, back_from}
use Rattle.cover_walks.proofs.Choice.{used_in_stack, touches_ccw, touches_cw, both_ways}

module _ (g : RotationSystem) (r : IsRotationSystem g) (burnt : ℕ → Bool) (start avoid z : ℕ) (done stack : List ℕ) (k : CanChoose g burnt avoid z done stack) where
  not_exhausted : IsExhausted g (done ++ stack) z → ⊥
  not_exhausted e = let (s, b, at, n) = k.free in n ((k.marks s b at).1 (e s b at))

  in_stack : (s : ℕ) → s < g.sides → g.from s ≡ z → IsTrue (burnt s) → s ≢ g.twin avoid → Has g stack s
  in_stack s b at is n = used_in_stack g (done ++ stack) avoid done stack z s not_exhausted k.finished at n ((k.marks s b at).0 is)

  module _ (left right : ℕ) (f : IsReference g start stack z left right) where
    at_turn : (j : ℕ) → g.from (turn g j left) ≡ z
    at_turn j = turn_from g r j left f.left_in ∙ f.left_at

    at_back : (j : ℕ) → g.from (turn (mirrored g) j right) ≡ z
    at_back j = back_from g r j right f.right_in ∙ f.right_at

    ccw_passed : {t : ℕ} → (p : Stops g burnt left (g.twin avoid) t) → (j : ℕ) → j < p.steps → Has g stack (turn g (suc j) left)
    ccw_passed p j b = in_stack (turn g (suc j) left) (turn_in g r (suc j) left f.left_in) (at_turn (suc j)) (p.passes.passed j b).0 (p.passes.passed j b).1

    cw_passed : {t : ℕ} → (p : Stops (mirrored g) burnt right (g.twin avoid) t) → (j : ℕ) → j < p.steps → Has g stack (turn (mirrored g) (suc j) right)
    cw_passed p j b = in_stack (turn (mirrored g) (suc j) right) (back_in g r (suc j) right f.right_in) (at_back (suc j)) (p.passes.passed j b).0 (p.passes.passed j b).1

    pub chosen_ccw : {t : ℕ} → Stops g burnt left (g.twin avoid) t → t ≢ g.twin avoid → IsChosen g start z done stack t
    chosen_ccw {t} p n =
        let in_t : t < g.sides = subst (λ s. s < g.sides) (sym p.passes.at) (turn_in g r (suc p.steps) left f.left_in) in
        let at_t : g.from t ≡ z = ap g.from p.passes.at ∙ at_turn (suc p.steps) in
        record {
          side = in_t;
          leaves = at_t;
          unused = λ b. elim p.stops [ inl u ↦ u ((k.marks t in_t at_t).1 b) | inr e ↦ n e ];
          touches = subst (λ s. Touches g start stack s) (sym p.passes.at)
              (touches_ccw g r start stack left p.steps f.left_in (elim f.between [ inl q ↦ inl q.1 | inr q ↦ inr q.0 ]) (ccw_passed p));
        }

    pub chosen_cw : {t u : ℕ} → Stops g burnt left (g.twin avoid) t → t ≡ g.twin avoid → Stops (mirrored g) burnt right (g.twin avoid) u → IsChosen g start z done stack u
    chosen_cw {t} {u} p e q =
        let in_u : u < g.sides = subst (λ s. s < g.sides) (sym q.passes.at) (back_in g r (suc q.steps) right f.right_in) in
        let at_u : g.from u ≡ z = ap g.from q.passes.at ∙ at_back (suc q.steps) in
        record {
          side = in_u;
          leaves = at_u;
          unused = λ b. elim q.stops [ inl n ↦ n ((k.marks u in_u at_u).1 b) | inr d ↦ no_room d ];
          touches = subst (λ s. Touches g start stack s) (sym q.passes.at) (touches_cw g r start stack right q.steps f.right_in from_right (cw_passed q));
        }
      where
        from_right : Has g stack right ⊎ (g.cw right ≡ start)
        from_right = elim f.between [
          | inl b ↦ inl (subst (λ s. Has g stack s) (sym b.0) b.1)
          | inr b ↦ inr (ap g.cw b.1 ∙ r.cw_ccw start (subst (λ s. s < g.sides) b.0 f.left_in))
        ]

        -- both ways stop at the one to avoid: then all is burnt, but one isn't
        no_room : u ≡ g.twin avoid → ⊥
        no_room d =
            let (s, b, at, n) = k.free in
            let joined : ((right ≡ left) × Has g stack left) ⊎ (right ≡ g.ccw left) =
            elim f.between [ inl j ↦ inl j | inr j ↦ inr (j.1 ∙ ap g.ccw (sym j.0)) ] in
            elim (both_ways g r start stack left right (g.twin avoid) p.steps q.steps f.left_in f.right_in joined
            (sym p.passes.at ∙ e) (ccw_passed p) (sym q.passes.at ∙ d) (cw_passed q) s b (at ∙ sym f.left_at)) [
              | inl has ↦ n ((k.marks s b at).1 (Has-after g done stack s has))
              | inr is ↦ n (subst (λ s. IsTrue (burnt s)) (sym is) (k.avoided (subst (λ s. s < g.sides) is b)))
            ]
