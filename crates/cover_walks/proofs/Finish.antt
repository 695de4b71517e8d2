-- The stack is empty: each edge of the component is used. And the count while it becomes so.
use Rattle.std.proofs.Common.{◌≡◌, ℕ, ◌<◌, ◌≤◌, ◌≢◌, ◌+◌, List, [], ◌∷◌, ◌++◌, inl, inr, refl, sym, ap, subst, arith, ◌∙◌, suc, append-nil, append_assoc}
use Rattle.rotation_systems.specs.RotationSystem.{RotationSystem, IsRotationSystem, to}
use Rattle.cover_walks.specs.Orders.{Has}
use Rattle.cover_walks.specs.Chains.{Linked, at_root, over}
use Rattle.cover_walks.specs.Walks.{EndsAt, Inside, IsExhausted, AllFinished, TopLeaves, breaks_after, breaks, is_odd, odd_count, Laid, Walking, Ready, IsCounted}
use Rattle.cover_walks.proofs.Numbers.{differ_tells}
use Rattle.cover_walks.proofs.Parity.{exhausted_even, breaks_append}

module _ (g : RotationSystem) (r : IsRotationSystem g) (component : ℕ → ℕ) (c : ℕ) (start : ℕ) where
  finished_at : (l done : List ℕ) → Inside g component c done → AllFinished g l g.sides done → (s : ℕ) → Has g done s → IsExhausted g l (g.from s) × IsExhausted g l (to g s)
  finished_at l [] i h s b = elim b [ ]
  finished_at l (a ∷ done) i h s (inl q) = (
    subst (λ y. IsExhausted g l (g.from y)) q h.0,
    elim h.1 [ inl e ↦ absurd (omega (arith, e, i.0)) | inr k ↦ subst (λ y. IsExhausted g l (to g y)) q k ],
  )
  finished_at l (a ∷ done) i h s (inr (inl q)) = (
    elim h.1 [ inl e ↦ absurd (omega (arith, e, i.0)) | inr k ↦ subst (λ y. IsExhausted g l (g.from y)) q k ],
    subst (λ y. IsExhausted g l (to g y)) q (subst (λ y. IsExhausted g l (g.from y)) (sym (r.twin_twin a)) h.0),
  )
  finished_at l (a ∷ done) i h s (inr (inr b)) = finished_at l done i.2 h.2 s b

  -- the last half-edge leads to the root
  root_exhausted : (l : List ℕ) (a : ℕ) (done : List ℕ) → AllFinished g l g.sides (a ∷ done) → Inside g component c (a ∷ done) → EndsAt g (g.from start) (a ∷ done) → IsExhausted g l (g.from start)
  root_exhausted l a [] h i e = elim h.1 [ inl q ↦ absurd (omega (arith, q, i.0)) | inr k ↦ subst (λ v. IsExhausted g l v) e k ]
  root_exhausted l a (b ∷ done) h i e = root_exhausted l b done h.2 i.2 e

  -- so are the vertices to which half-edges lead from it
  linked_exhausted : (done : List ℕ) → Inside g component c done → AllFinished g done g.sides done → IsExhausted g done (g.from start) → (v : ℕ) → Linked g (g.from start) v → IsExhausted g done v
  linked_exhausted done i h e v at_root = e
  linked_exhausted done i h e v (over {s} b k) =
      let at = linked_exhausted done i h e (g.from s) k in
      (finished_at done done i h s (at s b refl)).1

  pub all_used : (a : ℕ) (done : List ℕ) → Ready g component c start (a ∷ done) [] → ((s : ℕ) → s < g.sides → component (g.from s) ≡ c → Linked g (g.from start) (g.from s)) →
      (s : ℕ) → s < g.sides → component (g.from s) ≡ c → Has g (a ∷ done) s
  all_used a done h k s b e =
      let d : (a ∷ done) ++ [] ≡ a ∷ done = append-nil (a ∷ done) in
      let f = subst (λ l. AllFinished g l g.sides (a ∷ done)) d h.finished in
      let i = subst (λ l. Inside g component c l) d h.laid.inside in
      let z = subst (λ l. EndsAt g (g.from start) l) d h.laid.last in
      linked_exhausted (a ∷ done) i f (root_exhausted (a ∷ done) a done f i z) (g.from s) (k s b e) s b refl

  -- the count when the vertex is exhausted to which the top of the stack led before it moved
  pub counted_settle : (vertices most : ℕ) (done : List ℕ) (f : ℕ) (stack : List ℕ) → Laid g component c start ((done ++ (f ∷ [])) ++ stack) → IsCounted g component c vertices most (to g f) (done ++ (f ∷ [])) stack →
      IsExhausted g ((done ++ (f ∷ [])) ++ stack) (to g f) →
      breaks g (done ++ (f ∷ stack)) + odd_count g component c vertices (done ++ (f ∷ stack)) ≤ most
  counted_settle vertices most done f stack laid k h =
      let e = append_assoc done (f ∷ []) stack in
      let b = breaks_append g done f stack in
      let even = exhausted_even g r component c ((done ++ (f ∷ [])) ++ stack) (to g f) laid.inside laid.once h in
      let o : odd_count g component c vertices ((done ++ (f ∷ [])) ++ stack) ≡ odd_count g component c vertices (done ++ (f ∷ stack)) = ap (λ l. odd_count g component c vertices l) e in
      omega arith

module _ (g : RotationSystem) (component : ℕ → ℕ) (c : ℕ) where
  -- the first walks: nothing is done yet
  pub ready_first : (start avoid y : ℕ) (base stack : List ℕ) → Walking g component c start avoid (g.from start) y [] base stack → IsExhausted g stack y → TopLeaves g y stack → Ready g component c start [] stack
  ready_first start avoid y base [] w h k = absurd k
  ready_first start avoid y base (a ∷ stack) w h k = record {
    laid = w.laid;
    finished = tt;
    shape = w.shape;
    top = subst (λ v. IsExhausted g (a ∷ stack) v) (sym k) h;
  }

  -- the last of them was open: a break between it and the root was counted, and isn't made
  pub counted_first : (root vertices most y : ℕ) (stack : List ℕ) → IsCounted g component c vertices most root [] stack → TopLeaves g y stack → y ≢ root → is_odd g stack root ≡ 0 →
      suc (breaks g stack + odd_count g component c vertices stack) ≤ most
  counted_first root vertices most y [] k q n z = absurd q
  counted_first root vertices most y (a ∷ stack) k q n z =
      elim (differ_tells root (g.from a)) [
        | inl p ↦ absurd (n (sym (p.0 ∙ q)))
        | inr p ↦ omega arith
      ]

  -- the count when the top of the stack moves
  pub counted_pop : (vertices most : ℕ) (done : List ℕ) (f : ℕ) (stack : List ℕ) → breaks g (done ++ (f ∷ stack)) + odd_count g component c vertices (done ++ (f ∷ stack)) ≤ most →
      IsCounted g component c vertices most (to g f) (done ++ (f ∷ [])) stack
  counted_pop vertices most done f stack k =
      let e = append_assoc done (f ∷ []) stack in
      let b = breaks_append g done f stack in
      let o : odd_count g component c vertices ((done ++ (f ∷ [])) ++ stack) ≡ odd_count g component c vertices (done ++ (f ∷ stack)) = ap (λ l. odd_count g component c vertices l) e in
      let all = breaks_after g (to g f) stack in
      omega arith
