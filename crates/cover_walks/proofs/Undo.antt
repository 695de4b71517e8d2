-- The first walk was closed, and so were others; now the first open one has ended. What is done is given up, and the stack stays.
use Rattle.std.proofs.Common.{◌≡◌, ℕ, ◌<◌, ◌≤◌, ◌≢◌, ◌+◌, ◌%◌, List, [], ◌∷◌, ◌++◌, ◌⊎◌, inl, inr, refl, sym, ap, subst, arith, ◌∙◌}
use Rattle.rotation_systems.specs.RotationSystem.{RotationSystem, IsRotationSystem, to, same, degree}
use Rattle.cover_walks.specs.Orders.{Has, Once, Grows}
use Rattle.cover_walks.specs.Walks.{EndsAt, IsExhausted, AllFinished, CanFollow, IsStack, TopLeaves, breaks_after, ends, is_odd, odd_within, odd_count, Laid, Walking, Exhausting, IsCounted}
use Rattle.cover_walks.proofs.Numbers.{differ_tells, same_same, same_other, total_two}
use Rattle.cover_walks.proofs.Holdings.{inside_rest}
use Rattle.cover_walks.proofs.Parity.{exhausted_even, ends_append, within_at, within_same}

-- the stack alone is as good an order
module _ (g : RotationSystem) where
  grows_rest : (Outer : ℕ → Type 0) (done stack : List ℕ) → Grows g Outer (done ++ stack) → Grows g Outer stack
  grows_rest Outer [] stack h = h
  grows_rest Outer (a ∷ done) stack h = grows_rest Outer done stack h.1

  once_rest : (done stack : List ℕ) → Once g (done ++ stack) → Once g stack
  once_rest [] stack h = h
  once_rest (a ∷ done) stack h = once_rest done stack h.1

  ends_rest : (v : ℕ) (done stack : List ℕ) → EndsAt g v (done ++ stack) → EndsAt g v stack
  ends_rest v [] stack h = h
  ends_rest v (a ∷ []) [] h = tt
  ends_rest v (a ∷ []) (b ∷ stack) h = h
  ends_rest v (a ∷ b ∷ done) stack h = ends_rest v (b ∷ done) stack h

  pub laid_rest : (component : ℕ → ℕ) (c start : ℕ) (done stack : List ℕ) → Laid g component c start (done ++ stack) → Laid g component c start stack
  laid_rest component c start done stack h = record {
    inside = inside_rest g component c done stack h.inside;
    once = once_rest done stack h.once;
    grows = grows_rest (λ s. s ≡ start) done stack h.grows;
    last = ends_rest (g.from start) done stack h.last;
  }

-- a stack without breaks is a trail from z to the root
module _ (g : RotationSystem) (root : ℕ) where
  pub trail_ends : (l : List ℕ) (x z : ℕ) (stack : List ℕ) → CanFollow g l root x z stack → IsStack g l root x stack → breaks_after g z stack ≡ 0 →
      (v : ℕ) → (ends g stack v + (same z v + same root v)) % 2 ≡ 0
  trail_ends l x z [] k s b v = let e : same z v ≡ same root v = ap (λ u. same u v) k in omega arith
  trail_ends l x z (a ∷ stack) k s b v =
      let rest = trail_ends l x (to g a) stack s.0 s.1 (omega arith) v in
      elim (differ_tells z (g.from a)) [
        | inl q ↦ let e : same z v ≡ same (g.from a) v = ap (λ u. same u v) q.0 in omega arith
        | inr q ↦ absurd (omega arith)
      ]

  -- so it may stand whatever is done
  pub trail_stack : (l m : List ℕ) (x z u : ℕ) (stack : List ℕ) → CanFollow g l root x z stack → IsStack g l root x stack → breaks_after g z stack ≡ 0 →
      CanFollow g m root u z stack × IsStack g m root u stack
  trail_stack l m x z u [] k s b = (k, tt)
  trail_stack l m x z u (a ∷ stack) k s b =
      let rest = trail_stack l m x (to g a) u stack s.0 s.1 (omega arith) in
      elim (differ_tells z (g.from a)) [
        | inl q ↦ (inl (sym q.0), rest)
        | inr q ↦ absurd (omega arith)
      ]

  -- and a walk from the root may begin on it, where z is exhausted
  from_root : (all stack : List ℕ) {z : ℕ} → IsExhausted g all z → CanFollow g all root root z stack → CanFollow g all root root root stack
  from_root all [] h k = refl
  from_root all (a ∷ stack) h (inl e) = inr (subst (λ v. IsExhausted g all v) (sym e) h, inl refl)
  from_root all (a ∷ stack) h (inr k) = inr (k.0, inl refl)

module _ (g : RotationSystem) where
  -- a vertex with none of the edges that are done is exhausted without them
  exhausted_rest : (done stack : List ℕ) (v : ℕ) → ((s : ℕ) → Has g done s → g.from s ≢ v) → IsExhausted g (done ++ stack) v → IsExhausted g stack v
  exhausted_rest done stack v n h s b e = go done n (h s b e)
    where
      go : (done : List ℕ) → ((s : ℕ) → Has g done s → g.from s ≢ v) → Has g (done ++ stack) s → Has g stack s
      go [] n k = k
      go (a ∷ done) n (inl q) = absurd (n s (inl q) e)
      go (a ∷ done) n (inr (inl q)) = absurd (n s (inr (inl q)) e)
      go (a ∷ done) n (inr (inr k)) = go done (λ s k. n s (inr (inr k))) k

  -- the edges that are done have exhausted ends, but for x
  ends_done : (l : List ℕ) (avoid x : ℕ) (done : List ℕ) → AllFinished g l avoid done → to g avoid ≡ x →
      (s : ℕ) → Has g done s → IsExhausted g l (g.from s) ⊎ (g.from s ≡ x)
  ends_done l avoid x [] h e s b = elim b [ ]
  ends_done l avoid x (a ∷ done) h e s (inl q) = inl (subst (λ y. IsExhausted g l (g.from y)) q h.0)
  ends_done l avoid x (a ∷ done) h e s (inr (inl q)) =
      elim h.1 [
        | inl p ↦ inr (sym (ap g.from q) ∙ (ap (to g) p ∙ e))
        | inr p ↦ inl (subst (λ y. IsExhausted g l (g.from y)) q p)
      ]
  ends_done l avoid x (a ∷ done) h e s (inr (inr b)) = ends_done l avoid x done h.2 e s b

module _ (g : RotationSystem) (r : IsRotationSystem g) (component : ℕ → ℕ) (c : ℕ) (start avoid x y : ℕ) (done base stack : List ℕ)
    (e : Exhausting g component c start avoid x done base)
    (w : Walking g component c start avoid x y done base stack)
    (h : IsExhausted g (done ++ stack) y)
    (unbroken : breaks_after g x base ≡ 0)
    (closed : (v : ℕ) → ends g (done ++ base) v % 2 ≡ 0)
    (even_root : degree g (g.from start) % 2 ≡ 0)
    (opened : x ≢ y) where
  -- y was odd when the walk began
  was_odd : is_odd g (done ++ base) y ≡ 1
  was_odd =
      let a = ends_append g done stack y in
      let b = ends_append g done base y in
      let m = w.ends y in
      let even = exhausted_even g r component c (done ++ stack) y w.laid.inside w.laid.once h in
      let yy : same y y ≡ 1 = same_same y y refl in
      let xy : same x y ≡ 0 = same_other x y opened in
      omega arith

  -- so it has an odd number of edges, and the root an even one
  pub not_root : y ≢ g.from start
  not_root q =
      let c1 = closed y in
      let o = was_odd in
      let d : degree g y ≡ degree g (g.from start) = ap (degree g) q in
      omega arith

  pub still_exhausted : IsExhausted g stack y
  still_exhausted = exhausted_rest g done stack y
      (λ s k q. elim (ends_done g (done ++ base) avoid x done e.finished e.ends_at s k) [
        | inl p ↦
            let even = exhausted_even g r component c (done ++ base) y e.laid.inside e.laid.once (subst (λ v. IsExhausted g (done ++ base) v) q p) in
            let o = was_odd in
            absurd (omega arith)
        | inr p ↦ opened (sym p ∙ q)
      ]) h

  -- a walk from the root begins on the stack alone
  pub unburnt : (none : ℕ) → component (g.from start) ≡ c → Walking g component c start none (g.from start) (g.from start) [] stack stack
  unburnt none at_c =
      let t = trail_stack g (g.from start) (done ++ stack) stack x y (g.from start) stack w.follow w.shape (w.breaks ∙ unbroken) in
      record {
        laid = laid_rest g component c start done stack w.laid;
        place = at_c;
        stands = inl (refl, refl);
        finished = tt;
        follow = from_root g (g.from start) stack stack still_exhausted t.0;
        shape = t.1;
        breaks = refl;
        ends = λ v. omega arith;
      }

  pub root_odd : is_odd g stack (g.from start) ≡ 1
  root_odd =
      let t = trail_ends g (g.from start) (done ++ stack) x y stack w.follow w.shape (w.breaks ∙ unbroken) (g.from start) in
      let one : same (g.from start) (g.from start) ≡ 1 = same_same (g.from start) (g.from start) refl in
      let none : same y (g.from start) ≡ 0 = same_other y (g.from start) not_root in
      omega arith

  -- there are as many odd vertices as at first: the root in place of y
  pub counted : (vertices : ℕ) → y < vertices → g.from start < vertices → component (g.from start) ≡ c → IsCounted g component c vertices (odd_count g component c vertices []) (g.from start) [] stack
  counted vertices by bx of_root =
      let zero = w.breaks ∙ unbroken in
      let two = total_two (λ v. odd_within g component c stack v) (λ v. odd_within g component c [] v) (g.from start) y vertices bx by (λ q. not_root (sym q))
      (λ s nr ny. within_same g component c stack [] s (agree s nr ny)) in
      let fx = within_at g component c stack (g.from start) of_root in
      let fy = within_at g component c stack y w.place in
      let hx = within_at g component c [] (g.from start) of_root in
      let hy = within_at g component c [] y w.place in
      let rest = laid_rest g component c start done stack w.laid in
      let odd_root = root_odd in
      let even = exhausted_even g r component c stack y rest.inside rest.once still_exhausted in
      let was : is_odd g [] y ≡ 1 = start_odd in
      let few = at_most_one stack w.stands zero in
      omega arith
    where
      start_odd : is_odd g [] y ≡ 1
      start_odd = let o = was_odd in let d = closed y in omega arith

      agree : (s : ℕ) → s ≢ g.from start → s ≢ y → is_odd g stack s ≡ is_odd g [] s
      agree s nr ny =
          let t = trail_ends g (g.from start) (done ++ stack) x y stack w.follow w.shape (w.breaks ∙ unbroken) s in
          let a : same y s ≡ 0 = same_other y s (λ q. ny (sym q)) in
          let b : same (g.from start) s ≡ 0 = same_other (g.from start) s (λ q. nr (sym q)) in
          omega arith

      at_most_one : (stack : List ℕ) → ((y ≡ x) × (stack ≡ base)) ⊎ TopLeaves g y stack → breaks_after g y stack ≡ 0 → breaks_after g (g.from start) stack ≤ 1
      at_most_one stack (inl q) z = absurd (opened (sym q.0))
      at_most_one [] (inr q) z = omega arith
      at_most_one (a ∷ stack) (inr q) z =
          elim (differ_tells (g.from start) (g.from a)) [ inl k ↦ omega arith | inr k ↦ omega arith ]
