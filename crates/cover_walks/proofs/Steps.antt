-- The steps of the work: a walk begins, goes on and ends; the top of the stack moves; a vertex is exhausted.
use Rattle.std.proofs.Common.{◌≡◌, ℕ, ◌<◌, List, [], ◌∷◌, ◌++◌, ◌⊎◌, inl, inr, refl, sym, ap, subst, arith, ◌∙◌, append_assoc, ◌+◌}
use Rattle.rotation_systems.specs.RotationSystem.{RotationSystem, IsRotationSystem, Divides, to, same}
use Rattle.cover_walks.specs.Orders.{Has, Reached}
use Rattle.cover_walks.specs.Walks.{Inside, Touches, IsExhausted, AllFinished, IsSettled, CanFollow, IsStack, EndsAt, TopLeaves, Laid, Walking, TopIsExhausted, Ready, Exhausting, breaks_after, differ}
use Rattle.cover_walks.proofs.Numbers.{differ_same}
use Rattle.cover_walks.proofs.Holdings.{Has-twin, Has-insert, once_insert, inside_insert, inside_at, inside_front}
use Rattle.cover_walks.proofs.Growth.{ReachedSide, grows_insert, reached_touching}

-- what is exhausted, finished or settled stays so when the order has more
module _ (g : RotationSystem) (l m : List ℕ) (wider : (s : ℕ) → Has g l s → Has g m s) where
  pub exhausted_more : (v : ℕ) → IsExhausted g l v → IsExhausted g m v
  exhausted_more v h s b e = wider s (h s b e)

  pub finished_more : (avoid : ℕ) (done : List ℕ) → AllFinished g l avoid done → AllFinished g m avoid done
  finished_more avoid [] h = tt
  finished_more avoid (a ∷ done) h =
      (exhausted_more (g.from a) h.0, elim h.1 [ inl e ↦ inl e | inr k ↦ inr (exhausted_more (to g a) k) ], finished_more avoid done h.2)

  pub settled_more : (root x v : ℕ) → IsSettled g l root x v → IsSettled g m root x v
  settled_more root x v (inl e) = inl e
  settled_more root x v (inr (inl h)) = inr (inl (exhausted_more v h))
  settled_more root x v (inr (inr e)) = inr (inr e)

  pub follow_more : (root x z : ℕ) (stack : List ℕ) → CanFollow g l root x z stack → CanFollow g m root x z stack
  follow_more root x z [] h = h
  follow_more root x z (a ∷ stack) (inl e) = inl e
  follow_more root x z (a ∷ stack) (inr k) = inr (exhausted_more (g.from a) k.0, settled_more root x z k.1)

  pub stack_more : (root x : ℕ) (stack : List ℕ) → IsStack g l root x stack → IsStack g m root x stack
  stack_more root x [] h = tt
  stack_more root x (a ∷ stack) h = (follow_more root x (to g a) stack h.0, stack_more root x stack h.1)

-- the vertex that is being exhausted, in a stack: x comes, and goes when it is exhausted
module _ (g : RotationSystem) (l : List ℕ) (root x : ℕ) where
  settled_for : (v : ℕ) → IsSettled g l root root v → IsSettled g l root x v
  settled_for v (inl e) = inl e
  settled_for v (inr (inl h)) = inr (inl h)
  settled_for v (inr (inr e)) = inl e

  follow_for : (z : ℕ) (stack : List ℕ) → CanFollow g l root root z stack → CanFollow g l root x z stack
  follow_for z [] h = h
  follow_for z (a ∷ stack) (inl e) = inl e
  follow_for z (a ∷ stack) (inr k) = inr (k.0, settled_for z k.1)

  stack_for : (stack : List ℕ) → IsStack g l root root stack → IsStack g l root x stack
  stack_for [] h = tt
  stack_for (a ∷ stack) h = (follow_for (to g a) stack h.0, stack_for stack h.1)

  module _ (h : IsExhausted g l x) where
    settled_now : (v : ℕ) → IsSettled g l root x v → IsSettled g l root root v
    settled_now v (inl e) = inl e
    settled_now v (inr (inl k)) = inr (inl k)
    settled_now v (inr (inr e)) = inr (inl (subst (λ y. IsExhausted g l y) (sym e) h))

    follow_settled : (z : ℕ) (stack : List ℕ) → CanFollow g l root x z stack → CanFollow g l root root z stack
    follow_settled z [] k = k
    follow_settled z (a ∷ stack) (inl e) = inl e
    follow_settled z (a ∷ stack) (inr k) = inr (k.0, settled_now z k.1)

    stack_settled : (stack : List ℕ) → IsStack g l root x stack → IsStack g l root root stack
    stack_settled [] k = tt
    stack_settled (a ∷ stack) k = (follow_settled (to g a) stack k.0, stack_settled stack k.1)

    top_settled : (stack : List ℕ) → CanFollow g l root x x stack → TopIsExhausted g l stack
    top_settled [] k = tt
    top_settled (a ∷ stack) (inl e) = subst (λ v. IsExhausted g l v) (sym e) h
    top_settled (a ∷ stack) (inr k) = k.0

    finished_all : (avoid : ℕ) (done : List ℕ) → AllFinished g l avoid done → to g avoid ≡ x → AllFinished g l g.sides done
    finished_all avoid [] k e = tt
    finished_all avoid (a ∷ done) k e =
        (k.0, elim k.1 [ inl q ↦ inr (subst (λ v. IsExhausted g l v) (sym (ap (to g) q ∙ e)) h) | inr q ↦ inr q ], finished_all avoid done k.2 e)

module _ (g : RotationSystem) (r : IsRotationSystem g) (component : ℕ → ℕ) (c : ℕ) (start : ℕ) where
  -- a half-edge is reached, or its twin
  flip : (stack : List ℕ) (t : ℕ) → ReachedSide g (λ s. s ≡ start) stack t → ReachedSide g (λ s. s ≡ start) stack (g.twin t)
  flip stack t (inl h) = inr (subst (λ x. Reached g (λ s. s ≡ start) stack x) (sym (r.twin_twin t)) h)
  flip stack t (inr h) = inl h

  ends_insert : (l : List ℕ) (x z : ℕ) (done stack : List ℕ) (t : ℕ) → EndsAt g (g.from start) (done ++ stack) → CanFollow g l (g.from start) x z stack → to g t ≡ z →
      EndsAt g (g.from start) (done ++ (t ∷ stack))
  ends_insert l x z [] [] t h k e = e ∙ k
  ends_insert l x z [] (b ∷ stack) t h k e = h
  ends_insert l x z (a ∷ []) [] t h k e = e ∙ k
  ends_insert l x z (a ∷ []) (b ∷ stack) t h k e = h
  ends_insert l x z (a ∷ b ∷ done) stack t h k e = ends_insert l x z (b ∷ done) stack t h k e

  -- an unused edge that touches the stack is put on it, in burning direction
  pub laid_push : (l : List ℕ) (x : ℕ) (done stack : List ℕ) (t : ℕ) → Laid g component c start (done ++ stack) → t < g.sides → component (to g t) ≡ c →
      (Has g (done ++ stack) t → ⊥) → Touches g start stack t → CanFollow g l (g.from start) x (g.from t) stack → Laid g component c start (done ++ (g.twin t ∷ stack))
  laid_push l x done stack t h b e k touches follow = record {
    inside = inside_insert g component c done stack (g.twin t) h.inside (r.twin_in t b) e;
    once = once_insert g r done stack (g.twin t) h.once (λ x. k (subst (λ y. Has g (done ++ stack) y) (r.twin_twin t) (Has-twin g r (done ++ stack) (g.twin t) x)));
    grows = grows_insert g (λ s. s ≡ start) r done stack (g.twin t) h.grows (flip stack t (reached_touching g (λ s. s ≡ start) r start refl stack t b touches));
    last = ends_insert l x (g.from t) done stack (g.twin t) h.last follow (ap g.from (r.twin_twin t));
  }

  -- one step of a walk
  pub walking_push : Divides g component → (avoid x z : ℕ) (done base stack : List ℕ) (t : ℕ) → Walking g component c start avoid x z done base stack →
      t < g.sides → g.from t ≡ z → (Has g (done ++ stack) t → ⊥) → Touches g start stack t →
      Walking g component c start avoid x (to g t) done base (g.twin t ∷ stack)
  walking_push d avoid x z done base stack t w b at k touches =
      let here : component (to g t) ≡ c = d t b ∙ (ap component at ∙ w.place) in
      let l = done ++ stack in
      let m = done ++ (g.twin t ∷ stack) in
      let wider = Has-insert g done stack (g.twin t) in
      let back : to g (g.twin t) ≡ z = ap g.from (r.twin_twin t) ∙ at in
      record {
        laid = laid_push l x done stack t w.laid b here k touches (subst (λ y. CanFollow g l (g.from start) x y stack) (sym at) w.follow);
        place = here;
        stands = inr refl;
        finished = finished_more g l m wider avoid done w.finished;
        follow = inl refl;
        shape = (
          subst (λ y. CanFollow g m (g.from start) x y stack) (sym back) (follow_more g l m wider (g.from start) x z stack w.follow),
          stack_more g l m wider (g.from start) x stack w.shape,
        );
        breaks = rw (differ_same (to g t) (to g t) refl, back) (omega (arith, w.breaks));
        ends = λ v. let e : same (to g (g.twin t)) v ≡ same z v = ap (λ y. same y v) back in omega (arith, e, w.ends v);
      }

module _ (g : RotationSystem) (root : ℕ) where
  -- where it has come to an exhausted vertex another may begin
  pub follow_again : (l : List ℕ) (x y : ℕ) (base stack : List ℕ) → ((y ≡ x) × (stack ≡ base)) ⊎ TopLeaves g y stack → IsExhausted g l y →
      CanFollow g l root x y stack → CanFollow g l root x x stack
  follow_again l x y base [] (inl e) h k = sym e.0 ∙ k
  follow_again l x y base [] (inr e) h k = absurd e
  follow_again l x y base (a ∷ stack) s h (inl e) = inr (subst (λ v. IsExhausted g l v) (sym e) h, inr (inr refl))
  follow_again l x y base (a ∷ stack) s h (inr k) = inr (k.0, inr (inr refl))

module _ (g : RotationSystem) (component : ℕ → ℕ) (c : ℕ) (start : ℕ) where
  -- a walk begins
  pub walking_begin : (avoid x : ℕ) (done stack : List ℕ) → Exhausting g component c start avoid x done stack → Walking g component c start avoid x x done stack stack
  walking_begin avoid x done stack e = record {
    laid = e.laid;
    place = e.place;
    stands = inl (refl, refl);
    finished = e.finished;
    follow = e.follow;
    shape = e.shape;
    breaks = refl;
    ends = λ v. omega arith;
  }

  -- a walk has ended
  pub walking_end : (avoid x y : ℕ) (done base stack : List ℕ) → Exhausting g component c start avoid x done base →
      Walking g component c start avoid x y done base stack → IsExhausted g (done ++ stack) y → Exhausting g component c start avoid x done stack
  walking_end avoid x y done base stack e w h = record {
    laid = w.laid;
    place = e.place;
    finished = w.finished;
    ends_at = e.ends_at;
    follow = follow_again g (g.from start) (done ++ stack) x y base stack w.stands h w.follow;
    shape = w.shape;
  }

  -- it makes a break where it is open
  pub breaks_at_end : (avoid x y : ℕ) (done base stack : List ℕ) → Walking g component c start avoid x y done base stack → breaks_after g x stack ≡ breaks_after g x base + differ x y
  breaks_at_end avoid x y done base stack w = go stack w.stands w.breaks
    where
      go : (stack : List ℕ) → ((y ≡ x) × (stack ≡ base)) ⊎ TopLeaves g y stack → breaks_after g y stack ≡ breaks_after g x base → breaks_after g x stack ≡ breaks_after g x base + differ x y
      go stack (inl e) k =
          let zero : differ x y ≡ 0 = differ_same x y (sym e.0) in
          let f : breaks_after g x stack ≡ breaks_after g x base = ap (breaks_after g x) e.1 in
          omega arith
      go [] (inr e) k = absurd e
      go (a ∷ stack) (inr e) k =
          let zero : differ y (g.from a) ≡ 0 = differ_same y (g.from a) (sym e) in
          let to_y : differ x (g.from a) ≡ differ x y = ap (differ x) e in
          omega arith

  finished_but : (l : List ℕ) (done : List ℕ) (f : ℕ) → Inside g component c done → IsExhausted g l (g.from f) → AllFinished g l g.sides done → AllFinished g l f (done ++ (f ∷ []))
  finished_but l [] f i k h = (k, inl refl, tt)
  finished_but l (a ∷ done) f i k h = (h.0, elim h.1 [ inl e ↦ absurd (omega (arith, e, i.0)) | inr b ↦ inr b ], finished_but l done f i.2 k h.2)

  -- the top of the stack moves behind what is done
  pub pop : Divides g component → (done : List ℕ) (f : ℕ) (stack : List ℕ) → Ready g component c start done (f ∷ stack) → Exhausting g component c start f (to g f) (done ++ (f ∷ [])) stack
  pop d done f stack h =
      let l = done ++ (f ∷ stack) in
      let e : (done ++ (f ∷ [])) ++ stack ≡ l = append_assoc done (f ∷ []) stack in
      let i = inside_at g component c done stack f h.laid.inside in
      let front = inside_front g component c done (f ∷ stack) h.laid.inside in
      record {
        laid = subst (λ m. Laid g component c start m) (sym e) h.laid;
        place = d f i.0 ∙ i.1;
        finished = subst (λ m. AllFinished g m f (done ++ (f ∷ []))) (sym e) (finished_but l done f front h.top h.finished);
        ends_at = refl;
        follow = subst (λ m. CanFollow g m (g.from start) (to g f) (to g f) stack) (sym e) (follow_for g l (g.from start) (to g f) (to g f) stack h.shape.0);
        shape = subst (λ m. IsStack g m (g.from start) (to g f) stack) (sym e) (stack_for g l (g.from start) (to g f) stack h.shape.1);
      }

  -- x is exhausted
  pub settle : (avoid x : ℕ) (done stack : List ℕ) → Exhausting g component c start avoid x done stack → IsExhausted g (done ++ stack) x → Ready g component c start done stack
  settle avoid x done stack e h =
      let l = done ++ stack in
      record {
        laid = e.laid;
        finished = finished_all g l (g.from start) x h avoid done e.finished e.ends_at;
        shape = stack_settled g l (g.from start) x h stack e.shape;
        top = top_settled g l (g.from start) x h stack e.follow;
      }
