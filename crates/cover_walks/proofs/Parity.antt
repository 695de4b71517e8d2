-- Ends of edges counted at a vertex: an exhausted one is even, and a walk changes the parity at its two ends.
use Rattle.std.proofs.Common.{◌≡◌, ℕ, ◌<◌, ◌≤◌, ◌≢◌, ◌+◌, ◌%◌, ◌*◌, List, [], ◌∷◌, ◌++◌, inl, inr, refl, sym, ap, subst, arith, ◌∙◌, length, cond, ◌==◌}
use Rattle.std.proofs.lemmas.Bool.{eq-eqb}
use Rattle.rotation_systems.specs.RotationSystem.{RotationSystem, IsRotationSystem, to, same, total, degree}
use Rattle.cover_walks.specs.Orders.{Has, Once}
use Rattle.cover_walks.specs.Walks.{Inside, IsExhausted, breaks_after, breaks, differ, ends, is_odd, odd_within, odd_count, Walking, IsCounted}
use Rattle.cover_walks.proofs.Numbers.{same_same, same_other, differ_tells, total_ext, total_none, total_ones, without, without_other, without_same, total_without, total_two}
use Rattle.cover_walks.proofs.Holdings.{Has-twin}
use Rattle.cover_walks.proofs.Steps.{breaks_at_end}

-- a function summed over both half-edges of the edges of a list
abbrev pub both_sides : RotationSystem → (ℕ → ℕ) → List ℕ → ℕ
both_sides g f [] = 0
both_sides g f (a ∷ l) = f a + (f (g.twin a) + both_sides g f l)

module _ (g : RotationSystem) where
  both_ext : (f h : ℕ → ℕ) (l : List ℕ) → ((s : ℕ) → Has g l s → f s ≡ h s) → both_sides g f l ≡ both_sides g h l
  both_ext f h [] e = refl
  both_ext f h (a ∷ l) e =
      let one : f a ≡ h a = e a (inl refl) in
      let two : f (g.twin a) ≡ h (g.twin a) = e (g.twin a) (inr (inl refl)) in
      let rest : both_sides g f l ≡ both_sides g h l = both_ext f h l (λ s b. e s (inr (inr b))) in
      omega arith

  both_ones : (l : List ℕ) → both_sides g (λ s. 1) l ≡ length l + length l
  both_ones [] = refl
  both_ones (a ∷ l) = let e = both_ones l in omega arith

  both_ends : (l : List ℕ) (v : ℕ) → both_sides g (λ s. same (g.from s) v) l ≡ ends g l v
  both_ends [] v = refl
  both_ends (a ∷ l) v = ap (λ n. same (g.from a) v + (same (to g a) v + n)) (both_ends l v)

  pub ends_append : (done stack : List ℕ) (v : ℕ) → ends g (done ++ stack) v ≡ ends g done v + ends g stack v
  ends_append [] stack v = omega arith
  ends_append (a ∷ done) stack v = let e = ends_append done stack v in omega arith

  pub breaks_after_append : (z : ℕ) (done : List ℕ) (f : ℕ) (stack : List ℕ) →
      breaks_after g z (done ++ (f ∷ stack)) ≡ breaks_after g z (done ++ (f ∷ [])) + breaks_after g (to g f) stack
  breaks_after_append z [] f stack = omega arith
  breaks_after_append z (a ∷ done) f stack = let e = breaks_after_append (to g a) done f stack in omega arith

  pub breaks_append : (done : List ℕ) (f : ℕ) (stack : List ℕ) → breaks g (done ++ (f ∷ stack)) ≡ breaks g (done ++ (f ∷ [])) + breaks_after g (to g f) stack
  breaks_append [] f stack = omega arith
  breaks_append (a ∷ done) f stack = breaks_after_append (to g a) done f stack

  -- at a vertex of the component
  pub within_at : (component : ℕ → ℕ) (c : ℕ) (order : List ℕ) (v : ℕ) → component v ≡ c → odd_within g component c order v ≡ is_odd g order v
  within_at component c order v e = ap (λ b. cond b (is_odd g order v) 0) (eq-eqb (component v) c e)

  pub within_same : (component : ℕ → ℕ) (c : ℕ) (l m : List ℕ) (v : ℕ) → is_odd g l v ≡ is_odd g m v → odd_within g component c l v ≡ odd_within g component c m v
  within_same component c l m v e = ap (λ n. cond (component v == c) n 0) e

module _ (g : RotationSystem) (r : IsRotationSystem g) (component : ℕ → ℕ) (c : ℕ) where
  -- a function with 0 for its values at both half-edges of a new edge has its values at those of the list
  kept_without : (f : ℕ → ℕ) (a : ℕ) (l : List ℕ) → (Has g l a → ⊥) → both_sides g (without (without f a) (g.twin a)) l ≡ both_sides g f l
  kept_without f a l new = both_ext g (without (without f a) (g.twin a)) f l (λ s h.
      without_other (without f a) (g.twin a) s (λ q. new (subst (λ y. Has g l y) (ap g.twin q ∙ r.twin_twin a) (Has-twin g r l s h)))
      ∙ without_other f a s (λ q. new (subst (λ y. Has g l y) q h)))

  -- the sum over all is the sum without them, and both values
  total_edge : (f : ℕ → ℕ) (a : ℕ) → a < g.sides → total f g.sides ≡ total (without (without f a) (g.twin a)) g.sides + (f a + f (g.twin a))
  total_edge f a b =
      let s1 = total_without f a g.sides b in
      let s2 = total_without (without f a) (g.twin a) g.sides (r.twin_in a b) in
      let v : without f a (g.twin a) ≡ f (g.twin a) = without_other f a (g.twin a) (λ q. r.no_loop a b (ap g.from q)) in
      omega arith

  -- a sum over all half-edges, where only those of the list count
  total_both : (l : List ℕ) (f : ℕ → ℕ) → Inside g component c l → Once g l → ((s : ℕ) → s < g.sides → (Has g l s → ⊥) → f s ≡ 0) → total f g.sides ≡ both_sides g f l
  total_both [] f i o e = total_none f g.sides (λ s b. e s b (λ x. x))
  total_both (a ∷ l) f i o e =
      let rest = total_both l (without (without f a) (g.twin a)) i.2 o.1 off in
      let kept = kept_without f a l o.0 in
      let all = total_edge f a i.0 in
      omega arith
    where
      off : (s : ℕ) → s < g.sides → (Has g l s → ⊥) → without (without f a) (g.twin a) s ≡ 0
      off s b k = elim (differ_tells s (g.twin a)) [
        | inl q ↦ without_same (without f a) (g.twin a) s q.0
        | inr q ↦ without_other (without f a) (g.twin a) s q.0 ∙ elim (differ_tells s a) [
          | inl p ↦ without_same f a s p.0
          | inr p ↦ without_other f a s p.0 ∙ e s b (λ h. elim h [ inl x ↦ p.0 (sym x) | inr (inl x) ↦ q.0 (sym x) | inr (inr x) ↦ k x ])
        ]
      ]

  both_below : (l : List ℕ) (f : ℕ → ℕ) → Inside g component c l → Once g l → both_sides g f l ≤ total f g.sides
  both_below [] f i o = omega arith
  both_below (a ∷ l) f i o =
      let rest = both_below l (without (without f a) (g.twin a)) i.2 o.1 in
      let kept = kept_without f a l o.0 in
      let all = total_edge f a i.0 in
      omega arith

  -- an order has no more edges than there are
  pub few_edges : (l : List ℕ) → Inside g component c l → Once g l → length l + length l ≤ g.sides
  few_edges l i o =
      let a = both_below l (λ s. 1) i o in
      let b = both_ones g l in
      let d = total_ones g.sides in
      omega arith

  -- at an exhausted vertex it has as many ends as half-edges leave the vertex
  pub exhausted_ends : (l : List ℕ) (v : ℕ) → Inside g component c l → Once g l → IsExhausted g l v → degree g v ≡ ends g l v
  exhausted_ends l v i o h =
      total_both l (λ s. same (g.from s) v) i o (λ s b k. same_other (g.from s) v (λ q. k (h s b q))) ∙ both_ends g l v

  pub exhausted_even : (l : List ℕ) (v : ℕ) → Inside g component c l → Once g l → IsExhausted g l v → is_odd g l v ≡ 0
  exhausted_even l v i o h = let e = exhausted_ends l v i o h in omega arith

  module _ (start avoid x y : ℕ) (done base stack : List ℕ) (w : Walking g component c start avoid x y done base stack) where
    -- a walk changes the parity at its two ends, twice where they are one
    pub walk_flips : (v : ℕ) → (is_odd g (done ++ stack) v + (same x v + same y v)) % 2 ≡ is_odd g (done ++ base) v
    walk_flips v =
        let a = ends_append g done stack v in
        let b = ends_append g done base v in
        let e = w.ends v in
        omega arith

    module _ (vertices : ℕ) (below_x : x < vertices) (below_y : y < vertices) (of_x : component x ≡ c) (h : IsExhausted g (done ++ stack) y) where
      end_even : is_odd g (done ++ stack) y ≡ 0
      end_even = exhausted_even (done ++ stack) y w.laid.inside w.laid.once h

      -- a closed walk leaves the number of odd vertices as it was
      closed_count : x ≡ y → odd_count g component c vertices (done ++ stack) ≡ odd_count g component c vertices (done ++ base)
      closed_count e = total_ext (λ v. odd_within g component c (done ++ stack) v) (λ v. odd_within g component c (done ++ base) v) vertices
          (λ v b. within_same g component c (done ++ stack) (done ++ base) v (flat v))
        where
          flat : (v : ℕ) → is_odd g (done ++ stack) v ≡ is_odd g (done ++ base) v
          flat v =
              let f = walk_flips v in
              let s : same x v ≡ same y v = ap (λ u. same u v) e in
              omega arith

      -- after an open one its end is even, which was odd; and where x was odd it's even too, else odd
      open_count : x ≢ y → odd_count g component c vertices (done ++ stack) + 2 * is_odd g (done ++ base) x ≡ odd_count g component c vertices (done ++ base)
      open_count n =
          let f = λ (v : ℕ). odd_within g component c (done ++ stack) v in
          let h = λ (v : ℕ). odd_within g component c (done ++ base) v in
          let two = total_two f h x y vertices below_x below_y n (λ s nx ny. within_same g component c (done ++ stack) (done ++ base) s (elsewhere s nx ny)) in
          let fx = within_at g component c (done ++ stack) x of_x in
          let fy = within_at g component c (done ++ stack) y w.place in
          let hx = within_at g component c (done ++ base) x of_x in
          let hy = within_at g component c (done ++ base) y w.place in
          let at_y = walk_flips y in
          let at_x = walk_flips x in
          let even = end_even in
          let xx : same x x ≡ 1 = same_same x x refl in
          let yy : same y y ≡ 1 = same_same y y refl in
          let xy : same x y ≡ 0 = same_other x y n in
          let yx : same y x ≡ 0 = same_other y x (λ q. n (sym q)) in
          omega arith
        where
          elsewhere : (s : ℕ) → s ≢ x → s ≢ y → is_odd g (done ++ stack) s ≡ is_odd g (done ++ base) s
          elsewhere s nx ny =
              let e = walk_flips s in
              let ex : same x s ≡ 0 = same_other x s (λ q. nx (sym q)) in
              let ey : same y s ≡ 0 = same_other y s (λ q. ny (sym q)) in
              omega arith

      pub counted_walk : (most : ℕ) → IsCounted g component c vertices most x done base → IsCounted g component c vertices most x done stack
      counted_walk most k =
          let b : breaks_after g x stack ≡ breaks_after g x base + differ x y = breaks_at_end g component c start avoid x y done base stack w in
          let f = walk_flips x in
          elim (differ_tells x y) [
            | inl q ↦
                let e = closed_count q.0 in
                let s : same x x ≡ same y x = ap (λ u. same u x) q.0 in
                omega arith
            | inr q ↦
                let e = open_count q.0 in
                let xx : same x x ≡ 1 = same_same x x refl in
                let yx : same y x ≡ 0 = same_other y x (λ p. q.0 (sym p)) in
                omega arith
          ]
