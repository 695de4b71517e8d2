-- An order encloses exactly where it grows, and it still grows after an edge that touches the stack was put on the stack.
use Rattle.std.proofs.Common.{ℕ, ◌<◌, List, [], ◌∷◌, ◌++◌, ◌⊎◌, inl, inr, refl, sym, ap, subst, ◌∙◌}
use Rattle.rotation_systems.specs.RotationSystem.{RotationSystem, IsRotationSystem}
use Rattle.cover_walks.specs.Orders.{Has, Joined, at_outer, by_along, by_back, by_across, Encloses, Reached, outer, here, ahead, behind, Grows}
use Rattle.cover_walks.specs.Walks.{Touches}
use Rattle.cover_walks.proofs.Holdings.{Has-twin, Has-insert}

-- one of the two half-edges of an edge is reached
abbrev pub ReachedSide : RotationSystem → (ℕ → Type 0) → List ℕ → ℕ → Type 0
ReachedSide g Outer l a = Reached g Outer l a ⊎ Reached g Outer l (g.twin a)

module _ (g : RotationSystem) (Outer : ℕ → Type 0) where
  -- over more edges more is joined and reached
  pub Joined-more : (a : ℕ) (l : List ℕ) {s : ℕ} → Joined g Outer l s → Joined g Outer (a ∷ l) s
  Joined-more a l (at_outer o) = at_outer o
  Joined-more a l (by_along j) = by_along (Joined-more a l j)
  Joined-more a l (by_back j) = by_back (Joined-more a l j)
  Joined-more a l (by_across h j) = by_across (inr (inr h)) (Joined-more a l j)

  pub Reached-more : (l m : List ℕ) → ((s : ℕ) → Has g l s → Has g m s) → {s : ℕ} → Reached g Outer l s → Reached g Outer m s
  Reached-more l m f (outer o) = outer o
  Reached-more l m f (here {s} h) = here (f s h)
  Reached-more l m f (ahead j) = ahead (Reached-more l m f j)
  Reached-more l m f (behind j) = behind (Reached-more l m f j)

module _ (g : RotationSystem) (Outer : ℕ → Type 0) (r : IsRotationSystem g) where
  -- links to an outer half-edge stay among the later edges, or show a half-edge of the first edge that those reach
  exits : (a : ℕ) (l : List ℕ) {s : ℕ} → Joined g Outer (a ∷ l) s → Reached g Outer l s ⊎ ReachedSide g Outer l a
  exits a l (at_outer o) = inl (outer o)
  exits a l (by_along j) = elim (exits a l j) [ inl h ↦ inl (ahead h) | inr h ↦ inr h ]
  exits a l (by_back j) = elim (exits a l j) [ inl h ↦ inl (behind h) | inr h ↦ inr h ]
  exits a l (by_across {s} (inl e) j) =
      elim (exits a l j) [ inl h ↦ inr (inr (subst (λ x. Reached g Outer l (g.twin x)) (sym e) h)) | inr h ↦ inr h ]
  exits a l (by_across {s} (inr (inl e)) j) =
      elim (exits a l j) [ inl h ↦ inr (inl (subst (λ x. Reached g Outer l x) (ap g.twin (sym e) ∙ r.twin_twin a) h)) | inr h ↦ inr h ]
  exits a l (by_across (inr (inr h)) j) = inl (here h)

  pub grows_of : (l : List ℕ) → Encloses g Outer l → Grows g Outer l
  grows_of [] h = tt
  grows_of (a ∷ l) h = (elim (exits a l h.0) [ inl k ↦ inl k | inr k ↦ k ], grows_of l h.2)

  -- each half-edge of an enclosing order is joined over it
  joined_of : (l : List ℕ) → Encloses g Outer l → (s : ℕ) → Has g l s → Joined g Outer l s
  joined_of [] h s b = elim b [ ]
  joined_of (a ∷ l) h s (inl e) = subst (λ x. Joined g Outer (a ∷ l) x) e h.0
  joined_of (a ∷ l) h s (inr (inl e)) = subst (λ x. Joined g Outer (a ∷ l) x) e h.1
  joined_of (a ∷ l) h s (inr (inr b)) = Joined-more g Outer a l (joined_of l h.2 s b)

  reached_joined : (l : List ℕ) → Encloses g Outer l → {s : ℕ} → Reached g Outer l s → Joined g Outer l s
  reached_joined l h (outer o) = at_outer o
  reached_joined l h (here {s} b) = joined_of l h s b
  reached_joined l h (ahead j) = by_along (reached_joined l h j)
  reached_joined l h (behind j) = by_back (reached_joined l h j)

  -- where one half-edge of the first edge is reached, the first edge joins the other to it
  both : (a : ℕ) (l : List ℕ) → Encloses g Outer l → ReachedSide g Outer l a → Joined g Outer (a ∷ l) a × Joined g Outer (a ∷ l) (g.twin a)
  both a l h (inl k) =
      let j = Joined-more g Outer a l (reached_joined l h k) in
      (j, by_across (inr (inl refl)) (subst (λ x. Joined g Outer (a ∷ l) x) (sym (r.twin_twin a)) j))
  both a l h (inr k) =
      let j = Joined-more g Outer a l (reached_joined l h k) in
      (by_across (inl refl) j, j)

  pub encloses_of : (l : List ℕ) → Grows g Outer l → Encloses g Outer l
  encloses_of [] h = tt
  encloses_of (a ∷ l) h =
      let e = encloses_of l h.1 in
      let b = both a l e h.0 in
      (b.0, b.1, e)

  -- what is burnt before the new edge has one more edge behind it
  pub grows_insert : (done stack : List ℕ) (t : ℕ) → Grows g Outer (done ++ stack) → ReachedSide g Outer stack t → Grows g Outer (done ++ (t ∷ stack))
  grows_insert [] stack t h k = (k, h)
  grows_insert (a ∷ done) stack t h k =
      (elim h.0 [ inl x ↦ inl (wider x) | inr x ↦ inr (wider x) ], grows_insert done stack t h.1 k)
    where
      wider : {s : ℕ} → Reached g Outer (done ++ stack) s → Reached g Outer (done ++ (t ∷ stack)) s
      wider = Reached-more g Outer (done ++ stack) (done ++ (t ∷ stack)) (Has-insert g done stack t)

  -- neighbours in a rotation share a face
  pub reached_touching : (start : ℕ) → Outer start → (stack : List ℕ) (t : ℕ) → t < g.sides → Touches g start stack t → ReachedSide g Outer stack t
  reached_touching start o stack t b (inl h) =
      inr (ahead (subst (λ x. Reached g Outer stack (g.cw x)) (sym (r.twin_twin t)) (here h)))
  reached_touching start o stack t b (inr (inl h)) =
      inl (subst (λ x. Reached g Outer stack x) (ap g.cw (r.twin_twin (g.ccw t)) ∙ r.cw_ccw t b) (behind (here (Has-twin g r stack (g.ccw t) h))))
  reached_touching start o stack t b (inr (inr (inl e))) =
      inr (ahead (subst (λ x. Reached g Outer stack x) (sym (ap g.cw (r.twin_twin t) ∙ e)) (outer o)))
  reached_touching start o stack t b (inr (inr (inr e))) = inl (subst (λ x. Reached g Outer stack x) (sym e) (outer o))
