-- What stands in an order.
use Rattle.std.proofs.Common.{◌≡◌, ℕ, ◌<◌, List, [], ◌∷◌, ◌++◌, ◌⊎◌, inl, inr, sym, ap, subst, ◌∙◌}
use Rattle.rotation_systems.specs.RotationSystem.{RotationSystem, IsRotationSystem, Divides}
use Rattle.cover_walks.specs.Orders.{Has, Once}
use Rattle.cover_walks.specs.Walks.{Inside}

module _ (g : RotationSystem) where
  pub Has-after : (done stack : List ℕ) (s : ℕ) → Has g stack s → Has g (done ++ stack) s
  Has-after [] stack s h = h
  Has-after (a ∷ done) stack s h = inr (inr (Has-after done stack s h))

  -- after t was put between the edges that are done and the stack
  pub Has-insert : (done stack : List ℕ) (t s : ℕ) → Has g (done ++ stack) s → Has g (done ++ (t ∷ stack)) s
  Has-insert [] stack t s h = inr (inr h)
  Has-insert (a ∷ done) stack t s (inl e) = inl e
  Has-insert (a ∷ done) stack t s (inr (inl e)) = inr (inl e)
  Has-insert (a ∷ done) stack t s (inr (inr h)) = inr (inr (Has-insert done stack t s h))

  pub Has-inserted : (done stack : List ℕ) (t s : ℕ) → Has g (done ++ (t ∷ stack)) s → (t ≡ s) ⊎ (g.twin t ≡ s) ⊎ Has g (done ++ stack) s
  Has-inserted [] stack t s h = h
  Has-inserted (a ∷ done) stack t s (inl e) = inr (inr (inl e))
  Has-inserted (a ∷ done) stack t s (inr (inl e)) = inr (inr (inr (inl e)))
  Has-inserted (a ∷ done) stack t s (inr (inr h)) =
      elim (Has-inserted done stack t s h) [ inl e ↦ inl e | inr (inl e) ↦ inr (inl e) | inr (inr k) ↦ inr (inr (inr (inr k))) ]

  -- what stands within the component, in front of the stack, at its top, and in the stack
  module _ (component : ℕ → ℕ) (c : ℕ) where
    pub inside_front : (done stack : List ℕ) → Inside g component c (done ++ stack) → Inside g component c done
    inside_front [] stack h = tt
    inside_front (a ∷ done) stack h = (h.0, h.1, inside_front done stack h.2)

    pub inside_at : (done stack : List ℕ) (f : ℕ) → Inside g component c (done ++ (f ∷ stack)) → (f < g.sides) × (component (g.from f) ≡ c)
    inside_at [] stack f h = (h.0, h.1)
    inside_at (a ∷ done) stack f h = inside_at done stack f h.2

    pub inside_rest : (done stack : List ℕ) → Inside g component c (done ++ stack) → Inside g component c stack
    inside_rest [] stack h = h
    inside_rest (a ∷ done) stack h = inside_rest done stack h.2

    pub inside_insert : (done stack : List ℕ) (t : ℕ) → Inside g component c (done ++ stack) → t < g.sides → component (g.from t) ≡ c → Inside g component c (done ++ (t ∷ stack))
    inside_insert [] stack t h b e = (b, e, h)
    inside_insert (a ∷ done) stack t h b e = (h.0, h.1, inside_insert done stack t h.2 b e)

module _ (g : RotationSystem) (r : IsRotationSystem g) where
  -- an edge has two half-edges
  pub Has-twin : (l : List ℕ) (s : ℕ) → Has g l s → Has g l (g.twin s)
  Has-twin [] s h = elim h [ ]
  Has-twin (a ∷ l) s (inl e) = inr (inl (ap g.twin e))
  Has-twin (a ∷ l) s (inr (inl e)) = inl (sym (r.twin_twin a) ∙ ap g.twin e)
  Has-twin (a ∷ l) s (inr (inr h)) = inr (inr (Has-twin l s h))

  pub once_insert : (done stack : List ℕ) (t : ℕ) → Once g (done ++ stack) → (Has g (done ++ stack) t → ⊥) → Once g (done ++ (t ∷ stack))
  once_insert [] stack t h k = (k, h)
  once_insert (a ∷ done) stack t h k = (
    λ b. elim (Has-inserted g done stack t a b) [
      | inl e ↦ k (inl (sym e))
      | inr (inl e) ↦ k (inr (inl (ap g.twin (sym e) ∙ r.twin_twin t)))
      | inr (inr d) ↦ h.0 d
    ],
    once_insert done stack t h.1 (λ b. k (inr (inr b))),
  )

  pub has_inside : (component : ℕ → ℕ) (c : ℕ) (l : List ℕ) (s : ℕ) → Inside g component c l → Has g l s → s < g.sides
  has_inside component c [] s i k = absurd k
  has_inside component c (a ∷ l) s i (inl e) = subst (λ u. u < g.sides) e i.0
  has_inside component c (a ∷ l) s i (inr (inl e)) = subst (λ u. u < g.sides) e (r.twin_in a i.0)
  has_inside component c (a ∷ l) s i (inr (inr k)) = has_inside component c l s i.2 k

  pub has_component : (component : ℕ → ℕ) (c : ℕ) → Divides g component → (l : List ℕ) (s : ℕ) → Inside g component c l → Has g l s → component (g.from s) ≡ c
  has_component component c d [] s i k = absurd k
  has_component component c d (a ∷ l) s i (inl e) = subst (λ u. component (g.from u) ≡ c) e i.1
  has_component component c d (a ∷ l) s i (inr (inl e)) = subst (λ u. component (g.from u) ≡ c) e (d a i.0 ∙ i.1)
  has_component component c d (a ∷ l) s i (inr (inr k)) = has_component component c d l s i.2 k
