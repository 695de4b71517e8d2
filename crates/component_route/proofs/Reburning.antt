-- The edges of the stack burn again, from its bottom.
use Rattle.std.proofs.Common.{◌≡◌, ℕ, ◌<◌, ◌≤◌, ◌+◌, List, [], ◌∷◌, ◌++◌, inl, inr, refl, sym, ap, subst, ◌∙◌, append_assoc, length, reverse, take, drop, get_or}
use Rattle.std.proofs.lemmas.List.{take_more, take_all, take-append-drop, map-append, reverse-append, reverse-reverse}
use Rattle.nest_base.specs.declared.numbers.Side.{Side}
use Rattle.rotation_systems.specs.RotationSystem.{RotationSystem}
use Rattle.half_edges.specs.Graph.{Graph, rotations_of}
use Rattle.half_edges.specs.Burns.{IsBurnt, with_burnt}
use Rattle.nest_base.specs.NumberLists.{side_numbers}
use Rattle.cover_walks.specs.Orders.{Has, Once}
use Rattle.cover_walks.proofs.Holdings.{Has-after}
use Rattle.component_route.specs.States.{CanReburn}
use Rattle.component_route.proofs.Burning.{has_of_two, has_reversed, has_from_edge, edge_from_has}

once_at : (g : RotationSystem) (l m : List ℕ) (s : ℕ) → Once g (l ++ (s ∷ m)) → Has g m s → ⊥
once_at g [] m s o h = o.0 h
once_at g (a ∷ l) m s o h = once_at g l m s o.1 h

-- all of it has been burnt
pub all_again : (stack : List ℕ) (items : List Side) (i : ℕ) → reverse (side_numbers items) ≡ stack → length items ≤ i → side_numbers (take i items) ≡ reverse stack
all_again stack items i is b = ap side_numbers (take_all i items b) ∙ (sym (reverse-reverse (side_numbers items)) ∙ ap reverse is)

module _ (items : List Side) (i : ℕ) (d : Side) (b : i < length items) where
  -- one more
  pub more_again : side_numbers (take (i + 1) items) ≡ side_numbers (take i items) ++ ((get_or items i d).0 ∷ [])
  more_again = ap side_numbers (take_more items i d b) ∙ map-append (λ (t : Side). t.0) (take i items) (get_or items i d ∷ [])

  split : items ≡ take i items ++ (get_or items i d ∷ drop (i + 1) items)
  split =
      sym (take-append-drop (i + 1) items)
      ∙ (ap (λ l. l ++ drop (i + 1) items) (take_more items i d b) ∙ append_assoc (take i items) (get_or items i d ∷ []) (drop (i + 1) items))

  split_sides : side_numbers items ≡ side_numbers (take i items) ++ ((get_or items i d).0 ∷ side_numbers (drop (i + 1) items))
  split_sides = ap side_numbers split ∙ map-append (λ (t : Side). t.0) (take i items) (get_or items i d ∷ drop (i + 1) items)

  module _ (x : Graph) (checkpoint : ℕ) (stack : List ℕ) (h : CanReburn x checkpoint stack) (is : reverse (side_numbers items) ≡ stack) where
    in_stack : Has (rotations_of x) stack (get_or items i d).0
    in_stack = subst (λ l. Has (rotations_of x) l (get_or items i d).0) is
        (has_reversed (rotations_of x) (side_numbers items) (get_or items i d).0
        (subst (λ l. Has (rotations_of x) l (get_or items i d).0) (sym split_sides)
        (Has-after (rotations_of x) (side_numbers (take i items)) ((get_or items i d).0 ∷ side_numbers (drop (i + 1) items)) (get_or items i d).0 (inl refl))))

    reversed : stack ≡ reverse (side_numbers (drop (i + 1) items)) ++ ((get_or items i d).0 ∷ reverse (side_numbers (take i items)))
    reversed =
        sym is
        ∙ (ap reverse split_sides
        ∙ (reverse-append (side_numbers (take i items)) ((get_or items i d).0 ∷ side_numbers (drop (i + 1) items))
        ∙ (ap (λ l. l ++ reverse (side_numbers (take i items))) (reverse-append ((get_or items i d).0 ∷ []) (side_numbers (drop (i + 1) items)))
        ∙ append_assoc (reverse (side_numbers (drop (i + 1) items))) ((get_or items i d).0 ∷ []) (reverse (side_numbers (take i items))))))

    not_before : Has (rotations_of x) (side_numbers (take i items)) (get_or items i d).0 → ⊥
    not_before k =
        once_at (rotations_of x) (reverse (side_numbers (drop (i + 1) items))) (reverse (side_numbers (take i items))) (get_or items i d).0
        (subst (Once (rotations_of x)) reversed h.once) (has_reversed (rotations_of x) (side_numbers (take i items)) (get_or items i d).0 k)

    pub again_in : (y : Graph) → y ≡ with_burnt x (take checkpoint x.burnt ++ side_numbers (take i items)) → (get_or items i d).0 < (rotations_of y).sides
    again_in y e = subst (λ z. (get_or items i d).0 < (rotations_of z).sides) (sym e) (h.within (get_or items i d).0 in_stack)

    pub again_unburnt : (y : Graph) → y ≡ with_burnt x (take checkpoint x.burnt ++ side_numbers (take i items)) → IsBurnt y (get_or items i d).0 → ⊥
    again_unburnt y e burnt =
        elim (has_of_two (rotations_of x) (take checkpoint x.burnt) (side_numbers (take i items)) (get_or items i d).0
        (has_from_edge x h.rotation (take checkpoint x.burnt ++ side_numbers (take i items)) (get_or items i d).0 (subst (λ z. IsBurnt z (get_or items i d).0) e burnt))) [
          | inl k ↦ h.unburnt (get_or items i d).0 in_stack (edge_from_has x h.rotation (take checkpoint x.burnt) (get_or items i d).0 k)
          | inr k ↦ not_before k
        ]

    pub burnt_again : (y z : Graph) → y ≡ with_burnt x (take checkpoint x.burnt ++ side_numbers (take i items)) → z ≡ with_burnt y (y.burnt ++ ((get_or items i d).0 ∷ [])) →
        z ≡ with_burnt x (take checkpoint x.burnt ++ side_numbers (take (i + 1) items))
    burnt_again y z e f =
        f ∙ (ap (λ w. with_burnt w (w.burnt ++ ((get_or items i d).0 ∷ []))) e
        ∙ ap (with_burnt x) (append_assoc (take checkpoint x.burnt) (side_numbers (take i items)) ((get_or items i d).0 ∷ []) ∙ ap (λ l. take checkpoint x.burnt ++ l) (sym more_again)))
