-- The reference at a vertex: the top of the stack, or the outer corner.
use Rattle.std.proofs.Common.{◌≡◌, ◌≢◌, ℕ, ◌<◌, List, [], ◌∷◌, ◌++◌, inl, inr, refl, sym, ap, subst, ◌∙◌, append_assoc}
use Rattle.rotation_systems.specs.Twins.{twin_number}
use Rattle.rotation_systems.specs.RotationSystem.{IsRotationSystem, to}
use Rattle.half_edges.specs.Graph.{Graph, rotations_of, component_of, origin_of}
use Rattle.cover_walks.specs.Orders.{Has}
use Rattle.cover_walks.specs.Walks.{IsExhausted, CanFollow, Inside}
use Rattle.cover_walks.specs.Choices.{AllBurnt, HasUnburnt, IsReference}
use Rattle.cover_walks.proofs.Holdings.{inside_at}
use Rattle.component_route.specs.Courses.{Course, order_of}
use Rattle.component_route.specs.Scans.{burnt_in}
use Rattle.component_route.specs.States.{JustMoved, component_from}
use Rattle.component_route.proofs.Burning.{one_rotation, exhausted_of, not_exhausted}

module _ (o : Graph) (start f : ℕ) (x : Graph) (r : Course) (h : JustMoved o start f x r) where
  pub rotation_here : rotations_of x ≡ rotations_of o
  rotation_here = one_rotation o x (order_of r) h.burnt

  pub rotation_now : IsRotationSystem (rotations_of x)
  rotation_now = subst IsRotationSystem (sym rotation_here) h.fresh.rotation

  -- what was moved is a half-edge of the graph, and so is its twin
  pub moved_side : f < (rotations_of x).sides
  moved_side = subst (λ g. f < g.sides) (sym rotation_here)
      (inside_at (rotations_of o) (component_of o) (component_from o start) h.before r.stack f
      (subst (Inside (rotations_of o) (component_of o) (component_from o start)) (ap (λ d. d ++ r.stack) h.moved ∙ append_assoc h.before (f ∷ []) r.stack) h.exhausting.laid.inside)).0

  pub twin_side : (a : ℕ) → a ≡ twin_number f → a < (rotations_of x).sides
  twin_side a e = subst (λ s. s < (rotations_of x).sides) (sym e) (rotation_now.twin_in f moved_side)

  -- where all is burnt at its vertex, that one is exhausted
  pub end_exhausted : (a : ℕ) → a ≡ twin_number f → AllBurnt (rotations_of x) (burnt_in x) (origin_of x a) → IsExhausted (rotations_of o) (order_of r) (to (rotations_of o) f)
  end_exhausted a e k =
      exhausted_of o start h.fresh x (order_of r) h.burnt (to (rotations_of o) f) h.exhausting.place
      (subst (AllBurnt (rotations_of x) (burnt_in x)) (ap (λ g. g.from a) rotation_here ∙ ap (origin_of o) e) k)

  -- the top of the stack is a half-edge
  pub top_in : (s : ℕ) (rest : List ℕ) → r.stack ≡ s ∷ rest → s < (rotations_of o).sides
  top_in s rest e =
      (inside_at (rotations_of o) (component_of o) (component_from o start) r.done rest s
      (subst (λ l. Inside (rotations_of o) (component_of o) (component_from o start) (r.done ++ l)) e h.exhausting.laid.inside)).0

  pub top_reference : (s : ℕ) (rest : List ℕ) → r.stack ≡ s ∷ rest → origin_of o s ≡ to (rotations_of o) f → IsReference (rotations_of o) start r.stack (to (rotations_of o) f) s s
  top_reference s rest e at = record {
    left_in = top_in s rest e;
    right_in = top_in s rest e;
    left_at = at;
    right_at = at;
    between = inl (refl, subst (λ l. Has (rotations_of o) l s) (sym e) (inl refl));
  }

  -- where it does not leave the vertex, which isn't exhausted, the vertex is the root
  module _ (free : HasUnburnt (rotations_of x) (burnt_in x) (to (rotations_of o) f)) (apart : (s : ℕ) (rest : List ℕ) → r.stack ≡ s ∷ rest → origin_of o s ≢ to (rotations_of o) f) where
    unexhausted : IsExhausted (rotations_of o) (order_of r) (to (rotations_of o) f) → ⊥
    unexhausted = not_exhausted o start h.fresh x (order_of r) h.burnt (to (rotations_of o) f) h.exhausting.place free

    root_of : (stack : List ℕ) → r.stack ≡ stack → CanFollow (rotations_of o) (order_of r) (origin_of o start) (origin_of o start) (to (rotations_of o) f) stack → to (rotations_of o) f ≡ origin_of o start
    root_of [] e k = k
    root_of (s ∷ rest) e (inl at) = absurd (apart s rest e at)
    root_of (s ∷ rest) e (inr k) = elim k.1 [ inl at ↦ at | inr (inl end) ↦ absurd (unexhausted end) | inr (inr at) ↦ at ]

    is_root : to (rotations_of o) f ≡ origin_of o start
    is_root = root_of r.stack refl h.follow

    pub corner_reference : (u : ℕ) → u ≡ (rotations_of x).ccw start → IsReference (rotations_of o) start r.stack (to (rotations_of o) f) start u
    corner_reference u e =
        let next : u ≡ (rotations_of o).ccw start = e ∙ ap (λ g. g.ccw start) rotation_here in
        record {
          left_in = h.fresh.outer;
          right_in = subst (λ s. s < (rotations_of o).sides) (sym next) (h.fresh.rotation.ccw_in start h.fresh.outer);
          left_at = sym is_root;
          right_at = ap (rotations_of o).from next ∙ (h.fresh.rotation.ccw_from start h.fresh.outer ∙ sym is_root);
          between = inr (refl, next);
        }
