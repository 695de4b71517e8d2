-- Each half-edge lies in the face of the node that stands for its face number: the outside, or the head of a cycle inside a component.
use Rattle.std.proofs.Common.{arith, ◌≡◌, ℕ, zero, suc, ◌+◌, ◌-◌, ◌<◌, ◌≤◌, inl, inr, List, Option, length, map, refl, sym, ap, subst, ◌∙◌}
use Rattle.std.specs.Prelude.{Some, None, slice_get, slice_index}
use Rattle.std.proofs.lemmas.Bool.{cases_lt}
use Rattle.std.proofs.lemmas.Option.{slice_get_within, get_or_from_slice_get}
use Rattle.nest_base.specs.declared.places.Point.{Point}
use Rattle.nest_base.specs.Plane.{HalfEdge}
use Rattle.nest_base.specs.Walks.{here, on, against}
use Rattle.plate_sides.specs.Links.{Node, Outer, At, IsSeen, along, sight}
use Rattle.plate_sides.specs.Reach.{SameFace}
use Rattle.half_edges.specs.Numbers.{half_edges_of, IsSide}
use Rattle.half_edges.specs.Graph.{Graph}
use Rattle.nest_base.proofs.ListReads.{one_read, read_below, read-map}
use Rattle.half_edges.proofs.Numbers.{one_side}
use Rattle.face_nesting.specs.Sights.{IsMarkSideOf, IsSight}
use Rattle.face_nesting.specs.Numbering.{face_of_cycle, face_seen, AreOuterFaces}
use Rattle.face_nesting.proofs.CycleFaces.{told_face, own_face}
use Rattle.face_nesting.proofs.CycleMembers.{heads, head_below, head_numbered, number_of, number_below, side_within, members_keep}
use Rattle.face_nesting.proofs.KnownGraph.{half_below, along_on_plate}
use Rattle.face_nesting.proofs.MarkSideComponents.{mark_side_at}
use Rattle.face_nesting.proofs.FoundCycles.{AreFound, as_many_mark_sides, as_many_sights, mark_side_heads, sight_of, seen_cycle_is_earlier}

module _ {graph : Graph} {mark_sides cycle_of sides starts : List ℕ} {sights : List (Option ℕ)} (found : AreFound graph mark_sides cycle_of sides starts sights)
    (components : ℕ) (outer : List ℕ) (as_many : components ≡ length graph.marks) (are_outer : AreOuterFaces cycle_of sights components outer) where
  -- the face of a component is the one that it sees
  pub component_face : (c : ℕ) (it : Option ℕ) → slice_get sights c ≡ Some it → face_of_cycle components outer c ≡ face_seen components cycle_of outer it
  component_face c it at =
      let below : c < components = omega (arith, slice_get_within sights c it at, as_many, as_many_sights found) in
      told_face components outer c below ∙ get_or_from_slice_get outer c (face_seen components cycle_of outer it) 0 (are_outer c it at)

  -- that of a half-edge is its cycle's
  pub side_face : (s r : ℕ) → slice_get cycle_of s ≡ Some r → slice_index (map (face_of_cycle components outer) cycle_of) s ≡ face_of_cycle components outer r
  side_face s r at =
      get_or_from_slice_get (map (face_of_cycle components outer) cycle_of) s (face_of_cycle components outer r) 0 (read-map (face_of_cycle components outer) cycle_of s r at)

  -- the node that stands for a face number
  abbrev pub IsAnchor : ℕ → Node → Type 0
  IsAnchor zero a = a ≡ Outer
  IsAnchor (suc k) a = (s : ℕ) × (h : HalfEdge) × (slice_get (heads found.are_cycles) (components + k) ≡ Some s) × IsSide graph.edges s h × (a ≡ At h)

  pub one_anchor : (f : ℕ) (a b : Node) → IsAnchor f a → IsAnchor f b → a ≡ b
  one_anchor zero a b is_a is_b = is_a ∙ sym is_b
  one_anchor (suc k) a b (s, g, at_s, is_g, a_is) (t, h, at_t, is_h, b_is) =
      let same = one_read (heads found.are_cycles) (components + k) s t at_s at_t in
      a_is ∙ ap At (one_side graph.edges s g h is_g (subst (λ n. IsSide graph.edges n h) (sym same) is_h)) ∙ sym b_is

  -- each half-edge with this cycle number lies in the face of the node that stands for the cycle's face
  abbrev IsAnchored : ℕ → Type 0
  IsAnchored r = (s : ℕ) (h : HalfEdge) → slice_get cycle_of s ≡ Some r → IsSide graph.edges s h →
      (a : Node) × IsAnchor (face_of_cycle components outer r) a × SameFace graph.edges (At h) a

  -- a cycle lies in one face
  from_head : (r head : ℕ) (top : HalfEdge) (a : Node) → slice_get (heads found.are_cycles) r ≡ Some head → IsSide graph.edges head top → SameFace graph.edges (At top) a →
      (s : ℕ) (h : HalfEdge) → slice_get cycle_of s ≡ Some r → IsSide graph.edges s h → SameFace graph.edges (At h) a
  from_head r head top a at is_top joined s h is_r is =
      members_keep found.are_cycles (λ t. (k : HalfEdge) → IsSide graph.edges t k → SameFace graph.edges (At k) a) r head at
      (λ k is_k. subst (λ (e : HalfEdge). SameFace graph.edges (At e) a) (one_side graph.edges head top k is_top is_k) joined)
      (λ t is_t reached k is_k.
      let half = half_below found.known t (side_within found.are_cycles t r is_t) in
      against (along (along_on_plate found.known t half.0 k half.1 is_k)) (reached half.0 half.1))
      s is_r h is

  inner_anchored : (r : ℕ) → components ≤ r → IsAnchored r
  inner_anchored r inner s h is_r is =
      let head = head_below found.are_cycles r (number_below found.are_cycles s r is_r) in
      let top = half_below found.known head.0 (side_within found.are_cycles head.0 r (head_numbered found.are_cycles r head.0 head.1)) in
      let face : face_of_cycle components outer r ≡ suc (r - components) = omega (arith, own_face components outer r inner) in
      let place : r ≡ components + (r - components) = omega (arith, inner) in
      let anchor : IsAnchor (suc (r - components)) (At top.0) = (head.0, top.0, subst (λ n. slice_get (heads found.are_cycles) n ≡ Some head.0) place head.1, top.1, refl) in
      (At top.0, subst (λ f. IsAnchor f (At top.0)) (sym face) anchor, from_head r head.0 top.0 (At top.0) head.1 top.1 here s h is_r is)

  -- what a component sees lies in its face
  outer_anchored : (c : ℕ) → c < components → ((q : ℕ) → q < c → IsAnchored q) → IsAnchored c
  outer_anchored c below earlier s h is_c is = of seen.0 seen.1 seen.2
    where
      side : (m : ℕ) × (slice_get mark_sides c ≡ Some m)
      side = read_below mark_sides c (omega (arith, below, as_many, as_many_mark_sides found))

      mark_side : (mark : Point) × (slice_get graph.marks c ≡ Some mark) × IsMarkSideOf graph.edges mark side.0
      mark_side = mark_side_at found.known mark_sides found.are_mark_sides c side.0 side.1

      seen : (it : Option ℕ) × (slice_get sights c ≡ Some it) × IsSight graph.edges mark_side.0 it
      seen = sight_of found c mark_side.0 mark_side.1

      from_side : (a : Node) → SameFace graph.edges (At mark_side.2.0) a → SameFace graph.edges (At h) a
      from_side a joined = from_head c side.0 mark_side.2.0 a (mark_side_heads found c side.0 side.1) mark_side.2.1 joined s h is_c is

      cycle_anchored : (q : ℕ) → (q < components → q < c) → IsAnchored q
      cycle_anchored q less = elim (cases_lt q components) [
        | inl outside ↦ earlier q (less outside)
        | inr inside ↦ inner_anchored q inside
      ]

      of : (it : Option ℕ) → slice_get sights c ≡ Some it → IsSight graph.edges mark_side.0 it → (a : Node) × IsAnchor (face_of_cycle components outer c) a × SameFace graph.edges (At h) a
      of None at none =
          let link = sight {n = Outer} mark_side.2.2 (subst (λ p. IsSight graph.edges p None) (sym mark_side.2.3) none) in
          (Outer, subst (λ f. IsAnchor f Outer) (sym (component_face c None at)) refl, from_side Outer (on link here))
      of (Some u) at (d, is_d, is_seen) =
          let q = number_of found.are_cycles u (slice_get_within (half_edges_of graph.edges) u d is_d) in
          let number : slice_index cycle_of u ≡ q.0 = get_or_from_slice_get cycle_of u q.0 0 q.1 in
          let face : face_of_cycle components outer c ≡ face_of_cycle components outer q.0 = component_face c (Some u) at ∙ ap (face_of_cycle components outer) number in
          let there = cycle_anchored q.0 (λ less. seen_cycle_is_earlier found c u q.0 at q.1 (omega (arith, less, as_many))) u d q.1 is_d in
          let link = sight {n = At d} mark_side.2.2 (subst (λ p. IsSeen graph.edges p d) (sym mark_side.2.3) is_seen) in
          (there.0, subst (λ f. IsAnchor f there.0) (sym face) there.1, from_side there.0 (on link there.2))

  anchored_below : (n r : ℕ) → r < n → IsAnchored r
  anchored_below zero r less = absurd (omega arith)
  anchored_below (suc n) r less = elim (cases_lt r components) [
    | inl outside ↦ outer_anchored r outside (λ q before. anchored_below n q (omega (arith, less, before)))
    | inr inside ↦ inner_anchored r inside
  ]

  -- so each half-edge lies in the face of the node that stands for its face number
  pub anchored : (s : ℕ) (h : HalfEdge) → IsSide graph.edges s h → (a : Node) × IsAnchor (slice_index (map (face_of_cycle components outer) cycle_of) s) a × SameFace graph.edges (At h) a
  anchored s h is =
      let r = number_of found.are_cycles s (slice_get_within (half_edges_of graph.edges) s h is) in
      let there = anchored_below (suc r.0) r.0 (omega arith) s h r.1 is in
      (there.0, subst (λ f. IsAnchor f there.0) (sym (side_face s r.0 r.1)) there.1, there.2)
