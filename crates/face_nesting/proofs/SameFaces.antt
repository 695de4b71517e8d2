-- Faces by number are the faces of the plate.
use Rattle.std.proofs.Common.{◌≡◌, ℕ, List, Option, length, map, refl, sym, ap, subst, ◌∙◌}
use Rattle.std.specs.Prelude.{Some, None, slice_get, slice_index}
use Rattle.std.proofs.lemmas.Option.{slice_get_within, get_or_from_slice_get}
use Rattle.nest_base.specs.Plane.{HalfEdge}
use Rattle.nest_base.proofs.Walks.{Walk-then, Walk-back, Walk-keeps}
use Rattle.plate_sides.specs.Links.{Node, Outer, At, IsLinked, IsAlong, IsMarkSide, Sees, along, sight}
use Rattle.plate_sides.specs.Reach.{SameFace}
use Rattle.plate_nesting.proofs.Nearest.{one_is_seen}
use Rattle.half_edges.specs.Numbers.{half_edges_of, IsSide}
use Rattle.half_edges.specs.Graph.{Graph, rotations_of}
use Rattle.rotation_systems.specs.RotationSystem.{along as along_in}
use Rattle.half_edges.proofs.Numbers.{side_from_half_edge}
use Rattle.face_nesting.specs.Sights.{IsSight}
use Rattle.face_nesting.specs.Numbering.{face_of_cycle, face_seen, outer_face, AreOuterFaces}
use Rattle.face_nesting.specs.Nesting.{AreFaces}
use Rattle.face_nesting.proofs.CycleMembers.{number_of, along_within}
use Rattle.face_nesting.proofs.KnownGraph.{one_number, along_number}
use Rattle.face_nesting.proofs.MarkSideComponents.{mark_side_number}
use Rattle.face_nesting.proofs.FoundCycles.{AreFound, mark_side_numbered, sight_of}
use Rattle.face_nesting.proofs.Anchors.{component_face, side_face, IsAnchor, one_anchor, anchored}

module _ {graph : Graph} {mark_sides cycle_of sides starts : List ℕ} {sights : List (Option ℕ)} (found : AreFound graph mark_sides cycle_of sides starts sights)
    (components : ℕ) (outer : List ℕ) (as_many : components ≡ length graph.marks) (are_outer : AreOuterFaces cycle_of sights components outer) where
  abbrev faces : List ℕ
  faces = map (face_of_cycle components outer) cycle_of

  -- the face number of a node
  abbrev HasFace : Node → ℕ → Type 0
  HasFace Outer f = f ≡ outer_face
  HasFace (At h) f = (s : ℕ) × IsSide graph.edges s h × (slice_index faces s ≡ f)

  one_face : (n : Node) (e f : ℕ) → HasFace n e → HasFace n f → e ≡ f
  one_face Outer e f is_e is_f = is_e ∙ sym is_f
  one_face (At h) e f (s, is_s, is_e) (t, is_t, is_f) = sym is_e ∙ ap (slice_index faces) (one_number found.known s t h is_s is_t) ∙ is_f

  along_face : (g h : HalfEdge) → IsAlong graph.edges g h → (f : ℕ) × HasFace (At g) f × HasFace (At h) f
  along_face g h link =
      let s = side_from_half_edge graph.edges g link.0 in
      let r = number_of found.are_cycles s.0 (slice_get_within (half_edges_of graph.edges) s.0 g s.1) in (
        face_of_cycle components outer r.0,
        (s.0, s.1, side_face found components outer as_many are_outer s.0 r.0 r.1),
        (
          along_in (rotations_of graph) s.0,
          along_number found.known s.0 g h s.1 link,
          side_face found components outer as_many are_outer (along_in (rotations_of graph) s.0) r.0 (along_within found.are_cycles s.0 r.0 r.1),
        ),
      )

  -- what a mark side sees has the face of its component
  sight_face : (m : HalfEdge) (n : Node) → IsMarkSide graph.edges m → Sees graph.edges m.from n → (f : ℕ) × HasFace (At m) f × HasFace n f
  sight_face m n is sees = of seen.0 seen.1 seen.2
    where
      side : (c s : ℕ) × (slice_get graph.marks c ≡ Some m.from) × (slice_get mark_sides c ≡ Some s) × IsSide graph.edges s m
      side = mark_side_number found.known mark_sides found.are_mark_sides m is

      seen : (it : Option ℕ) × (slice_get sights side.0 ≡ Some it) × IsSight graph.edges m.from it
      seen = sight_of found side.0 m.from side.2

      own : (it : Option ℕ) → slice_get sights side.0 ≡ Some it → HasFace (At m) (face_seen components cycle_of outer it)
      own it at =
          let cycle = mark_side_numbered found side.0 side.1 side.3 in
          (side.1, side.4, side_face found components outer as_many are_outer side.1 side.0 cycle ∙ component_face found components outer as_many are_outer side.0 it at)

      of : (it : Option ℕ) → slice_get sights side.0 ≡ Some it → IsSight graph.edges m.from it → (f : ℕ) × HasFace (At m) f × HasFace n f
      of None at none =
          let same = one_is_seen graph.edges found.known.apart m.from Outer n none sees in
          (outer_face, own None at, subst (λ k. HasFace k outer_face) same refl)
      of (Some u) at (d, is_d, is_seen) =
          let same = one_is_seen graph.edges found.known.apart m.from (At d) n is_seen sees in
          let q = number_of found.are_cycles u (slice_get_within (half_edges_of graph.edges) u d is_d) in
          let number : slice_index cycle_of u ≡ q.0 = get_or_from_slice_get cycle_of u q.0 0 q.1 in
          let face = side_face found components outer as_many are_outer u q.0 q.1 ∙ ap (face_of_cycle components outer) (sym number) in
          (face_seen components cycle_of outer (Some u), own (Some u) at, subst (λ k. HasFace k (face_seen components cycle_of outer (Some u))) same (u, is_d, face))

  link_face : (a b : Node) → IsLinked graph.edges a b → (f : ℕ) × HasFace a f × HasFace b f
  link_face _ _ (along {s} {t} link) = along_face s t link
  link_face _ _ (sight {m} {n} is sees) = sight_face m n is sees

  -- a link keeps the face number either way
  links_keep : (f : ℕ) (a b : Node) → IsLinked graph.edges a b → (HasFace a f → HasFace b f) × (HasFace b f → HasFace a f)
  links_keep f a b link =
      let one = link_face a b link in
      (λ is. subst (HasFace b) (one_face a one.0 f one.1 is) one.2, λ is. subst (HasFace a) (one_face b one.0 f one.2 is) one.1)

  walk_face : (a b : Node) (f : ℕ) → SameFace graph.edges a b → HasFace b f → HasFace a f
  walk_face a b f walk is = Walk-keeps (λ n. HasFace n f) (links_keep f) walk is

  number_face : (s : ℕ) (g : HalfEdge) (f : ℕ) → IsSide graph.edges s g → HasFace (At g) f → slice_index faces s ≡ f
  number_face s g f is has = one_face (At g) (slice_index faces s) f (s, is, refl) has

  pub are_faces : AreFaces graph.edges (map (face_of_cycle components outer) cycle_of)
  are_faces = record {
    joined = λ s t g h is_g is_h. (
      λ same.
          let a = anchored found components outer as_many are_outer s g is_g in
          let b = anchored found components outer as_many are_outer t h is_h in
          let one = one_anchor found components outer as_many are_outer (slice_index faces t) a.0 b.0 (subst (λ f. IsAnchor found components outer as_many are_outer f a.0) same a.1) b.1 in
          Walk-then a.2 (Walk-back (subst (SameFace graph.edges (At h)) (sym one) b.2)),
      λ walk. number_face s g (slice_index faces t) is_g (walk_face (At g) (At h) (slice_index faces t) walk (t, is_h, refl)),
    );
    outside = λ s h is. (
      λ same.
          let a = anchored found components outer as_many are_outer s h is in
          let one = one_anchor found components outer as_many are_outer outer_face a.0 Outer (subst (λ f. IsAnchor found components outer as_many are_outer f a.0) same a.1) refl in
          subst (SameFace graph.edges (At h)) one a.2,
      λ walk. number_face s h outer_face is (walk_face (At h) Outer outer_face walk refl),
    );
  }
