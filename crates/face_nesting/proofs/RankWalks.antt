-- Ranks by number are those of the plate: walks over links become ways from face to face, and back.
use Rattle.std.proofs.Common.{arith, ◌≡◌, ◌⊎◌, inl, inr, ℕ, ◌+◌, List, [], length, refl, sym, subst, ◌∙◌}
use Rattle.std.specs.Prelude.{Some, slice_get, slice_index}
use Rattle.std.proofs.lemmas.Option.{slice_get_within, get_or_from_slice_get, slice_get-get_or}
use Rattle.nest_base.specs.declared.places.Point.{Point}
use Rattle.nest_base.specs.declared.places.Edge.{Edge}
use Rattle.nest_base.specs.Plane.{HalfEdge, twin}
use Rattle.nest_base.specs.Walks.{Walk, here, on, against}
use Rattle.nest_base.proofs.Walks.{Walk-back}
use Rattle.nest_base.proofs.ListReads.{read_below}
use Rattle.plate_sides.specs.HalfEdges.{IsHalfEdge}
use Rattle.plate_sides.specs.Links.{Node, Outer, At, IsLinked, along, sight, Sees}
use Rattle.plate_sides.specs.Reach.{SameFace, IsLinkedOver, within, across, crossing, crossings, IsRank}
use Rattle.half_edges.specs.Numbers.{half_edges_of, IsSide}
use Rattle.half_edges.proofs.Numbers.{side_from_half_edge, side_is_half_edge}
use Rattle.half_edges.proofs.Twins.{IsSide-twin}
use Rattle.rotation_systems.specs.Twins.{twin_number}
use Rattle.face_nesting.specs.Numbering.{outer_face}
use Rattle.face_nesting.specs.Nesting.{AreFaces}
use Rattle.face_nesting.specs.Ranks.{AreNeighbours, IsWayOut, step_count, AreDistances}
use Rattle.face_nesting.proofs.RankDistances.{neighbours_turned}
use Rattle.face_nesting.proofs.WaysOut.{none_burnt}

-- one walk and then another cross as many edges as both
joined : {edges : List Edge} {burnt : List HalfEdge} {c b a : Node} (w : Walk (IsLinkedOver edges burnt) b a) (v : Walk (IsLinkedOver edges burnt) c b) →
    (walk : Walk (IsLinkedOver edges burnt) c a) × (crossings walk ≡ crossings w + crossings v)
joined here v = (v, omega arith)
joined (on link w) v = let rest = joined w v in (on link rest.0, omega (arith, rest.1))
joined (against link w) v = let rest = joined w v in (against link rest.0, omega (arith, rest.1))

-- a walk within a face crosses nothing
inside : {edges : List Edge} {b a : Node} → SameFace edges a b → (walk : Walk (IsLinkedOver edges []) b a) × (crossings walk ≡ 0)
inside here = (here, refl)
inside (on link walk) = let rest = inside walk in (on (within link) rest.0, omega (arith, rest.1))
inside (against link walk) = let rest = inside walk in (against (within link) rest.0, omega (arith, rest.1))

module _ {edges : List Edge} {faces : List ℕ} (as_many : length faces ≡ length (half_edges_of edges)) (are : AreFaces edges faces) where
  -- the number of the face of a node
  abbrev HasFace : Node → ℕ → Type 0
  HasFace Outer f = f ≡ outer_face
  HasFace (At h) f = (s : ℕ) × IsSide edges s h × (slice_get faces s ≡ Some f)

  at_side : (s : ℕ) (h : HalfEdge) → IsSide edges s h → HasFace (At h) (slice_index faces s)
  at_side s h is = (s, is, slice_get-get_or faces s 0 (omega (arith, as_many, slice_get_within (half_edges_of edges) s h is)))

  face_of_half_edge : (h : HalfEdge) → IsHalfEdge edges h → (f : ℕ) × HasFace (At h) f
  face_of_half_edge h is = let s = side_from_half_edge edges h is in (slice_index faces s.0, at_side s.0 h s.1)

  -- nodes of one face have one number
  one_face : (a b : Node) (f g : ℕ) → SameFace edges a b → HasFace a f → HasFace b g → f ≡ g
  one_face Outer Outer f g walk at_a at_b = at_a ∙ sym at_b
  one_face Outer (At h) f g walk at_a (t, is_t, at_b) =
      at_a ∙ sym ((are.outside t h is_t).1 (Walk-back walk)) ∙ get_or_from_slice_get faces t g 0 at_b
  one_face (At h) Outer f g walk (s, is_s, at_a) at_b =
      sym (get_or_from_slice_get faces s f 0 at_a) ∙ (are.outside s h is_s).1 walk ∙ sym at_b
  one_face (At h) (At k) f g walk (s, is_s, at_a) (t, is_t, at_b) =
      sym (get_or_from_slice_get faces s f 0 at_a) ∙ (are.joined s t h k is_s is_t).1 walk ∙ get_or_from_slice_get faces t g 0 at_b

  -- and those with one number lie in one face
  same_face : (a b : Node) (f : ℕ) → HasFace a f → HasFace b f → SameFace edges a b
  same_face Outer Outer f at_a at_b = here
  same_face Outer (At h) f at_a (t, is_t, at_b) = Walk-back ((are.outside t h is_t).0 (get_or_from_slice_get faces t f 0 at_b ∙ at_a))
  same_face (At h) Outer f (s, is_s, at_a) at_b = (are.outside s h is_s).0 (get_or_from_slice_get faces s f 0 at_a ∙ at_b)
  same_face (At h) (At k) f (s, is_s, at_a) (t, is_t, at_b) =
      (are.joined s t h k is_s is_t).0 (get_or_from_slice_get faces s f 0 at_a ∙ sym (get_or_from_slice_get faces t f 0 at_b))

  seen_face : (p : Point) (n : Node) → Sees edges p n → (f : ℕ) × HasFace n f
  seen_face p Outer sees = (outer_face, refl)
  seen_face p (At d) sees = face_of_half_edge d sees.is_side

  -- the face of what a link joins
  within_faces : (a b : Node) → IsLinked edges a b → ((f : ℕ) × HasFace a f) × ((g : ℕ) × HasFace b g)
  within_faces _ _ (along {s} {t} link) = (face_of_half_edge s link.0, face_of_half_edge t link.1.one)
  within_faces _ _ (sight {m} {n} is sees) = (face_of_half_edge m is.is_side, seen_face m.from n sees)

  -- from the face f to g one edge is crossed, or none
  abbrev IsStep : ℕ → ℕ → ℕ → Type 0
  IsStep f g n = ((n ≡ 0) × (f ≡ g)) ⊎ ((n ≡ 1) × AreNeighbours faces f g)

  step_back : (f g n : ℕ) → IsStep f g n → IsStep g f n
  step_back f g n (inl (no_rank, same)) = inl (no_rank, sym same)
  step_back f g n (inr (one, near)) = inr (one, neighbours_turned faces f g near)

  link_step : (a b : Node) (link : IsLinkedOver edges [] a b) → (f : ℕ) × (g : ℕ) × HasFace a f × HasFace b g × IsStep f g (crossing link)
  unfolding at_side
  link_step a b (within link) =
      let both = within_faces a b link in
      (both.0.0, both.1.0, both.0.1, both.1.1, inl (refl, one_face a b both.0.0 both.1.0 (on link here) both.0.1 both.1.1))
  link_step _ _ (across {s} is unburnt) =
      let number = side_from_half_edge edges s is in
      let one = at_side number.0 s number.1 in
      let other = at_side (twin_number number.0) (twin s) (IsSide-twin edges number.0 s number.1) in
      (slice_index faces number.0, slice_index faces (twin_number number.0), one, other, inr (refl, (number.0, one.2, other.2)))

  step_on : (f g n : ℕ) → IsStep f g n → (way : IsWayOut faces g) → (more : IsWayOut faces f) × (step_count more ≡ n + step_count way)
  step_on f g n (inl (no_rank, same)) way = subst (λ k. (more : IsWayOut faces k) × (step_count more ≡ n + step_count way)) (sym same) (way, omega (arith, no_rank))
  step_on f g n (inr (one, near)) way = (on near way, omega (arith, one))

  -- a walk becomes a way
  way_of : {a : Node} (walk : Walk (IsLinkedOver edges []) Outer a) (f : ℕ) → HasFace a f → (way : IsWayOut faces f) × (step_count way ≡ crossings walk)
  way_of here f at = subst (λ k. (way : IsWayOut faces k) × (step_count way ≡ 0)) (sym at) (here, refl)
  way_of (on {a} {b} link walk) f at =
      let one = link_step a b link in
      let rest = way_of walk one.1 one.3 in
      let more = step_on one.0 one.1 (crossing link) one.4 rest.0 in
      subst (λ k. (way : IsWayOut faces k) × (step_count way ≡ crossing link + crossings walk)) (one_face a a one.0 f here one.2 at) (more.0, omega (arith, more.1, rest.1))
  way_of (against {a} {b} link walk) f at =
      let one = link_step b a link in
      let rest = way_of walk one.0 one.2 in
      let more = step_on one.1 one.0 (crossing link) (step_back one.0 one.1 (crossing link) one.4) rest.0 in
      subst (λ k. (way : IsWayOut faces k) × (step_count way ≡ crossing link + crossings walk)) (one_face a a one.1 f here one.3 at) (more.0, omega (arith, more.1, rest.1))

  abbrev WalksFrom : Node → ℕ → Type 0
  WalksFrom a n = (walk : Walk (IsLinkedOver edges []) Outer a) × (crossings walk ≡ n)

  -- to a neighbour and on from there
  walk_over : (f g n : ℕ) → AreNeighbours faces f g → ((b : Node) → HasFace b g → WalksFrom b n) → (a : Node) → HasFace a f → WalksFrom a (n + 1)
  walk_over f g n (s, at_f, at_g) walks a at =
      let h = read_below (half_edges_of edges) s (omega (arith, as_many, slice_get_within faces s f at_f)) in
      let rest = walks (At (twin h.0)) (twin_number s, IsSide-twin edges s h.0 h.1, at_g) in
      let first = inside (same_face a (At h.0) f at (s, h.1, at_f)) in
      let whole = joined first.0 (on (across (side_is_half_edge edges s h.0 h.1) (none_burnt h.0)) rest.0) in
      (whole.0, omega (arith, whole.1, first.1, rest.1))

  -- a way becomes a walk
  walk_of : {f : ℕ} (way : IsWayOut faces f) (a : Node) → HasFace a f → WalksFrom a (step_count way)
  walk_of here a at = inside (same_face a Outer outer_face at refl)
  walk_of (on {a = f} {b = g} near way) a at = walk_over f g (step_count way) near (walk_of way) a at
  walk_of (against {a = f} {b = g} near way) a at = walk_over f g (step_count way) (neighbours_turned faces g f near) (walk_of way) a at

  -- so the distance of a half-edge's face is its rank
  pub is_rank : (ranks : List ℕ) → AreDistances faces ranks → (s : ℕ) (h : HalfEdge) → IsSide edges s h → Walk (IsLinkedOver edges []) Outer (At h) →
      IsRank edges (At h) (slice_index ranks (slice_index faces s))
  is_rank ranks distances s h is walk =
      let f = slice_index faces s in
      let at = at_side s h is in
      let distance = distances f (way_of walk f at).0 in
      let nearest = walk_of distance.reached.0 (At h) at in
      record {
        reached = (nearest.0, nearest.1 ∙ distance.reached.1);
        fewest = λ other. let way = way_of other f at in omega (arith, way.1, distance.fewest way.0);
      }
