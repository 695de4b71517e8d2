-- Each run of the list of all half-edges is the rotation of its vertex.
use Rattle.std.proofs.Common.{arith, ◌≡◌, inl, inr, ℕ, ◌+◌, ◌-◌, ◌<◌, ◌≤◌, List, length, map, refl, sym, ap, subst, ◌∙◌}
use Rattle.std.specs.Prelude.{Some, slice_get, Contains, AllPairs}
use Rattle.std.proofs.lemmas.Bool.{cases_eq, cases_order}
use Rattle.std.proofs.lemmas.List.{length-map}
use Rattle.std.proofs.lemmas.Option.{slice_get_within}
use Rattle.nest_base.specs.declared.places.Point.{Point}
use Rattle.nest_base.specs.declared.places.Edge.{Edge}
use Rattle.nest_base.specs.Plane.{HalfEdge}
use Rattle.nest_base.specs.Order.{IsMarkedBefore}
use Rattle.plate_sides.specs.HalfEdges.{Leaves, IsVertex}
use Rattle.half_edges.specs.Numbers.{half_edges_of, IsSide}
use Rattle.half_edges.specs.Rotations.{AreAllRound, IsBeforeRound, IsBeforeAllRound}
use Rattle.half_edges.specs.Layouts.{IsRotationAt, AreVertices}
use Rattle.half_edges.specs.Runs.{side_at, from_at, IsInRun, AreAllRuns}
use Rattle.nest_base.proofs.ListReads.{read_below, one_read, Contains-from_read, read_from_Contains, AllPairs-reads, AllPairs-from_reads, read-map, read_of_map, between, length-between, read-between, read_of_between}
use Rattle.nest_base.proofs.Orders.{IsMarkedBefore-irrefl}
use Rattle.half_edges.proofs.Numbers.{one_side, side_is_half_edge, side_from_half_edge}
use Rattle.half_edges.proofs.AllSides.{side_there, place_of, places_in_order, from_at_is, side_at_is}
use Rattle.half_edges.proofs.Grouping.{one_run, in_run_at_start, run_is_some, in_run_between}

-- the half-edge whose number stands in the section of a rotation stands in the rotation
pub stands_in_rotation : (edges : List Edge) (v : Point) (all : List ℕ) (first behind k s : ℕ) (h : HalfEdge) (r : IsRotationAt edges v all first behind) → first + k < behind →
    slice_get all (first + k) ≡ Some s → IsSide edges s h → slice_get r.rotation k ≡ Some h
stands_in_rotation edges v all first behind k s h r below at is = of (read_below r.rotation k (omega (arith, r.long)))
  where
    same : (g : HalfEdge) → (t : ℕ) × (slice_get all (first + k) ≡ Some t) × IsSide edges t g → g ≡ h
    same g (t, there, is_g) = one_side edges s g h (subst (λ m. IsSide edges m g) (one_read all (first + k) t s there at) is_g) is

    of : (g : HalfEdge) × (slice_get r.rotation k ≡ Some g) → slice_get r.rotation k ≡ Some h
    of (g, there) = there ∙ ap Some (same g (r.stands k g there))

module _ {edges : List Edge} {all : List ℕ} {vertices : List Point} {starts : List ℕ} (whole : AreAllRound edges all)
    (runs : AreAllRuns (from_at edges all) (length all) vertices starts) where
  -- the vertex of a run is that which the half-edges leave that stand there
  vertex_of_run : (v j s : ℕ) (p : Point) (h : HalfEdge) → slice_get vertices v ≡ Some p → IsInRun starts j v → slice_get all j ≡ Some s → IsSide edges s h → h.from ≡ p
  vertex_of_run v j s p h is_p run at is =
      let stands = runs.stands j (slice_get_within all j s at) in
      let same : stands.0 ≡ v = one_run starts j stands.0 v runs.rising stands.1 run in
      sym (from_at_is edges all j s h at is) ∙ one_read vertices v (from_at edges all j) p (ap (slice_get vertices) (sym same) ∙ stands.2) is_p

  -- the run to which a half-edge belongs has the number of its vertex
  run_of_vertex : (v j s : ℕ) (p : Point) (h : HalfEdge) → slice_get vertices v ≡ Some p → slice_get all j ≡ Some s → IsSide edges s h → h.from ≡ p → IsInRun starts j v
  run_of_vertex v j s p h is_p at is leaves =
      let stands = runs.stands j (slice_get_within all j s at) in
      let q_is : from_at edges all j ≡ p = from_at_is edges all j s h at is ∙ leaves in
      subst (IsInRun starts j) (one_vertex stands.0 v p (stands.2 ∙ ap Some q_is) is_p) stands.1
    where
      one_vertex : (u w : ℕ) (q : Point) → slice_get vertices u ≡ Some q → slice_get vertices w ≡ Some q → u ≡ w
      one_vertex u w q at_u at_w = elim (cases_order u w) [
        | inl same ↦ same
        | inr (inl less) ↦ absurd (IsMarkedBefore-irrefl q q (AllPairs-reads IsMarkedBefore vertices u w q q runs.in_order less at_u at_w) refl)
        | inr (inr more) ↦ absurd (IsMarkedBefore-irrefl q q (AllPairs-reads IsMarkedBefore vertices w u q q runs.in_order more at_w at_u) refl)
      ]

  -- runs end at the end of the list at most
  pub behind_within : (v behind : ℕ) → v < length vertices → slice_get starts (v + 1) ≡ Some behind → behind ≤ length all
  behind_within v behind below at = elim (cases_eq (v + 1) (length vertices)) [
    | inl last ↦ let same : behind ≡ length all = one_read starts (v + 1) behind (length all) at (ap (slice_get starts) last ∙ runs.ends) in omega arith
    | inr other ↦
        let less : behind < length all = AllPairs-reads (λ i j. i < j) starts (v + 1) (length vertices) behind (length all) runs.rising (omega arith) at runs.ends in
        omega arith
  ]

  -- and don't before they begin
  pub not_turned : (v first behind : ℕ) → slice_get starts v ≡ Some first → slice_get starts (v + 1) ≡ Some behind → first ≤ behind
  not_turned v first behind begins ends =
      let less = run_is_some starts v first behind runs.rising begins ends in omega arith

  module _ (v first behind : ℕ) (p : Point) (is_p : slice_get vertices v ≡ Some p) (begins : slice_get starts v ≡ Some first) (ends : slice_get starts (v + 1) ≡ Some behind) where
    within : behind ≤ length all
    within = behind_within v behind (slice_get_within vertices v p is_p) ends

    turned_on : first ≤ behind
    turned_on = not_turned v first behind begins ends

    abbrev rotation : List HalfEdge
    rotation = map (side_at (half_edges_of edges)) (between first behind all)

    stands : (k : ℕ) (h : HalfEdge) → slice_get rotation k ≡ Some h → (s : ℕ) × (slice_get all (first + k) ≡ Some s) × IsSide edges s h
    stands k h at =
        let number = read_of_map (side_at (half_edges_of edges)) (between first behind all) k h at in
        let place = read_of_between first behind k number.0 all turned_on within number.1 in
        let side = side_there whole (first + k) number.0 place.1 in
        let same : side.0 ≡ h = sym (side_at_is edges number.0 side.0 side.1) ∙ number.2 in
        (number.0, place.1, subst (IsSide edges number.0) same side.1)

    in_run : (k : ℕ) (h : HalfEdge) → slice_get rotation k ≡ Some h → IsInRun starts (first + k) v
    in_run k h at =
        in_run_between starts (first + k) v first behind begins ends (omega arith)
        (omega (arith, slice_get_within rotation k h at, length-map (between first behind all) (side_at (half_edges_of edges)), length-between first behind all turned_on within))

    leaves : (k : ℕ) (h : HalfEdge) → slice_get rotation k ≡ Some h → Leaves edges p h
    leaves k h at =
        let r = stands k h at in (side_is_half_edge edges r.0 h r.2, vertex_of_run v (first + k) r.0 p h is_p (in_run k h at) r.1 r.2)

    in_order : AllPairs IsBeforeRound rotation
    in_order = AllPairs-from_reads IsBeforeRound rotation (λ i j g h less at_g at_h.
        let r = stands i g at_g in
        let t = stands j h at_h in
        of g h ((leaves i g at_g).1 ∙ sym (leaves j h at_h).1) (places_in_order whole (first + i) (first + j) r.0 t.0 g h (omega arith) r.1 t.1 r.2 t.2))
      where
        of : (g h : HalfEdge) → g.from ≡ h.from → IsBeforeAllRound g h → IsBeforeRound g h
        of g h same (inl before) = absurd (IsMarkedBefore-irrefl g.from h.from before same)
        of g h same (inr order) = order.1

    all_there : (h : HalfEdge) → Leaves edges p h → Contains rotation h
    all_there h (is, at_p) =
        let s = side_from_half_edge edges h is in
        let j = place_of whole s.0 h s.1 in
        let run = run_of_vertex v j.0 s.0 p h is_p j.1 s.1 at_p in
        let same : run.first ≡ first = one_read starts v run.first first run.begins begins in
        let before : j.0 < behind = run.before_next behind ends in
        let sum : first + (j.0 - first) ≡ j.0 = omega (arith, run.not_before) in
        let there : slice_get (between first behind all) (j.0 - first) ≡ Some s.0 = read-between first behind (j.0 - first) all (omega arith) ∙ ap (slice_get all) sum ∙ j.1 in
        Contains-from_read rotation (j.0 - first) h
        (read-map (side_at (half_edges_of edges)) (between first behind all) (j.0 - first) s.0 there ∙ ap Some (side_at_is edges s.0 h s.1))

    -- the run is the rotation of its vertex
    pub IsRotationAt-run : IsRotationAt edges p all first behind
    IsRotationAt-run = record {
      rotation = rotation;
      is_rotation = record {
        in_order = in_order;
        are_all = λ h. ((λ c. let r = read_from_Contains rotation h c in leaves r.0 h r.1), all_there h);
      };
      long = omega (arith, length-map (between first behind all) (side_at (half_edges_of edges)), length-between first behind all turned_on within);
      within = within;
      stands = stands;
    }

  -- the vertices of the runs are all vertices
  pub AreVertices-runs : AreVertices edges vertices
  AreVertices-runs = record {
    in_order = runs.in_order;
    are_all = λ p. ((λ c. let r = read_from_Contains vertices p c in is_vertex r.0 p r.1), met p);
  }
    where
      is_vertex : (v : ℕ) (p : Point) → slice_get vertices v ≡ Some p → IsVertex edges p
      is_vertex v p is_p =
          let first = read_below starts v (omega (arith, slice_get_within vertices v p is_p, runs.one_more)) in
          let behind = read_below starts (v + 1) (omega (arith, slice_get_within vertices v p is_p, runs.one_more)) in
          let less = run_is_some starts v first.0 behind.0 runs.rising first.1 behind.1 in
          let s = read_below all first.0 (omega (arith, behind_within v behind.0 (slice_get_within vertices v p is_p) behind.1)) in
          let h = side_there whole first.0 s.0 s.1 in
          (h.0, (side_is_half_edge edges s.0 h.0 h.1, vertex_of_run v first.0 s.0 p h.0 is_p (in_run_at_start starts v first.0 runs.rising first.1) s.1 h.1))

      met : (p : Point) → IsVertex edges p → Contains vertices p
      met p (h, (is, at_p)) =
          let s = side_from_half_edge edges h is in
          let j = place_of whole s.0 h s.1 in
          let stand = runs.stands j.0 (slice_get_within all j.0 s.0 j.1) in
          Contains-from_read vertices stand.0 p (stand.2 ∙ ap Some (from_at_is edges all j.0 s.0 h j.1 s.1 ∙ at_p))
