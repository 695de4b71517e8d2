-- Run after run origins and positions are written; with the vertices and the starts they are a layout.
use Rattle.std.proofs.Common.{arith, ◌≡◌, ◌≢◌, ℕ, ◌+◌, ◌-◌, ◌*◌, ◌<◌, ◌≤◌, List, length, map, get_or, refl, sym, ap, subst, ◌∙◌}
use Rattle.std.specs.Prelude.{Some, slice_get, All, AllPairs}
use Rattle.std.proofs.lemmas.List.{length-map}
use Rattle.std.proofs.lemmas.Option.{slice_get_within, slice_get_read}
use Rattle.nest_base.specs.declared.numbers.Side.{Side}
use Rattle.nest_base.specs.declared.numbers.VertexId.{VertexId}
use Rattle.nest_base.specs.NumberLists.{side_numbers}
use Rattle.nest_base.specs.declared.places.Point.{Point}
use Rattle.nest_base.specs.declared.places.Edge.{Edge}
use Rattle.nest_base.specs.Plane.{HalfEdge}
use Rattle.half_edges.specs.Numbers.{IsSide}
use Rattle.half_edges.specs.Rotations.{AreAllRound}
use Rattle.half_edges.specs.Layouts.{IsLayout, IsRotationAt, ArePositions}
use Rattle.half_edges.specs.Runs.{from_at, IsInRun, AreAllRuns, NumbersRotation}
use Rattle.nest_base.proofs.ListReads.{read_below, read-map, read_of_map, AllPairs-reads, AllPairs-from_reads, All-from_reads, between, read_of_between, AllPairs-between}
use Rattle.half_edges.proofs.Numbers.{length-half_edges}
use Rattle.half_edges.proofs.Rounds.{one_rotation}
use Rattle.half_edges.proofs.AllSides.{place_of, number_below, from_at_is, each_once}
use Rattle.half_edges.proofs.RotationRuns.{stands_in_rotation, AreVertices-runs, IsRotationAt-run, behind_within, not_turned}
use Rattle.half_edges.proofs.RotationNumbers.{AreNumbered, AreNumbered-more}

module _ (edges : List Edge) (all : List Side) {vertices : List Point} {starts : List ℕ} (whole : AreAllRound edges (side_numbers all))
    (runs : AreAllRuns (from_at edges (side_numbers all)) (length all) vertices starts) where
  all_runs : AreAllRuns (from_at edges (side_numbers all)) (length (side_numbers all)) vertices starts
  all_runs = subst (λ n. AreAllRuns (from_at edges (side_numbers all)) n vertices starts) (sym (length-map all (λ (s : Side). s.0))) runs

  -- no two places hold one number
  sides_apart : AllPairs (λ (s : Side) (t : Side). s.0 ≢ t.0) all
  sides_apart = AllPairs-from_reads (λ (s : Side) (t : Side). s.0 ≢ t.0) all (λ i j s t less at_s at_t.
      AllPairs-reads (λ m n. m ≢ n) (side_numbers all) i j s.0 t.0 (each_once whole) less (read-map (λ (r : Side). r.0) all i s at_s) (read-map (λ (r : Side). r.0) all j t at_t))

  -- where the half-edge with the number s stands: its place, its vertex and the run
  abbrev Standing : ℕ → HalfEdge → Type 0
  Standing s h = (j : ℕ) × (side : Side) × (v : ℕ) × (slice_get all j ≡ Some side) × (side.0 ≡ s) × IsInRun starts j v × (slice_get vertices v ≡ Some h.from)

  standing : (s : ℕ) (h : HalfEdge) → IsSide edges s h → Standing s h
  standing s h is =
      let place = place_of whole s h is in
      let side = read_of_map (λ (r : Side). r.0) all place.0 s place.1 in
      let stand = runs.stands place.0 (slice_get_within all place.0 side.0 side.1) in
      (place.0, side.0, stand.0, side.1, side.2, stand.1, stand.2 ∙ ap Some (from_at_is edges (side_numbers all) place.0 s h place.1 is))

  pub IsLayout-runs : (origins : List VertexId) (positions : List ℕ) → AreNumbered all starts (length vertices) origins positions → length origins ≡ 2 * length edges → IsLayout edges vertices (map (λ (v : VertexId). v.0) origins) (side_numbers all) starts
  IsLayout-runs origins positions numbered long = record {
    are_vertices = AreVertices-runs whole all_runs;
    as_many = omega (arith, length-map origins (λ (v : VertexId). v.0), length-half_edges edges);
    leaves = λ s h is. of s h (standing s h is);
    one_more = runs.one_more;
    rotations = λ v first behind p is_p begins ends. IsRotationAt-run whole all_runs v first behind p is_p begins ends;
  }
    where
      of : (s : ℕ) (h : HalfEdge) → Standing s h → (v : ℕ) × (slice_get (map (λ (v : VertexId). v.0) origins) s ≡ Some v) × (slice_get vertices v ≡ Some h.from)
      of s h (j, side, v, at, number, run, is_p) =
          let origin = numbered.origin_of j v side (slice_get_within vertices v h.from is_p) at run in
          (v, ap (slice_get (map (λ (v : VertexId). v.0) origins)) (sym number) ∙ read-map (λ (v : VertexId). v.0) origins side.0 (record { 0 = v }) origin, is_p)

  pub ArePositions-runs : (origins : List VertexId) (positions : List ℕ) → AreNumbered all starts (length vertices) origins positions → ArePositions edges positions
  ArePositions-runs origins positions numbered s h is rotation is_rotation = of (standing s h is)
    where
      in_rotation : (j first behind : ℕ) (r : IsRotationAt edges h.from (side_numbers all) first behind) → first ≤ j → j < behind → slice_get (side_numbers all) j ≡ Some s →
          slice_get rotation (j - first) ≡ Some h
      in_rotation j first behind r after before there =
          let sum : j ≡ first + (j - first) = omega arith in
          let stands = stands_in_rotation edges h.from (side_numbers all) first behind (j - first) s h r (omega arith) (subst (λ m. slice_get (side_numbers all) m ≡ Some s) sum there) is in
          subst (λ (l : List HalfEdge). slice_get l (j - first) ≡ Some h) (one_rotation edges h.from r.rotation rotation r.is_rotation is_rotation) stands

      of : Standing s h → (k : ℕ) × (slice_get positions s ≡ Some k) × (slice_get rotation k ≡ Some h)
      of (j, side, v, at, number, run, is_p) =
          let behind = read_below starts (v + 1) (omega (arith, slice_get_within vertices v h.from is_p, runs.one_more)) in
          let ringed = IsRotationAt-run whole all_runs v run.first behind.0 h.from is_p run.begins behind.1 in (
            j - run.first,
            ap (slice_get positions) (sym number) ∙ numbered.position_of j v side (slice_get_within vertices v h.from is_p) at run,
            in_rotation j run.first behind.0 ringed run.not_before (run.before_next behind.0 behind.1) (read-map (λ (r : Side). r.0) all j side at ∙ ap Some number),
          )

  -- the run v, from the place `first` on to before `behind`
  module _ (v first behind : ℕ) (below : v < length vertices) (is_first : first ≡ get_or starts v first) (is_behind : behind ≡ get_or starts (v + 1) behind) where
    begins : slice_get starts v ≡ Some first
    begins = slice_get_read starts (length starts) v first refl (omega (arith, runs.one_more)) is_first

    ends : slice_get starts (v + 1) ≡ Some behind
    ends = slice_get_read starts (length starts) (v + 1) behind refl (omega (arith, runs.one_more)) is_behind

    pub turned_on : first ≤ behind
    turned_on = not_turned whole all_runs v first behind begins ends

    pub within : behind ≤ length all
    within = omega (arith, behind_within whole all_runs v behind below ends, length-map all (λ (s : Side). s.0))

    -- its numbers are within lists by number
    pub rotation_below : {X : Type 0} (xs : List X) → length xs ≡ 2 * length edges → All (λ (s : Side). s.0 < length xs) (between first behind all)
    rotation_below xs long = All-from_reads (λ (s : Side). s.0 < length xs) (between first behind all) (λ k s at.
        let there = read_of_between first behind k s all turned_on within at in
        omega (arith, long, number_below whole (first + k) s.0 (read-map (λ (r : Side). r.0) all (first + k) s there.1)))

    -- and differ
    pub rotation_apart : AllPairs (λ (s : Side) (t : Side). s.0 ≢ t.0) (between first behind all)
    rotation_apart = AllPairs-between (λ (s : Side) (t : Side). s.0 ≢ t.0) first behind all turned_on within sides_apart

    -- it is numbered after those before it
    pub rotation_numbered : (origins new_origins : List VertexId) (positions new_positions : List ℕ) → AreNumbered all starts v origins positions →
        NumbersRotation (λ k. record { 0 = v }) (between first behind all) (length (between first behind all)) origins new_origins →
        NumbersRotation (λ k. k) (between first behind all) (length (between first behind all)) positions new_positions →
        AreNumbered all starts (v + 1) new_origins new_positions
    rotation_numbered = AreNumbered-more all starts sides_apart runs.rising v first behind begins ends within
