-- Ranks that have spread from each face of the queue are distances.
use Rattle.std.proofs.Common.{arith, ◌≡◌, ℕ, ◌+◌, ◌<◌, ◌≤◌, List, length, ap, ◌∙◌}
use Rattle.std.specs.Prelude.{slice_get, slice_index}
use Rattle.std.proofs.lemmas.Option.{slice_get_within}
use Rattle.std.proofs.lemmas.List.{get_or_default}
use Rattle.nest_base.specs.Walks.{here, on, against}
use Rattle.rotation_systems.specs.Twins.{twin_number}
use Rattle.rotation_systems.proofs.Twins.{twin_twice}
use Rattle.face_nesting.specs.Ranks.{AreNeighbours, IsWayOut, step_count, AreDistances, no_rank, rank_at, IsSpread}
use Rattle.face_nesting.proofs.RankWrites.{ranked_within}

pub neighbours_turned : (faces : List ℕ) (f g : ℕ) → AreNeighbours faces f g → AreNeighbours faces g f
neighbours_turned faces f g (s, at_f, at_g) = (twin_number s, at_g, ap (slice_get faces) (twin_twice s) ∙ at_f)

module _ {faces ranks queue : List ℕ} {done : ℕ} (spread : IsSpread faces ranks queue done) (all : length queue ≤ done) where
  -- across an edge ranks differ by one at most
  across : (d e : ℕ) → AreNeighbours faces d e → rank_at ranks d < no_rank → (rank_at ranks e < no_rank) × (rank_at ranks e ≤ rank_at ranks d + 1)
  across d e near has = let at = spread.queued d has in spread.closed at.0 d e (omega (arith, slice_get_within queue at.0 d at.1, all)) at.1 near

  -- so a face with a way out has a rank, and no greater one than the steps of the way
  no_further : {f : ℕ} (way : IsWayOut faces f) → (rank_at ranks f < no_rank) × (rank_at ranks f ≤ step_count way)
  no_further here = (omega (arith, spread.outer), omega (arith, spread.outer))
  no_further (on {a} {b} link way) =
      let next = no_further way in
      let far = across b a (neighbours_turned faces a b link) next.0 in
      (far.0, omega (arith, far.1, next.1))
  no_further (against {a} {b} link way) =
      let next = no_further way in
      let far = across b a link next.0 in
      (far.0, omega (arith, far.1, next.1))

  pub are_distances : AreDistances faces ranks
  are_distances f way =
      let far = no_further way in
      let nearest = spread.attained f far.0 in
      let is : rank_at ranks f ≡ slice_index ranks f = get_or_default ranks f no_rank 0 (ranked_within ranks f far.0) in
      record { reached = (nearest.0, nearest.1 ∙ is); fewest = λ other. omega (arith, is, (no_further other).1) }
