-- Runs: the half-edges of one vertex stand together in the list of all.
use Rattle.std.specs.Prelude.{◌≡◌, ◌≢◌, ℕ, pos, ◌+◌, ◌<◌, ◌≤◌, List, length, slice_get, slice_index_or, Some, AllPairs}
use Rattle.nest_base.specs.declared.places.Point.{Point}
use Rattle.nest_base.specs.declared.numbers.Side.{Side}
use Rattle.nest_base.specs.declared.places.Edge.{Edge}
use Rattle.nest_base.specs.Plane.{HalfEdge}
use Rattle.nest_base.specs.Order.{IsMarkedBefore}
use Rattle.half_edges.specs.Numbers.{half_edges_of}

-- the half-edge at a place that stands in the list
abbrev pub side_at : List HalfEdge → ℕ → HalfEdge
side_at sides k = slice_index_or sides k (record { from = record { x = pos 0; y = pos 0 }; to = record { x = pos 0; y = pos 0 } })

-- the vertex that the half-edge leaves whose number stands at place j
abbrev pub from_at : List Edge → List ℕ → ℕ → Point
from_at edges all j = (side_at (half_edges_of edges) (slice_index_or all j 0)).from

-- place j belongs to the run with the number v, of those that begin at these places
pub record IsInRun (starts : List ℕ) (j v : ℕ) : Type 0 where
  pub first : ℕ
  pub begins : slice_get starts v ≡ Some first
  pub not_before : first ≤ j
  pub before_next : (behind : ℕ) → slice_get starts (v + 1) ≡ Some behind → j < behind

-- the runs of all n places; the last start is n
pub record AreAllRuns (at : ℕ → Point) (n : ℕ) (vertices : List Point) (starts : List ℕ) : Type 0 where
  pub one_more : length starts ≡ length vertices + 1
  pub few : length vertices ≤ n
  pub in_order : AllPairs IsMarkedBefore vertices
  pub rising : AllPairs (λ i j. i < j) starts
  pub ends : slice_get starts (length vertices) ≡ Some n
  pub stands : (j : ℕ) → j < n → (v : ℕ) × IsInRun starts j v × (slice_get vertices v ≡ Some (at j))

-- in a list by number of half-edges a value is written for each of the first n of a rotation, and nothing else
pub record NumbersRotation {X : Type 0} (value : ℕ → X) (rotation : List Side) (n : ℕ) (old new : List X) : Type 0 where
  pub as_long : length new ≡ length old
  pub written : (k : ℕ) (s : Side) → k < n → slice_get rotation k ≡ Some s → slice_get new s.0 ≡ Some (value k)
  pub kept : (t : ℕ) → ((k : ℕ) (s : Side) → k < n → slice_get rotation k ≡ Some s → s.0 ≢ t) → slice_get new t ≡ slice_get old t
