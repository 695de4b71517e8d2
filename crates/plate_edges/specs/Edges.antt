-- The edges of a drawing: the pieces of its segments between neighbouring cut points.
use Rattle.std.specs.Prelude.{◌≡◌, ◌⊎◌, if◌then◌else◌, List, Contains}
use Rattle.std.specs.Ordering.{is_lt}
use Rattle.nest_base.specs.declared.places.Point.{Point}
use Rattle.nest_base.specs.declared.places.Segment.{Segment}
use Rattle.nest_base.specs.declared.places.Edge.{Edge}
use Rattle.nest_base.specs.Plane.{rational, IsOn, IsAt, RationalPoint}
use Rattle.nest_base.specs.Order.{IsBefore, place_cmp}
use Rattle.nest_base.specs.Selection.{EnumeratesBy}
use Rattle.plate_edges.specs.Cuts.{IsCutPoint}

-- p lies on the segment from a to b, but at neither end
abbrev pub IsInside : RationalPoint → Point → Point → Type 0
IsInside p a b = IsOn p a b × (IsAt p a → ⊥) × (IsAt p b → ⊥)

-- two cut points of s with no cut point of s strictly between them
pub record IsPieceOf (segments : List Segment) (s : Segment) (e : Edge) : Type 0 where
  pub low_cut : IsCutPoint segments s e.low
  pub high_cut : IsCutPoint segments s e.high
  pub uncut : (q : Point) → IsCutPoint segments s q → IsInside (rational q) e.low e.high → ⊥

-- an edge is a piece of some segment; its two ends differ, and the lesser is `low`
pub record IsEdge (segments : List Segment) (e : Edge) : Type 0 where
  pub ends_in_order : IsBefore e.low e.high
  pub piece : (s : Segment) × Contains segments s × IsPieceOf segments s e

-- by low end, then by high end
abbrev pub IsEdgeBefore : Edge → Edge → Type 0
IsEdgeBefore e f = IsBefore e.low f.low ⊎ ((e.low ≡ f.low) × IsBefore e.high f.high)

-- all edges of the segments, each once, in order
abbrev pub AreEdgesOf : List Segment → List Edge → Type 0
AreEdgesOf segments edges = EnumeratesBy IsEdgeBefore (IsEdge segments) edges

-- a segment as an edge: the lesser end is `low`
abbrev pub edge_of : Segment → Edge
edge_of s = if is_lt (place_cmp s.b s.a) then record { low = s.b; high = s.a } else record { low = s.a; high = s.b }
