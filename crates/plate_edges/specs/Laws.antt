-- What holds of the edges of segments.
use Rattle.std.specs.Prelude.{◌≡◌, ◌↔◌, ℕ, List, All, AllPairs, IsPermutation, map}
use Rattle.nest_base.specs.declared.places.Point.{Point}
use Rattle.nest_base.specs.declared.places.Segment.{Segment}
use Rattle.nest_base.specs.declared.places.Edge.{Edge}
use Rattle.nest_base.specs.Plane.{MeetAtEndsOnly, RationalPoint, rational}
use Rattle.nest_base.specs.Range.{IsSegmentWithin, IsEdgeWithin}
use Rattle.plate_edges.specs.Cuts.{HasLength, NoneCrossesOffLattice}
use Rattle.plate_edges.specs.Edges.{AreEdgesOf, IsInside, edge_of}
use Rattle.plate_edges.specs.Pieces.{HavePieces}
use Rattle.plate_edges.specs.Points.{IsOnSegments, IsOnEdges, EdgesMeetAtEndsOnly, IsSomeVertex}

-- the edges of segments are one list
abbrev pub EdgesAreOneList : Type 0
EdgesAreOneList = (segments : List Segment) (edges others : List Edge) → AreEdgesOf segments edges → AreEdgesOf segments others → edges ≡ others

-- segments of some length, any two of which meet at ends only, are their own edges
abbrev pub ApartSegmentsAreTheirEdges : Type 0
ApartSegmentsAreTheirEdges =
    (segments : List Segment) → All HasLength segments → AllPairs MeetAtEndsOnly segments →
    (edges : List Edge) × AreEdgesOf segments edges × IsPermutation (map edge_of segments) edges

-- segments have one number of pieces
abbrev pub PiecesAreOneNumber : Type 0
PiecesAreOneNumber = (segments : List Segment) (m n : ℕ) → HavePieces segments m → HavePieces segments n → m ≡ n

-- nothing is cut that wasn't drawn, and nothing drawn is left out
abbrev pub EdgesKeepPoints : Type 0
EdgesKeepPoints =
    (segments : List Segment) (edges : List Edge) → All HasLength segments → AreEdgesOf segments edges →
    (p : RationalPoint) → IsOnEdges edges p ↔ IsOnSegments segments p

-- where no two segments cross off the lattice, two edges share nothing, or one point that is an end of both
abbrev pub EdgesAreApart : Type 0
EdgesAreApart =
    (segments : List Segment) (edges : List Edge) → All HasLength segments → NoneCrossesOffLattice segments → AreEdgesOf segments edges →
    AllPairs EdgesMeetAtEndsOnly edges

-- no vertex lies inside an edge
abbrev pub NoVertexIsInside : Type 0
NoVertexIsInside =
    (segments : List Segment) (edges : List Edge) → AreEdgesOf segments edges →
    (v : Point) → IsSomeVertex edges v → All (λ (e : Edge). IsInside (rational v) e.low e.high → ⊥) edges

-- the edges lie as near to the origin as the segments
abbrev pub EdgesStayWithin : Type 0
EdgesStayWithin =
    (n : ℕ) (segments : List Segment) (edges : List Edge) → All (IsSegmentWithin n) segments → AreEdgesOf segments edges →
    All (IsEdgeWithin n) edges
