-- The pieces of segments, counted segment by segment.
use Rattle.std.specs.Prelude.{◌≡◌, ℕ, List, length, sum}
use Rattle.std.specs.List.{AllZip}
use Rattle.nest_base.specs.declared.places.Segment.{Segment}
use Rattle.nest_base.specs.declared.places.Edge.{Edge}
use Rattle.nest_base.specs.Order.{IsBefore}
use Rattle.nest_base.specs.Selection.{Enumerates}
use Rattle.plate_edges.specs.Edges.{IsPieceOf}

-- e is a piece of s, and its lesser end is `low`
abbrev pub IsOrderedPieceOf : List Segment → Segment → Edge → Type 0
IsOrderedPieceOf segments s e = IsBefore e.low e.high × IsPieceOf segments s e

-- s has n pieces
abbrev pub HasPieces : List Segment → Segment → ℕ → Type 0
HasPieces segments s n = (pieces : List Edge) × Enumerates (IsOrderedPieceOf segments s) pieces × (length pieces ≡ n)

-- the segments have n pieces in all; a piece that several of them share counts for each
abbrev pub HavePieces : List Segment → ℕ → Type 0
HavePieces segments n = (counts : List ℕ) × AllZip (HasPieces segments) segments counts × (sum counts ≡ n)
