-- Drawings that are split, and why others aren't.
use Rattle.std.specs.Prelude.{◌≡◌, ◌⊎◌, ℕ, ◌+◌, ◌<◌, ◌≤◌, List, Some, slice_get, ⊤}
use Rattle.nest_base.specs.declared.places.Point.{Point}
use Rattle.nest_base.specs.declared.places.Segment.{Segment}
use Rattle.nest_base.specs.declared.places.Edge.{Edge}
use Rattle.nest_base.specs.Limits.{most_edges}
use Rattle.plate_edges.specs.Cuts.{NoneCrossesOffLattice}
use Rattle.plate_edges.specs.Edges.{AreEdgesOf}
use Rattle.plate_edges.specs.Pieces.{HavePieces}
use Rattle.segment_split.specs.Meetings.{CrossesNear}
use Rattle.segment_split.specs.declared.splitting.SplitError.{SplitError}
use Rattle.segment_split.specs.declared.splitting.SplitError.TheVariants.{Crossing, TooManyPieces, OutOfMemory}

-- the segments with these two numbers, counted from 1, cross off the lattice near this place; the first comes before the second
pub record AreCrossing (segments : List Segment) (first second : ℕ) (place : Point) : Type 0 where
  pub i : ℕ
  pub j : ℕ
  pub numbers : (first ≡ i + 1) × (second ≡ j + 1) × (i < j)
  pub s : Segment
  pub t : Segment
  pub found : (slice_get segments i ≡ Some s) × (slice_get segments j ≡ Some t)
  pub crosses : CrossesNear s t place

-- of all such pairs these are the least, by the first, then by the second
pub record IsFirstCrossing (segments : List Segment) (first second : ℕ) (place : Point) : Type 0 where
  pub crossing : AreCrossing segments first second place
  pub least : (m n : ℕ) (p : Point) → AreCrossing segments m n p → (first < m) ⊎ ((first ≡ m) × (second ≤ n))

-- the drawing is split: no two segments cross off the lattice, the pieces aren't too many, and these are the edges
pub record IsSplit (segments : List Segment) (edges : List Edge) : Type 0 where
  pub on_lattice : NoneCrossesOffLattice segments
  pub pieces : ℕ
  pub have_pieces : HavePieces segments pieces
  pub few : pieces ≤ most_edges
  pub are_edges : AreEdgesOf segments edges

-- the pieces are too many
pub record AreTooMany (segments : List Segment) : Type 0 where
  pub on_lattice : NoneCrossesOffLattice segments
  pub pieces : ℕ
  pub have_pieces : HavePieces segments pieces
  pub many : most_edges < pieces

-- the reason holds of the segments, but for want of memory
abbrev pub IsSplitRefusal : SplitError → List Segment → Type 0
IsSplitRefusal (Crossing first second place) segments = IsFirstCrossing segments first second place
IsSplitRefusal TooManyPieces segments = AreTooMany segments
IsSplitRefusal OutOfMemory segments = ⊤
