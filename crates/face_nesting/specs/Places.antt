-- The face at a place, by number.
use Rattle.std.specs.Prelude.{◌≡◌, ℕ, List, Some, slice_get}
use Rattle.nest_base.specs.declared.places.Point.{Point}
use Rattle.nest_base.specs.declared.places.Edge.{Edge}
use Rattle.plate_sides.specs.Links.{Node, Outer, At, Sees}
use Rattle.half_edges.specs.Numbers.{IsSide}
use Rattle.face_nesting.specs.Numbering.{outer_face}

-- f is the number of the face of a node
abbrev pub HasFaceNumber : List Edge → List ℕ → Node → ℕ → Type 0
HasFaceNumber edges faces Outer f = f ≡ outer_face
HasFaceNumber edges faces (At h) f = (s : ℕ) × IsSide edges s h × (slice_get faces s ≡ Some f)

-- f is the number of the face at p, a place on no edge: that of what p sees
abbrev pub IsFaceNumberAt : List Edge → List ℕ → Point → ℕ → Type 0
IsFaceNumberAt edges faces p f = (seen : Node) × Sees edges p seen × HasFaceNumber edges faces seen f
