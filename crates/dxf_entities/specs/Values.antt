-- What an entity holds that isn't refused.
use Rattle.std.specs.Prelude.{Bool, true, false, List, [], ℕ, ℤ, pos, Option, Some}
use Rattle.std.specs.Int.{int_bit_and, w64}
use Rattle.std.specs.Ordering.{int_eq}
use Rattle.nest_base.specs.declared.places.Point.{Point}
use Rattle.dxf_entities.specs.declared.shape.Shape.{Shape}
use Rattle.dxf_entities.specs.declared.shape.Shape.TheVariants.{Line, Polyline, Vertex, Seqend, Text as TextShape, Other}
use Rattle.dxf_entities.specs.declared.group.Group.TheVariants.{StartX, StartY, EndX, EndY, Flags, Content}
use Rattle.dxf_entities.specs.Entities.{Entity}
use Rattle.dxf_entities.specs.Groups.{Value, Number, Text, value}

-- a number that was read, or 0
abbrev pub number_in : Option Value → ℤ
number_in (Some (Number (Some n))) = n
number_in other = pos 0

-- bytes that were read
abbrev pub bytes_in : Option Value → List ℕ
bytes_in (Some (Text bytes)) = bytes
bytes_in other = []

-- entities of these kinds have a place
abbrev pub has_place : Shape → Bool
has_place Line = true
has_place Polyline = false
has_place Vertex = true
has_place Seqend = false
has_place TextShape = true
has_place Other = false

-- the place of a LINE's first end, of a VERTEX, or of a TEXT, in micrometres
abbrev pub start_of : Entity → Point
start_of e = record { x = number_in (value e StartX); y = number_in (value e StartY) }

-- the place of a LINE's second end
abbrev pub second_end_of : Entity → Point
second_end_of e = record { x = number_in (value e EndX); y = number_in (value e EndY) }

-- bit 1 of the flags of a POLYLINE closes it
abbrev pub closes : ℤ → Bool
closes flags = int_eq (int_bit_and w64 flags (pos 1)) (pos 1)

-- a POLYLINE is closed; without flags it's open
abbrev pub is_closed : Entity → Bool
is_closed e = closes (number_in (value e Flags))

-- the bytes of a TEXT, whole and as they stand
abbrev pub text_of : Entity → List ℕ
text_of e = bytes_in (value e Content)
