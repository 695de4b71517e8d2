-- Which groups of an entity are used, and how the value of each is read.
use Rattle.std.specs.Prelude.{ℕ, Bool, List, [], ◌∷◌, find, ℤ, pos, Option, option_map}
use Rattle.std.specs.Ordering.{int_eq}
use Rattle.micron_decimals.specs.Decimals.{micron_of, integer_of, equals_of}
use Rattle.dxf_groups.specs.Pairs.{Pair}
use Rattle.dxf_entities.specs.declared.shape.Shape.{Shape}
use Rattle.dxf_entities.specs.declared.shape.Shape.TheVariants.{Line, Polyline, Vertex, Seqend, Text as TextShape, Other}
use Rattle.dxf_entities.specs.declared.group.Group.{Group}
use Rattle.dxf_entities.specs.declared.group.Group.TheVariants.{StartX, StartY, EndX, EndY, Flags, Bulge, ExtrusionX, ExtrusionY, ExtrusionZ, Content}
use Rattle.dxf_entities.specs.Entities.{Entity, first_with}

-- the code of a group
abbrev pub code : Group → ℕ
code StartX = 10
code StartY = 20
code EndX = 11
code EndY = 21
code Flags = 70
code Bulge = 42
code ExtrusionX = 210
code ExtrusionY = 220
code ExtrusionZ = 230
code Content = 1

-- an entity that lies flat has the extrusion (0, 0, 1)
abbrev pub extrusion_groups : List Group
extrusion_groups = ExtrusionX ∷ ExtrusionY ∷ ExtrusionZ ∷ []

-- the groups that are read of each kind of entity; all others are dropped unread
abbrev pub groups_used : Shape → List Group
groups_used Line = StartX ∷ StartY ∷ EndX ∷ EndY ∷ []
groups_used Polyline = Flags ∷ extrusion_groups
groups_used Vertex = StartX ∷ StartY ∷ Bulge ∷ []
groups_used Seqend = []
groups_used TextShape = StartX ∷ StartY ∷ Content ∷ extrusion_groups
groups_used Other = []

-- those that may not be missing
abbrev pub groups_needed : Shape → List Group
groups_needed Line = StartX ∷ StartY ∷ EndX ∷ EndY ∷ []
groups_needed Polyline = []
groups_needed Vertex = StartX ∷ StartY ∷ []
groups_needed Seqend = []
groups_needed TextShape = StartX ∷ StartY ∷ Content ∷ []
groups_needed Other = []

-- how a value is read: as a coordinate, as an integer, as a number that is to be exactly this one, or as bytes
pub data Use : Type 0 where
  Coordinate : Use
  Integer : Use
  Exactly : ℤ → Use
  Bytes : Use

-- how the value of a group is read
abbrev pub use_of : Group → Use
use_of StartX = Coordinate
use_of StartY = Coordinate
use_of EndX = Coordinate
use_of EndY = Coordinate
use_of Flags = Integer
use_of Bulge = Exactly (pos 0)
use_of ExtrusionX = Exactly (pos 0)
use_of ExtrusionY = Exactly (pos 0)
use_of ExtrusionZ = Exactly (pos 1)
use_of Content = Bytes

-- what is read: a number, or whether it's the one that it is to be, where the text is a number; or bytes
pub data Value : Type 0 where
  Number : Option ℤ → Value
  Test : Option Bool → Value
  Text : List ℕ → Value

-- what is read of a text
abbrev pub read_as : Use → List ℕ → Value
read_as Coordinate text = Number (micron_of text)
read_as Integer text = Number (integer_of text)
read_as (Exactly n) text = Test (equals_of text n)
read_as Bytes text = Text text

-- what is read of a group of an entity, where it's there
abbrev pub value : Entity → Group → Option Value
value e g = option_map (λ (p : Pair). read_as (use_of g) p.value) (first_with (code g) e)

-- which of these groups has this code
abbrev pub group_among : List Group → ℤ → Option Group
group_among groups n = find (λ g. int_eq n (pos (code g))) groups
