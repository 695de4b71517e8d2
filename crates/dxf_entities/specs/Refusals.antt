-- Why one entity is refused, and which are skipped.
use Rattle.std.specs.Prelude.{ℕ, Bool, false, not, nat_le, if◌then◌else◌, List, [], ◌∷◌, filter, find, filter_map, ℤ, pos, unsigned_abs, Option, Some, None, option_map, option_and_then, slice_get, is_some, unwrap_or}
use Rattle.std.specs.Int.{int_bit_and, w64}
use Rattle.std.specs.Option.{option_or}
use Rattle.std.specs.Ordering.{int_eq}
use Rattle.micron_decimals.specs.Decimals.{micron_of, integer_of, equals_of}
use Rattle.dxf_groups.specs.Pairs.{Pair}
use Rattle.dxf_entities.specs.declared.shape.Shape.{Shape}
use Rattle.dxf_entities.specs.declared.group.Group.{Group}
use Rattle.dxf_entities.specs.declared.group.Group.TheVariants.{Flags as FlagsGroup, Bulge as BulgeGroup, ExtrusionX, ExtrusionY, ExtrusionZ}
use Rattle.dxf_entities.specs.declared.fault.Fault.{Fault}
use Rattle.dxf_entities.specs.declared.fault.Fault.TheVariants.{NotANumber as NoNumber, TooFar as FarOff}
use Rattle.dxf_entities.specs.declared.space.Space.{Space}
use Rattle.dxf_entities.specs.declared.space.Space.TheVariants.{Paper, Own, Unclear}
use Rattle.nest_base.specs.Range.{range}
use Rattle.dxf_entities.specs.declared.error.Kind.{Kind}
use Rattle.dxf_entities.specs.declared.error.Kind.TheVariants.{Entity as Named, Flags, Bulge, Extrusion}
use Rattle.dxf_entities.specs.declared.error.DrawingError.{DrawingError}
use Rattle.dxf_entities.specs.declared.error.DrawingError.TheVariants.{NotANumber, TooFar, Missing, Unsupported}
use Rattle.dxf_entities.specs.Entities.{Entity, line_of, label_of, first_with, shape_of}
use Rattle.dxf_entities.specs.Groups.{code, groups_used, groups_needed, Use, Coordinate, Integer, Exactly, Bytes, use_of, Value, Number, Test, value, group_among}

-- where there is no such value
abbrev pub unless_read : {X : Type 0} → Option X → ℕ → Option Fault
unless_read None line = Some (NoNumber line)
unless_read (Some x) line = None

-- where a coordinate is none, or lies beyond the range
abbrev pub unless_near : Option ℤ → ℕ → Option Fault
unless_near None line = Some (NoNumber line)
unless_near (Some n) line = if nat_le (unsigned_abs n) range then None else Some (FarOff line)

-- why the text on a line can't be read so
abbrev pub value_fault : Use → List ℕ → ℕ → Option Fault
value_fault Coordinate text line = unless_near (micron_of text) line
value_fault Integer text line = unless_read (integer_of text) line
value_fault (Exactly n) text line = unless_read (equals_of text n) line
value_fault Bytes text line = None

-- why a pair of an entity of this kind can't be read, where it's read
abbrev pub pair_fault : Shape → Pair → Option Fault
pair_fault shape p = option_and_then (λ g. value_fault (use_of g) p.value p.line) (group_among (groups_used shape) p.code)

-- the pairs that count: of several with one code the first
abbrev pub counted : List Pair → List Pair
counted [] = []
counted (p ∷ pairs) = p ∷ filter (λ (q : Pair). not (int_eq p.code q.code)) (counted pairs)

-- the first of a list
abbrev pub first : {X : Type 0} → List X → Option X
first xs = slice_get xs 0

-- of the values that are read and can't be, the one on the first line
abbrev pub values_fault : Entity → Option Fault
values_fault e = first (filter_map (pair_fault (shape_of e)) (counted e.rest))

-- the first group that is needed and isn't there
abbrev pub missing_in : (Group → Option Value) → Shape → Option Group
missing_in values shape = find (λ g. not (is_some (values g))) (groups_needed shape)

-- flags with any of the bits 2, 4, 8, 16 and 64
abbrev pub has_unsupported_bits : ℤ → Bool
has_unsupported_bits flags = not (int_eq (int_bit_and w64 flags (pos 94)) (pos 0))

-- flags that ask for what isn't planned
abbrev pub flags_oddity : Option Value → Option Kind
flags_oddity (Some (Number (Some n))) = if has_unsupported_bits n then Some (Flags n) else None
flags_oddity other = None

-- a number that isn't the one that it is to be
abbrev pub unless_equal : Kind → Option Value → Option Kind
unless_equal kind (Some (Test (Some false))) = Some kind
unless_equal kind other = None

-- what the value of a group asks for that isn't planned
abbrev pub oddity : Group → Option Value → Option Kind
oddity FlagsGroup v = flags_oddity v
oddity BulgeGroup v = unless_equal Bulge v
oddity ExtrusionX v = unless_equal Extrusion v
oddity ExtrusionY v = unless_equal Extrusion v
oddity ExtrusionZ v = unless_equal Extrusion v
oddity g v = None

-- the first that is asked for
abbrev pub oddity_in : (Group → Option Value) → Shape → Option Kind
oddity_in values shape = first (filter_map (λ g. oddity g (values g)) (groups_used shape))

-- a value that can't be read is an error of the drawing
abbrev pub error_of : Fault → DrawingError
error_of (NoNumber line) = NotANumber line
error_of (FarOff line) = TooFar line

-- a value that can't be read comes first, then a group that is missing, then what isn't planned
abbrev pub refusal_by : ℕ → Option Fault → Option Group → Option Kind → Option DrawingError
refusal_by line fault missing odd =
    option_or (option_map error_of fault) (option_or (option_map (λ g. Missing line (pos (code g))) missing) (option_map (λ kind. Unsupported line kind) odd))

-- why an entity is refused by its groups
abbrev pub groups_refusal : Entity → Option DrawingError
groups_refusal e = refusal_by (line_of e) (values_fault e) (missing_in (value e) (shape_of e)) (oddity_in (value e) (shape_of e))

-- why an entity is refused whose kind isn't planned, or that stands where it may not
abbrev pub name_refusal : Entity → DrawingError
name_refusal e = Unsupported (line_of e) (Named (label_of e))

-- where an entity lies, by the integer of its group 67
abbrev pub space_by : Option ℤ → ℕ → Space
space_by None line = Unclear line
space_by (Some n) line = if int_eq n (pos 1) then Paper else Own

-- where it lies, by this pair
abbrev pub space_at : Pair → Space
space_at p = space_by (integer_of p.value) p.line

-- where an entity lies
abbrev pub space_of : Entity → Space
space_of e = unwrap_or (option_map space_at (first_with 67 e)) Own
