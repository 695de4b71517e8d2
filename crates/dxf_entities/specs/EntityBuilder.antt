-- What a reader keeps of an entity, pair by pair.
use Rattle.std.specs.Prelude.{⊤, ◌≡◌, ℕ, Bool, if◌then◌else◌, List, ℤ, pos, Option, Some, None, codes, option_map, is_some, slice_get}
use Rattle.std.specs.List.{All}
use Rattle.std.specs.Option.{option_or}
use Rattle.micron_decimals.specs.Decimals.{micron_of, integer_of, equals_of}
use Rattle.nest_base.specs.Range.{IsNear, range}
use Rattle.dxf_groups.specs.Pairs.{Pair, has_code, is_pair}
use Rattle.dxf_entities.specs.declared.shape.Shape.{Shape}
use Rattle.dxf_entities.specs.declared.group.Group.{Group}
use Rattle.dxf_entities.specs.declared.group.Group.TheVariants.{StartX, StartY, EndX, EndY, Flags, Bulge, ExtrusionX, ExtrusionY, ExtrusionZ, Content}
use Rattle.dxf_entities.specs.declared.space.Space.{Space}
use Rattle.dxf_entities.specs.declared.fault.Fault.{Fault}
use Rattle.dxf_entities.specs.declared.values.Values.{Values}
use Rattle.dxf_entities.specs.Entities.{Entity, line_of, label_of, is_named, first_with, shape_of, closes_section}
use Rattle.dxf_entities.specs.Groups.{use_of, Value, Number, Test, Text, value, groups_used, group_among}
use Rattle.dxf_entities.specs.Refusals.{value_fault, values_fault, space_at}

-- what contracts see of the builder of an entity
pub record EntitySoFar : Type 0 where
  pub shape : Shape
  pub label : List ℕ
  pub line : ℕ
  pub is_section : Bool
  pub closes : Bool
  pub opening : Option Bool  -- whether the first pair is `2 ENTITIES`, once it has come
  pub space : Option Space  -- by group 67, once it has come
  pub fault : Option Fault  -- the first value that can't be read
  pub values : Values
  pub text : Option (List ℕ)

-- a number that was read
abbrev pub a_number : Option ℤ → Option Value
a_number read = option_map (λ n. Number (Some n)) read

-- a test that was made
abbrev pub a_test : Option Bool → Option Value
a_test read = option_map (λ b. Test (Some b)) read

-- what was read of a group, but for bytes
abbrev pub value_in : Values → Group → Option Value
value_in v StartX = a_number v.start_x
value_in v StartY = a_number v.start_y
value_in v EndX = a_number v.end_x
value_in v EndY = a_number v.end_y
value_in v Flags = a_number v.flags
value_in v Bulge = a_test v.bulge
value_in v ExtrusionX = a_test v.extrusion_x
value_in v ExtrusionY = a_test v.extrusion_y
value_in v ExtrusionZ = a_test v.extrusion_z
value_in v Content = None

-- what was read of a group
abbrev pub value_read : EntitySoFar → Group → Option Value
value_read h Content = option_map Text h.text
value_read h g = value_in h.values g

-- the values, with what is read of this text for a group, but for bytes
abbrev pub with_number : Group → List ℕ → Values → Values
with_number StartX text v = record v { start_x = micron_of text }
with_number StartY text v = record v { start_y = micron_of text }
with_number EndX text v = record v { end_x = micron_of text }
with_number EndY text v = record v { end_y = micron_of text }
with_number Flags text v = record v { flags = integer_of text }
with_number Bulge text v = record v { bulge = equals_of text (pos 0) }
with_number ExtrusionX text v = record v { extrusion_x = equals_of text (pos 0) }
with_number ExtrusionY text v = record v { extrusion_y = equals_of text (pos 0) }
with_number ExtrusionZ text v = record v { extrusion_z = equals_of text (pos 1) }
with_number Content text v = v

-- the values, or why the text of a group can't be read
abbrev pub with_read : Option Fault → Group → List ℕ → EntitySoFar → EntitySoFar
with_read (Some fault) g text h = record h { fault = Some fault }
with_read None g text h = record h { values = with_number g text h.values }

-- a group that hasn't come yet
abbrev pub with_new : Group → Pair → EntitySoFar → EntitySoFar
with_new Content p h = record h { text = Some p.value }
with_new g p h = with_read (value_fault (use_of g) p.value p.line) g p.value h

-- of several with one code the first counts
abbrev pub with_group : Option Group → Pair → EntitySoFar → EntitySoFar
with_group None p h = h
with_group (Some g) p h = if is_some (value_read h g) then h else with_new g p h

-- behind a value that can't be read none is looked at
abbrev pub unless_faulty : Option Fault → Pair → EntitySoFar → EntitySoFar
unless_faulty (Some fault) p h = h
unless_faulty None p h = with_group (group_among (groups_used h.shape) p.code) p h

-- the space and the opening of a section are looked at in any case
abbrev pub noted : Pair → EntitySoFar → EntitySoFar
noted p h = record h {
  opening = option_or h.opening (Some (is_pair 2 (codes "ENTITIES") p));
  space = option_or h.space (if has_code 67 p then Some (space_at p) else None);
}

-- the entity so far with one pair more
abbrev pub taken : Pair → EntitySoFar → EntitySoFar
taken p h = noted p (unless_faulty h.fault p h)

-- the builder has taken the pairs of an entity
pub record BuilderAt (h : EntitySoFar) (e : Entity) : Type 0 where
  pub shape : h.shape ≡ shape_of e
  pub label : h.label ≡ label_of e
  pub line : h.line ≡ line_of e
  pub is_section : h.is_section ≡ is_named (codes "SECTION") e
  pub closes : h.closes ≡ closes_section e
  pub opening : h.opening ≡ option_map (is_pair 2 (codes "ENTITIES")) (slice_get e.rest 0)
  pub space : h.space ≡ option_map space_at (first_with 67 e)
  pub fault : h.fault ≡ values_fault e
  pub values : h.fault ≡ None → All (λ g. value_read h g ≡ value e g) (groups_used h.shape)

-- a coordinate that was read lies in the range
abbrev pub IsNearIfRead : Option ℤ → Type 0
IsNearIfRead None = ⊤
IsNearIfRead (Some n) = IsNear range n

-- all coordinates that were read lie in the range
pub record AreWithin (v : Values) : Type 0 where
  pub start_x : IsNearIfRead v.start_x
  pub start_y : IsNearIfRead v.start_y
  pub end_x : IsNearIfRead v.end_x
  pub end_y : IsNearIfRead v.end_y
