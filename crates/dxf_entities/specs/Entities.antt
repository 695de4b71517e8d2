-- The entities of a drawing: where each begins and ends, and its name.
use Rattle.std.specs.Prelude.{ℕ, Bool, false, ◌&&◌, ◌||◌, not, if◌then◌else◌, List, [], ◌∷◌, ◌++◌, take, take_while, find, Option, codes, bytes_eq, slice_get}
use Rattle.std.specs.Option.{option_map_or}
use Rattle.nest_base.specs.Lines.{trimmed}
use Rattle.dxf_groups.specs.Pairs.{Pair, has_code, is_pair}
use Rattle.dxf_entities.specs.declared.shape.Shape.{Shape}
use Rattle.dxf_entities.specs.declared.shape.Shape.TheVariants.{Line, Polyline, Vertex, Seqend, Text, Other}

-- a pair with code 0, and the pairs behind it up to the next one with code 0
pub record Entity : Type 0 where
  pub head : Pair
  pub rest : List Pair

-- all entities of some pairs; those before the first code 0 belong to none
abbrev pub entities_of : List Pair → List Entity
entities_of [] = []
entities_of (p ∷ pairs) =
    if has_code 0 p then record { head = p; rest = take_while (λ q. not (has_code 0 q)) pairs } ∷ entities_of pairs else entities_of pairs

-- an entity with one pair more
abbrev pub with_pair : Pair → Entity → Entity
with_pair p e = record e { rest = e.rest ++ p ∷ [] }

-- the name, without blanks and tabs at both ends
abbrev pub name_of : Entity → List ℕ
name_of e = trimmed e.head.value

-- the name, cut to 32 bytes
abbrev pub label_of : Entity → List ℕ
label_of e = take 32 (name_of e)

-- the line of the name
abbrev pub line_of : Entity → ℕ
line_of e = e.head.line

-- the entity has this name
abbrev pub is_named : List ℕ → Entity → Bool
is_named name e = bytes_eq (name_of e) name

-- the first pair with this code: later ones don't count
abbrev pub first_with : ℕ → Entity → Option Pair
first_with code e = find (has_code code) e.rest

-- the kind of entity that a name stands for
abbrev pub shape_named : List ℕ → Shape
shape_named name =
    if bytes_eq name (codes "LINE") then Line else
    (if bytes_eq name (codes "POLYLINE") then Polyline else
    (if bytes_eq name (codes "VERTEX") then Vertex else
    (if bytes_eq name (codes "SEQEND") then Seqend else
    (if bytes_eq name (codes "TEXT") then Text else Other))))

-- the kind of an entity
abbrev pub shape_of : Entity → Shape
shape_of e = shape_named (name_of e)

-- an ENTITIES section opens with `0 SECTION` that is directly followed by `2 ENTITIES`
abbrev pub opens_section : Entity → Bool
opens_section e = is_named (codes "SECTION") e && option_map_or (is_pair 2 (codes "ENTITIES")) (slice_get e.rest 0) false

-- it closes before `0 ENDSEC` and before `0 EOF`
abbrev pub closes_section : Entity → Bool
closes_section e = is_named (codes "ENDSEC") e || is_named (codes "EOF") e
