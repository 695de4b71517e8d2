-- The events of one entity: what it gives to the drawing.
use Rattle.std.specs.Prelude.{ℕ, if◌then◌else◌, List, [], ◌∷◌, Option, Some, None}
use Rattle.nest_base.specs.declared.places.Point.{Point}
use Rattle.nest_base.specs.declared.places.Segment.{Segment}
use Rattle.nest_base.specs.declared.drawing.Name.{Name}
use Rattle.nest_base.specs.Order.{is_place}
use Rattle.dxf_entities.specs.declared.error.DrawingError.{DrawingError}
use Rattle.dxf_entities.specs.declared.error.DrawingError.TheVariants.{NotANumber}
use Rattle.dxf_entities.specs.declared.shape.Shape.{Shape}
use Rattle.dxf_entities.specs.declared.shape.Shape.TheVariants.{Line, Polyline, Vertex, Seqend, Text, Other}
use Rattle.dxf_entities.specs.declared.space.Space.{Space}
use Rattle.dxf_entities.specs.declared.space.Space.TheVariants.{Paper, Own, Unclear}
use Rattle.dxf_entities.specs.Entities.{Entity, line_of, shape_of, closes_section}
use Rattle.dxf_entities.specs.Refusals.{groups_refusal, name_refusal, space_of}
use Rattle.dxf_entities.specs.Values.{start_of, second_end_of, text_of}

-- what a reader of entities emits: a segment, a name, or why the drawing is refused
pub data Event : Type 0 where
  Draws : Segment → Event
  Names : Name → Event
  Refuses : DrawingError → Event

-- the segment from p to q, unless they are one place
abbrev pub segment_events : Point → Point → ℕ → List Event
segment_events p q line = if is_place p q then [] else Draws (record { a = p; b = q; line = line }) ∷ []

-- these events, unless there is a refusal
abbrev pub unless_refused : Option DrawingError → List Event → List Event
unless_refused (Some e) events = Refuses e ∷ []
unless_refused None events = events

-- the events of an entity that lies in the drawing itself and belongs to no polyline before it
abbrev pub shape_events : Shape → Entity → List Event
shape_events Line e = unless_refused (groups_refusal e) (segment_events (start_of e) (second_end_of e) (line_of e))
shape_events Text e = unless_refused (groups_refusal e) (Names (record { at = start_of e; text = text_of e; line = line_of e }) ∷ [])
shape_events Polyline e = unless_refused (groups_refusal e) []
shape_events Seqend e = []
shape_events Vertex e = Refuses (name_refusal e) ∷ []
shape_events Other e = Refuses (name_refusal e) ∷ []

-- by where it lies
abbrev pub in_space : Space → List Event → List Event
in_space Paper events = []
in_space Own events = events
in_space (Unclear line) events = Refuses (NotANumber line) ∷ []

-- the events of an entity that belongs to no polyline before it
abbrev pub entity_events : Entity → List Event
entity_events e = if closes_section e then [] else in_space (space_of e) (shape_events (shape_of e) e)
