-- The state of the reader between two entities, and the events of entities one after the other.
use Rattle.std.specs.Prelude.{ℕ, Bool, true, false, ◌||◌, if◌then◌else◌, List, [], ◌∷◌, ◌++◌, Option, Some, None}
use Rattle.std.specs.List.{last_or}
use Rattle.nest_base.specs.declared.places.Point.{Point}
use Rattle.dxf_groups.specs.Pairs.{Pair}
use Rattle.dxf_entities.specs.declared.shape.Shape.{Shape}
use Rattle.dxf_entities.specs.declared.shape.Shape.TheVariants.{Line, Polyline, Vertex, Seqend, Text, Other}
use Rattle.dxf_entities.specs.declared.space.Space.{Space}
use Rattle.dxf_entities.specs.declared.space.Space.TheVariants.{Paper, Own, Unclear}
use Rattle.dxf_entities.specs.Entities.{Entity, entities_of, line_of, shape_of, opens_section, closes_section}
use Rattle.dxf_entities.specs.Refusals.{groups_refusal, space_of}
use Rattle.dxf_entities.specs.Values.{start_of, is_closed}
use Rattle.dxf_drawing.specs.declared.state.PolylineSoFar.{PolylineSoFar}
use Rattle.dxf_drawing.specs.declared.state.State.{State}
use Rattle.dxf_drawing.specs.declared.state.State.TheVariants.{Outside, Inside, Skipping, InPolyline}
use Rattle.dxf_drawing.specs.Events.{Event, segment_events, unless_refused, entity_events}

-- a vertex of a polyline, where it stands behind one
abbrev pub is_vertex : Shape → Bool
is_vertex Vertex = true
is_vertex Line = false
is_vertex Polyline = false
is_vertex Seqend = false
is_vertex Text = false
is_vertex Other = false

-- the end of its vertices
abbrev pub is_seqend : Shape → Bool
is_seqend Seqend = true
is_seqend Line = false
is_seqend Polyline = false
is_seqend Vertex = false
is_seqend Text = false
is_seqend Other = false

-- the event of a vertex behind the vertices so far: the segment that leads to it, with the line of the one before it
abbrev pub vertex_events : Option PolylineSoFar → Point → List Event
vertex_events None p = []
vertex_events (Some t) p = segment_events t.latest p t.line

-- the vertices so far, and one more
abbrev pub with_vertex : Option PolylineSoFar → Point → ℕ → PolylineSoFar
with_vertex None p line = record { start = p; latest = p; line = line }
with_vertex (Some t) p line = record t { latest = p; line = line }

-- the closing segment of a polyline, where e ends it
abbrev pub closing_events : State → Entity → List Event
closing_events (InPolyline true (Some t)) e = if is_vertex (shape_of e) then [] else segment_events t.latest t.start t.line
closing_events (InPolyline true None) e = []
closing_events (InPolyline false polyline) e = []
closing_events Outside e = []
closing_events Inside e = []
closing_events Skipping e = []

-- the events of an entity behind such a state
abbrev pub events_at : State → Entity → List Event
events_at Outside e = []
events_at Inside e = entity_events e
events_at Skipping e = if is_vertex (shape_of e) || is_seqend (shape_of e) then [] else entity_events e
events_at (InPolyline closed polyline) e =
    if is_vertex (shape_of e) then unless_refused (groups_refusal e) (vertex_events polyline (start_of e)) else
    (if is_seqend (shape_of e) then [] else entity_events e)

-- the state behind a polyline: one on the paper is skipped, and its vertices with it
abbrev pub state_after_polyline : Space → Entity → State
state_after_polyline Paper e = Skipping
state_after_polyline Own e = InPolyline (is_closed e) None
state_after_polyline (Unclear line) e = InPolyline (is_closed e) None

-- the state behind an entity of this kind
abbrev pub state_after_shape : Shape → Entity → State
state_after_shape Polyline e = state_after_polyline (space_of e) e
state_after_shape Line e = Inside
state_after_shape Vertex e = Inside
state_after_shape Seqend e = Inside
state_after_shape Text e = Inside
state_after_shape Other e = Inside

-- the state behind an entity that belongs to no polyline before it
abbrev pub state_after_own : Entity → State
state_after_own e = if closes_section e then Outside else state_after_shape (shape_of e) e

-- the state behind e
abbrev pub state_after : State → Entity → State
state_after Outside e = if opens_section e then Inside else Outside
state_after Inside e = state_after_own e
state_after Skipping e = if is_vertex (shape_of e) then Skipping else state_after_own e
state_after (InPolyline closed polyline) e = if is_vertex (shape_of e) then InPolyline closed (Some (with_vertex polyline (start_of e) (line_of e))) else state_after_own e

-- the events of entities, one after the other. Nothing has ended the last one, so it has none yet, but it may have ended a polyline
abbrev pub events_from : State → List Entity → List Event
events_from state [] = []
events_from state (e ∷ []) = closing_events state e
events_from state (e ∷ f ∷ more) = closing_events state e ++ events_at state e ++ events_from (state_after state e) (f ∷ more)

-- the state before the last of them
abbrev pub state_from : State → List Entity → State
state_from state [] = state
state_from state (e ∷ []) = state
state_from state (e ∷ f ∷ more) = state_from (state_after state e) (f ∷ more)

-- the events of these pairs. The last pair of a whole drawing is `0 EOF`, which has none
abbrev pub events_of : List Pair → List Event
events_of pairs = events_from Outside (entities_of pairs)

-- the last of some entities
abbrev pub last_entity : List Entity → Option Entity
last_entity entities = last_or None entities

-- the state before the last entity of these pairs
abbrev pub state_of : List Pair → State
state_of pairs = state_from Outside (entities_of pairs)

-- the last entity of these pairs, which nothing has ended yet
abbrev pub current_entity : List Pair → Option Entity
current_entity pairs = last_entity (entities_of pairs)

-- the events that come once the next entity begins: those of the entity so far, and the closing segment of a polyline
abbrev pub events_until : State → Option Entity → Entity → List Event
events_until state None f = []
events_until state (Some e) f = events_at state e ++ closing_events (state_after state e) f

-- the state before the next entity
abbrev pub next_state : State → Option Entity → State
next_state state None = state
next_state state (Some e) = state_after state e
