-- The drawing that a file is: its segments, its names, and why it's refused.
use Rattle.std.specs.Prelude.{ℕ, zero, suc, List, [], ◌∷◌, filter_map, Option, Some, None, option_map}
use Rattle.std.specs.Option.{option_or}
use Rattle.nest_base.specs.declared.places.Segment.{Segment}
use Rattle.nest_base.specs.declared.drawing.Name.{Name}
use Rattle.nest_base.specs.Limits.{most_segments, most_names}
use Rattle.dxf_groups.specs.Pairs.{pairs_of, group_refusal_of}
use Rattle.dxf_entities.specs.declared.error.DrawingError.{DrawingError}
use Rattle.dxf_entities.specs.declared.error.DrawingError.TheVariants.{Groups, TooMany, Nothing}
use Rattle.dxf_drawing.specs.Events.{Event, Draws, Names, Refuses}
use Rattle.dxf_drawing.specs.States.{events_of}

-- the segment of an event
abbrev pub segment_in : Event → Option Segment
segment_in (Draws s) = Some s
segment_in (Names n) = None
segment_in (Refuses e) = None

-- its name
abbrev pub name_in : Event → Option Name
name_in (Draws s) = None
name_in (Names n) = Some n
name_in (Refuses e) = None

-- all segments, and all names
abbrev pub segments_in : List Event → List Segment
segments_in events = filter_map segment_in events

abbrev pub names_in : List Event → List Name
names_in events = filter_map name_in events

-- the first refusal, or the first event for which there is no room, where there is room for so many segments and names
abbrev pub refusal_in : ℕ → ℕ → List Event → Option DrawingError
refusal_in segments names [] = None
refusal_in segments names (Refuses e ∷ events) = Some e
refusal_in zero names (Draws s ∷ events) = Some (TooMany s.line)
refusal_in (suc segments) names (Draws s ∷ events) = refusal_in segments names events
refusal_in segments zero (Names n ∷ events) = Some (TooMany n.line)
refusal_in segments (suc names) (Names n ∷ events) = refusal_in segments names events

-- why a drawing with these events is refused
abbrev pub entity_refusal : List Event → Option DrawingError
entity_refusal events = refusal_in most_segments most_names events

-- a drawing without a segment is refused
abbrev pub unless_some : List Segment → Option DrawingError
unless_some [] = Some Nothing
unless_some (s ∷ segments) = None

-- the segments of a file
unfoldable pub segments_of : List ℕ → List Segment
segments_of bytes = segments_in (events_of (pairs_of bytes))

-- its names
unfoldable pub names_of : List ℕ → List Name
names_of bytes = names_in (events_of (pairs_of bytes))

-- why it's refused: by its lines, then by its entities, then for want of a segment
unfoldable pub read_refusal_of : List ℕ → Option DrawingError
read_refusal_of bytes =
    option_or (option_map Groups (group_refusal_of bytes)) (option_or (entity_refusal (events_of (pairs_of bytes))) (unless_some (segments_in (events_of (pairs_of bytes)))))
