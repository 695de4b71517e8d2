-- The segments of a drawing have some length.
use Rattle.std.proofs.Common.{◌≡◌, ◌≢◌, ℕ, Bool, true, false, List, [], ◌∷◌, ◌++◌, All, refl}
use Rattle.std.specs.Prelude.{◌||◌, if◌then◌else◌, Option, Some, None, ⊤}
use Rattle.std.proofs.lemmas.Bool.Decides.{not_from_Decides}
use Rattle.std.proofs.lemmas.List.Elements.{All-append, All-cons, All-head, All-nil, All-rest}
use Rattle.nest_base.specs.declared.places.Point.{Point}
use Rattle.nest_base.specs.declared.places.Segment.{Segment}
use Rattle.nest_base.specs.Order.{is_place}
use Rattle.nest_base.proofs.Points.{Decides-is_place}
use Rattle.dxf_groups.specs.Pairs.{pairs_of}
use Rattle.dxf_entities.specs.declared.error.DrawingError.{DrawingError}
use Rattle.dxf_entities.specs.declared.shape.Shape.{Shape}
use Rattle.dxf_entities.specs.declared.shape.Shape.TheVariants.{Line, Polyline, Vertex, Seqend, Text, Other}
use Rattle.dxf_entities.specs.declared.space.Space.{Space}
use Rattle.dxf_entities.specs.declared.space.Space.TheVariants.{Paper, Own, Unclear}
use Rattle.dxf_entities.specs.Entities.{Entity, entities_of, line_of, shape_of, closes_section}
use Rattle.dxf_entities.specs.Refusals.{groups_refusal, space_of}
use Rattle.dxf_entities.specs.Values.{start_of, second_end_of}
use Rattle.dxf_drawing.specs.declared.state.PolylineSoFar.{PolylineSoFar}
use Rattle.dxf_drawing.specs.declared.state.State.{State}
use Rattle.dxf_drawing.specs.declared.state.State.TheVariants.{Outside, Inside, Skipping, InPolyline}
use Rattle.dxf_drawing.specs.Events.{Event, Draws, Names, Refuses, segment_events, unless_refused, shape_events, in_space, entity_events}
use Rattle.dxf_drawing.specs.States.{is_vertex, is_seqend, vertex_events, closing_events, events_at, state_after, events_from, events_of}
use Rattle.dxf_drawing.specs.Drawings.{segments_in, segments_of}

-- a segment of some length, or no segment
abbrev IsLong : Event → Type 0
IsLong (Draws s) = s.a ≢ s.b
IsLong (Names n) = ⊤
IsLong (Refuses e) = ⊤

AreLong : List Event → Type 0
AreLong events = All IsLong events

none : AreLong []
unfolding AreLong
none = All-nil IsLong

one : (g : Event) → IsLong g → AreLong (g ∷ [])
unfolding AreLong
one g long = All-cons IsLong g [] long (All-nil IsLong)

both : (xs ys : List Event) → AreLong xs → AreLong ys → AreLong (xs ++ ys)
unfolding AreLong
both xs ys = All-append IsLong xs ys

either : (b : Bool) (xs ys : List Event) → AreLong xs → AreLong ys → AreLong (if b then xs else ys)
either true xs ys long others = long
either false xs ys long others = others

by_place : (p q : Point) (line : ℕ) (b : Bool) → is_place p q ≡ b → AreLong (if b then [] else Draws (record { a = p; b = q; line = line }) ∷ [])
by_place p q line true e = none
by_place p q line false e = one (Draws (record { a = p; b = q; line = line })) (not_from_Decides (is_place p q) (Decides-is_place p q) e)

segment_events-long : (p q : Point) (line : ℕ) → AreLong (segment_events p q line)
segment_events-long p q line = by_place p q line (is_place p q) refl

unless_refused-long : (refusal : Option DrawingError) (events : List Event) → AreLong events → AreLong (unless_refused refusal events)
unless_refused-long (Some e) events long = one (Refuses e) tt
unless_refused-long None events long = long

shape_events-long : (shape : Shape) (e : Entity) → AreLong (shape_events shape e)
shape_events-long Line e = unless_refused-long (groups_refusal e) (segment_events (start_of e) (second_end_of e) (line_of e)) (segment_events-long (start_of e) (second_end_of e) (line_of e))
shape_events-long Text e = unless_refused-long (groups_refusal e) _ (one (Names _) tt)
shape_events-long Polyline e = unless_refused-long (groups_refusal e) [] none
shape_events-long Seqend e = none
shape_events-long Vertex e = one (Refuses _) tt
shape_events-long Other e = one (Refuses _) tt

in_space-long : (space : Space) (events : List Event) → AreLong events → AreLong (in_space space events)
in_space-long Paper events long = none
in_space-long Own events long = long
in_space-long (Unclear line) events long = one (Refuses _) tt

entity_events-long : (e : Entity) → AreLong (entity_events e)
entity_events-long e = either (closes_section e) [] _ none (in_space-long (space_of e) (shape_events (shape_of e) e) (shape_events-long (shape_of e) e))

vertex_events-long : (polyline : Option PolylineSoFar) (p : Point) → AreLong (vertex_events polyline p)
vertex_events-long None p = none
vertex_events-long (Some t) p = segment_events-long t.latest p t.line

closing_events-long : (state : State) (e : Entity) → AreLong (closing_events state e)
closing_events-long (InPolyline true (Some t)) e = either (is_vertex (shape_of e)) [] (segment_events t.latest t.start t.line) none (segment_events-long t.latest t.start t.line)
closing_events-long (InPolyline true None) e = none
closing_events-long (InPolyline false polyline) e = none
closing_events-long Outside e = none
closing_events-long Inside e = none
closing_events-long Skipping e = none

events_at-long : (state : State) (e : Entity) → AreLong (events_at state e)
events_at-long Outside e = none
events_at-long Inside e = entity_events-long e
events_at-long Skipping e = either (is_vertex (shape_of e) || is_seqend (shape_of e)) [] (entity_events e) none (entity_events-long e)
events_at-long (InPolyline closed polyline) e =
    either (is_vertex (shape_of e)) (unless_refused (groups_refusal e) (vertex_events polyline (start_of e))) (if is_seqend (shape_of e) then [] else entity_events e)
    (unless_refused-long (groups_refusal e) (vertex_events polyline (start_of e)) (vertex_events-long polyline (start_of e)))
    (either (is_seqend (shape_of e)) [] (entity_events e) none (entity_events-long e))

events_from-long : (state : State) (entities : List Entity) → AreLong (events_from state entities)
events_from-long state [] = none
events_from-long state (e ∷ []) = closing_events-long state e
events_from-long state (e ∷ f ∷ more) =
    both (closing_events state e ++ events_at state e) (events_from (state_after state e) (f ∷ more))
    (both (closing_events state e) (events_at state e) (closing_events-long state e) (events_at-long state e)) (events_from-long (state_after state e) (f ∷ more))

-- the segments of such events
built : (events : List Event) → AreLong events → All (λ (s : Segment). s.a ≢ s.b) (segments_in events)
unfolding AreLong
built [] long = All-nil (λ (s : Segment). s.a ≢ s.b)
built (Draws s ∷ events) long = All-cons (λ (s : Segment). s.a ≢ s.b) s (segments_in events) (All-head IsLong (Draws s) events long) (built events (All-rest IsLong (Draws s) events (Draws s ∷ events) refl long))
built (Names n ∷ events) long = built events (All-rest IsLong (Names n) events (Names n ∷ events) refl long)
built (Refuses e ∷ events) long = built events (All-rest IsLong (Refuses e) events (Refuses e ∷ events) refl long)

-- no segment of a file has length zero
pub segments_have_length : (bytes : List ℕ) → All (λ (s : Segment). s.a ≢ s.b) (segments_of bytes)
unfolding segments_of
segments_have_length bytes = built (events_of (pairs_of bytes)) (events_from-long Outside (entities_of (pairs_of bytes)))
