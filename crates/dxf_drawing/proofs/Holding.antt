-- The drawing of some events and one more.
use Rattle.std.proofs.Common.{arith, ◌≡◌, ℕ, zero, suc, ◌-◌, ◌<◌, ◌≤◌, true, List, [], ◌∷◌, ◌++◌, length, Some, None, refl, sym, ap, ◌∙◌, append-nil}
use Rattle.std.specs.Prelude.{Option, is_some}
use Rattle.std.proofs.lemmas.Bool.{true≢false}
use Rattle.nest_base.specs.declared.places.Segment.{Segment}
use Rattle.nest_base.specs.declared.drawing.Name.{Name}
use Rattle.dxf_entities.specs.declared.error.DrawingError.{DrawingError}
use Rattle.dxf_entities.specs.declared.error.DrawingError.TheVariants.{TooMany}
use Rattle.dxf_drawing.specs.Events.{Event, Draws, Names, Refuses}
use Rattle.dxf_drawing.specs.Drawings.{segments_in, names_in, refusal_in, entity_refusal}
use Rattle.nest_base.specs.Limits.{most_names, most_segments}
use Rattle.dxf_drawing.specs.DrawingBuilder.{DrawingSoFar, Holds}
use Rattle.dxf_drawing.proofs.Rooms.{segments_in-append, names_in-append, refusal_in-stays, refusal_in-append}

-- a refusal that is there
the_refusal : (r : Option DrawingError) → is_some r ≡ true → (e : DrawingError) × (r ≡ Some e)
the_refusal None h = absurd (true≢false (sym h))
the_refusal (Some e) h = (e, refl)

-- behind a refusal nothing changes
pub holds_refused : (k : DrawingSoFar) (events more : List Event) → is_some k.refusal ≡ true → Holds k events → Holds k (events ++ more)
holds_refused k events more some held =
    let it = the_refusal k.refusal some in
    let not_none : k.refusal ≡ None → ⊥ = λ none. true≢false (sym some ∙ ap is_some none) in
    record {
      refusal = it.1 ∙ sym (refusal_in-stays most_segments most_names events more it.0 (sym held.refusal ∙ it.1));
      segments = λ none. absurd (not_none none);
      names = λ none. absurd (not_none none);
    }

-- and it doesn't matter what comes
pub holds_other : (k n : DrawingSoFar) (before more other : List Event) → is_some k.refusal ≡ true → Holds k before → Holds n (before ++ more) → Holds n (before ++ other)
holds_other k n before more other some held later =
    let it = the_refusal k.refusal some in
    let refusal : n.refusal ≡ Some it.0 = later.refusal ∙ refusal_in-stays most_segments most_names before more it.0 (sym held.refusal ∙ it.1) in
    let not_none : n.refusal ≡ None → ⊥ = λ none. true≢false (ap is_some (sym refusal ∙ none)) in
    record {
      refusal = refusal ∙ sym (refusal_in-stays most_segments most_names before other it.0 (sym held.refusal ∙ it.1));
      segments = λ none. absurd (not_none none);
      names = λ none. absurd (not_none none);
    }

-- the room that is left behind some events
room_left : (k : DrawingSoFar) (events more : List Event) → k.refusal ≡ None → Holds k events →
    entity_refusal (events ++ more) ≡ refusal_in (most_segments - length k.drawing.segments) (most_names - length k.drawing.names) more
room_left k events more none held =
    refusal_in-append most_segments most_names events more (sym held.refusal ∙ none)
    ∙ ap (λ s. refusal_in (most_segments - length s) (most_names - length (names_in events)) more) (sym (held.segments none))
    ∙ ap (λ s. refusal_in (most_segments - length k.drawing.segments) (most_names - length s) more) (sym (held.names none))

-- one more event refuses the drawing
holds_refusal : (k n : DrawingSoFar) (events : List Event) (g : Event) (e : DrawingError) → k.refusal ≡ None → n.refusal ≡ Some e →
    refusal_in (most_segments - length k.drawing.segments) (most_names - length k.drawing.names) (g ∷ []) ≡ Some e → Holds k events → Holds n (events ++ g ∷ [])
holds_refusal k n events g e none refused says held =
    let not_none : n.refusal ≡ None → ⊥ = λ h. true≢false (ap is_some (sym refused ∙ h)) in
    record {
      refusal = refused ∙ sym (room_left k events (g ∷ []) none held ∙ says);
      segments = λ h. absurd (not_none h);
      names = λ h. absurd (not_none h);
    }

pub holds_refuses : (k n : DrawingSoFar) (events : List Event) (e : DrawingError) → k.refusal ≡ None → n.refusal ≡ Some e → Holds k events → Holds n (events ++ Refuses e ∷ [])
holds_refuses k n events e none refused = holds_refusal k n events (Refuses e) e none refused refl

no_segment_room : (a b : ℕ) (s : Segment) → a ≡ zero → refusal_in a b (Draws s ∷ []) ≡ Some (TooMany s.line)
no_segment_room a b s e = ap (λ r. refusal_in r b (Draws s ∷ [])) e

pub holds_full : (k n : DrawingSoFar) (events : List Event) (s : Segment) → k.refusal ≡ None → n.refusal ≡ Some (TooMany s.line) → most_segments ≤ length k.drawing.segments →
    Holds k events → Holds n (events ++ Draws s ∷ [])
holds_full k n events s none refused full =
    holds_refusal k n events (Draws s) (TooMany s.line) none refused (no_segment_room (most_segments - length k.drawing.segments) (most_names - length k.drawing.names) s (omega arith))

no_name_room : (a b : ℕ) (m : Name) → b ≡ zero → refusal_in a b (Names m ∷ []) ≡ Some (TooMany m.line)
no_name_room zero b m e = ap (λ r. refusal_in zero r (Names m ∷ [])) e
no_name_room (suc a) b m e = ap (λ r. refusal_in (suc a) r (Names m ∷ [])) e

pub holds_full_names : (k n : DrawingSoFar) (events : List Event) (m : Name) → k.refusal ≡ None → n.refusal ≡ Some (TooMany m.line) → most_names ≤ length k.drawing.names →
    Holds k events → Holds n (events ++ Names m ∷ [])
holds_full_names k n events m none refused full =
    holds_refusal k n events (Names m) (TooMany m.line) none refused (no_name_room (most_segments - length k.drawing.segments) (most_names - length k.drawing.names) m (omega arith))

segment_room : (a b : ℕ) (s : Segment) → zero < a → refusal_in a b (Draws s ∷ []) ≡ None
segment_room zero b s h = absurd (omega (arith, h))
segment_room (suc a) b s h = refl

name_room : (a b : ℕ) (m : Name) → zero < b → refusal_in a b (Names m ∷ []) ≡ None
name_room a zero m h = absurd (omega (arith, h))
name_room zero (suc b) m h = refl
name_room (suc a) (suc b) m h = refl

-- one more segment is added
pub holds_segment : (k n : DrawingSoFar) (events : List Event) (s : Segment) → k.refusal ≡ None → n.refusal ≡ None → length k.drawing.segments < most_segments →
    n.drawing.segments ≡ k.drawing.segments ++ s ∷ [] → n.drawing.names ≡ k.drawing.names → Holds k events → Holds n (events ++ Draws s ∷ [])
holds_segment k n events s none still room segments names held = record {
  refusal = still ∙ sym (room_left k events (Draws s ∷ []) none held ∙ segment_room (most_segments - length k.drawing.segments) (most_names - length k.drawing.names) s (omega (arith, room)));
  segments = λ h. segments ∙ ap (λ l. l ++ s ∷ []) (held.segments none) ∙ sym (segments_in-append events (Draws s ∷ []));
  names = λ h. names ∙ held.names none ∙ sym (names_in-append events (Draws s ∷ []) ∙ append-nil (names_in events));
}

-- one more name
pub holds_name : (k n : DrawingSoFar) (events : List Event) (m : Name) → k.refusal ≡ None → n.refusal ≡ None → length k.drawing.names < most_names →
    n.drawing.segments ≡ k.drawing.segments → n.drawing.names ≡ k.drawing.names ++ m ∷ [] → Holds k events → Holds n (events ++ Names m ∷ [])
holds_name k n events m none still room segments names held = record {
  refusal = still ∙ sym (room_left k events (Names m ∷ []) none held ∙ name_room (most_segments - length k.drawing.segments) (most_names - length k.drawing.names) m (omega (arith, room)));
  segments = λ h. segments ∙ held.segments none ∙ sym (segments_in-append events (Names m ∷ []) ∙ append-nil (segments_in events));
  names = λ h. names ∙ ap (λ l. l ++ m ∷ []) (held.names none) ∙ sym (names_in-append events (Names m ∷ []));
}
