-- The reader of entities behind one more pair.
use Rattle.std.proofs.Common.{◌≡◌, ◌⊎◌, inl, inr, Bool, true, false, List, [], ◌∷◌, ◌++◌, Some, None, refl, sym, ap, ◌∙◌, subst, append-nil}
use Rattle.std.proofs.lemmas.Bool.{true≢false}
use Rattle.std.proofs.lemmas.List.{append_assoc}
use Rattle.dxf_entities.specs.declared.error.DrawingError.{DrawingError}
use Rattle.dxf_drawing.specs.Events.{Event}
use Rattle.std.specs.Prelude.{Option, option_map, is_some}
use Rattle.dxf_groups.specs.Pairs.{Pair, has_code}
use Rattle.dxf_entities.specs.Entities.{Entity, with_pair}
use Rattle.dxf_entities.specs.EntityBuilder.{EntitySoFar, BuilderAt}
use Rattle.dxf_drawing.specs.EntityReader.{EntitiesSoFar, EntityReaderAt, IsBuilderOf, Adds}
use Rattle.dxf_drawing.specs.DrawingBuilder.{Holds}
use Rattle.dxf_drawing.specs.States.{closing_events, events_at, state_after, events_until, next_state, events_of, state_of, current_entity}
use Rattle.dxf_drawing.proofs.Growth.{entity_of, entity_begin, state_begin, events_begin, entity_grow, state_grow, events_grow}
use Rattle.dxf_drawing.proofs.Holding.{holds_refused, holds_other}

refused_or_not : (r : Option DrawingError) → (is_some r ≡ true) ⊎ (r ≡ None)
refused_or_not None = inr refl
refused_or_not (Some e) = inl refl

-- the events of an entity that the next one ends, and then the closing segment of a polyline that this one ends
pub events_until_adds : (c m n : EntitiesSoFar) (e f : Entity) → Adds c m (events_at c.state e) → (m.built.refusal ≡ None → m.state ≡ state_after c.state e) →
    Adds m n (closing_events m.state f) → Adds c n (events_until c.state (Some e) f)
events_until_adds c m n e f first stands second before held =
    let given = first before held in
    let after : Holds n.built ((before ++ events_at c.state e) ++ closing_events m.state f) = second (before ++ events_at c.state e) given in
    let moved : Holds n.built ((before ++ events_at c.state e) ++ closing_events (state_after c.state e) f) = elim (refused_or_not m.built.refusal) [
      | inl some ↦ holds_other m.built n.built (before ++ events_at c.state e) (closing_events m.state f) (closing_events (state_after c.state e) f) some given after
      | inr none ↦ subst (λ s. Holds n.built ((before ++ events_at c.state e) ++ closing_events s f)) (stands none) after
    ] in
    subst (λ g. Holds n.built g) (append_assoc before (events_at c.state e) (closing_events (state_after c.state e) f)) moved

-- `h` is the builder of the entity so far, and `g` that of the next one
pub turn_adds : (c m n : EntitiesSoFar) (h g : EntitySoFar) (e : Option Entity) (f : Entity) → c.entity ≡ Some h → IsBuilderOf c.entity e → BuilderAt g f →
    ((e : Entity) → BuilderAt h e → Adds c m (events_at c.state e)) → ((e : Entity) → BuilderAt h e → m.built.refusal ≡ None → m.state ≡ state_after c.state e) →
    ((f : Entity) → BuilderAt g f → Adds m n (closing_events m.state f)) → Adds c n (events_until c.state e f)
turn_adds c m n h g None f some was next first stands second = absurd (subst (λ o. IsBuilderOf o None) some was)
turn_adds c m n h g (Some e) f some was next first stands second =
    let at = subst (λ o. IsBuilderOf o (Some e)) some was in
    events_until_adds c m n e f (first e at) (stands e at) (second f next)

pub next_state_is : (c m n : EntitiesSoFar) (h : EntitySoFar) (e : Option Entity) → c.entity ≡ Some h → IsBuilderOf c.entity e →
    ((e : Entity) → BuilderAt h e → m.built.refusal ≡ None → m.state ≡ state_after c.state e) →
    n.state ≡ m.state → m.built.refusal ≡ None → n.state ≡ next_state c.state e
next_state_is c m n h None some was stands same none = absurd (subst (λ o. IsBuilderOf o None) some was)
next_state_is c m n h (Some e) some was stands same none = same ∙ stands e (subst (λ o. IsBuilderOf o (Some e)) some was) none

-- some events more, whatever the pair is
more_events : (pairs : List Pair) (p : Pair) (b : Bool) → has_code 0 p ≡ b → (more : List Event) × (events_of (pairs ++ p ∷ []) ≡ events_of pairs ++ more)
more_events pairs p true h = (events_until (state_of pairs) (current_entity pairs) (entity_of p), events_begin p pairs h)
more_events pairs p false h = ([], events_grow p pairs h ∙ sym (append-nil (events_of pairs)))

-- behind a refusal nothing changes
pub reader_refused : (c : EntitiesSoFar) (pairs : List Pair) (p : Pair) → is_some c.built.refusal ≡ true → EntityReaderAt c pairs → EntityReaderAt c (pairs ++ p ∷ [])
reader_refused c pairs p some at =
    let more = more_events pairs p (has_code 0 p) refl in
    let not_none : c.built.refusal ≡ None → ⊥ = λ none. true≢false (sym some ∙ ap is_some none) in
    record {
      built = subst (λ g. Holds c.built g) (sym more.1) (holds_refused c.built (events_of pairs) more.0 some at.built);
      state = λ none. absurd (not_none none);
      entity = λ none. absurd (not_none none);
    }

-- a refusal that isn't there
no_refusal : (r : Option DrawingError) → is_some r ≡ false → r ≡ None
no_refusal None h = refl
no_refusal (Some e) h = absurd (true≢false h)

-- a pair with code 0
pub reader_begin : (c n : EntitiesSoFar) (pairs : List Pair) (p : Pair) (h : EntitySoFar) → has_code 0 p ≡ true → BuilderAt h (entity_of p) → n.entity ≡ Some h →
    ((e : Option Entity) (f : Entity) → IsBuilderOf c.entity e → BuilderAt h f → Adds c n (events_until c.state e f)) →
    ((e : Option Entity) → IsBuilderOf c.entity e → n.built.refusal ≡ None → n.state ≡ next_state c.state e) →
    is_some c.built.refusal ≡ false → EntityReaderAt c pairs → EntityReaderAt n (pairs ++ p ∷ [])
reader_begin c n pairs p h zero building entity adds stands not_refused at =
    let none = no_refusal c.built.refusal not_refused in
    let state = at.state none in
    let held : Holds n.built (events_of pairs ++ events_until c.state (current_entity pairs) (entity_of p)) = adds (current_entity pairs) (entity_of p) (at.entity none) building (events_of pairs) at.built in
    record {
      built = subst (λ g. Holds n.built g) (ap (λ s. events_of pairs ++ events_until s (current_entity pairs) (entity_of p)) state ∙ sym (events_begin p pairs zero)) held;
      state = λ still. stands (current_entity pairs) (at.entity none) still ∙ ap (λ s. next_state s (current_entity pairs)) state ∙ sym (state_begin p pairs zero);
      entity = λ still. subst (λ o. IsBuilderOf o (current_entity (pairs ++ p ∷ []))) (sym entity) (subst (λ e. IsBuilderOf (Some h) e) (sym (entity_begin p pairs zero)) building);
    }

-- any other pair
pub reader_group : (c n : EntitiesSoFar) (pairs : List Pair) (p : Pair) → has_code 0 p ≡ false →
    ((e : Option Entity) → IsBuilderOf c.entity e → IsBuilderOf n.entity (option_map (with_pair p) e)) →
    n.built ≡ c.built → n.state ≡ c.state → is_some c.built.refusal ≡ false → EntityReaderAt c pairs → EntityReaderAt n (pairs ++ p ∷ [])
reader_group c n pairs p other entity built state not_refused at =
    let none = no_refusal c.built.refusal not_refused in
    record {
      built = subst (λ k. Holds k (events_of (pairs ++ p ∷ []))) (sym built) (subst (λ g. Holds c.built g) (sym (events_grow p pairs other)) at.built);
      state = λ still. state ∙ at.state none ∙ sym (state_grow p pairs other);
      entity = λ still. subst (λ e. IsBuilderOf n.entity e) (sym (entity_grow p pairs other)) (entity (current_entity pairs) (at.entity none));
    }
