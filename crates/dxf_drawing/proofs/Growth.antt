-- What one more pair changes.
use Rattle.std.proofs.Common.{◌≡◌, true, false, List, [], ◌∷◌, ◌++◌, refl, sym, ap, ◌∙◌, Some}
use Rattle.std.specs.Prelude.{option_map}
use Rattle.std.specs.List.{last_or}
use Rattle.std.proofs.lemmas.List.{append_assoc}
use Rattle.dxf_groups.specs.Pairs.{Pair, has_code}
use Rattle.dxf_entities.specs.Entities.{Entity, entities_of, with_pair}
use Rattle.dxf_drawing.specs.declared.state.State.{State}
use Rattle.dxf_drawing.specs.declared.state.State.TheVariants.{Outside}
use Rattle.dxf_drawing.specs.States.{closing_events, events_at, state_after, events_until, next_state, events_from, state_from, last_entity, events_of, state_of, current_entity}
use Rattle.dxf_drawing.proofs.Entities.{entities_of-begin, entities_of-grow}
use Rattle.dxf_drawing.proofs.Lasts.{last_entity-append, last_entity-grown, state_from-grown, events_from-grown}

-- an entity of which the first pair has come
abbrev pub entity_of : Pair → Entity
entity_of p = record { head = p; rest = [] }

-- one more entity comes behind the last
next_state_last : (state : State) (e : Entity) (more : List Entity) (f : Entity) →
    state_from state (e ∷ more ++ f ∷ []) ≡ next_state (state_from state (e ∷ more)) (last_or (Some e) more)
next_state_last state e [] f = refl
next_state_last state e (g ∷ more) f = next_state_last (state_after state e) g more f

state_from-next : (entities : List Entity) (f : Entity) → state_from Outside (entities ++ f ∷ []) ≡ next_state (state_from Outside entities) (last_entity entities)
state_from-next [] f = refl
state_from-next (e ∷ more) f = next_state_last Outside e more f

-- and the last has its events then
events_behind_last : (state : State) (e : Entity) (more : List Entity) (f : Entity) →
    events_from state (e ∷ more ++ f ∷ []) ≡ events_from state (e ∷ more) ++ events_until (state_from state (e ∷ more)) (last_or (Some e) more) f
events_behind_last state e [] f = append_assoc (closing_events state e) (events_at state e) (closing_events (state_after state e) f)
events_behind_last state e (g ∷ more) f =
    ap (λ later. closing_events state e ++ events_at state e ++ later) (events_behind_last (state_after state e) g more f)
    ∙ sym (append_assoc (closing_events state e ++ events_at state e) (events_from (state_after state e) (g ∷ more)) (events_until (state_from (state_after state e) (g ∷ more)) (last_or (Some g) more) f))

events_from-next : (entities : List Entity) (f : Entity) →
    events_from Outside (entities ++ f ∷ []) ≡ events_from Outside entities ++ events_until (state_from Outside entities) (last_entity entities) f
events_from-next [] f = refl
events_from-next (e ∷ more) f = events_behind_last Outside e more f

-- a pair with code 0 begins the next entity
pub entity_begin : (p : Pair) (pairs : List Pair) → has_code 0 p ≡ true → current_entity (pairs ++ p ∷ []) ≡ Some (entity_of p)
entity_begin p pairs h = ap last_entity (entities_of-begin p h pairs) ∙ last_entity-append (entities_of pairs) (entity_of p)

pub state_begin : (p : Pair) (pairs : List Pair) → has_code 0 p ≡ true → state_of (pairs ++ p ∷ []) ≡ next_state (state_of pairs) (current_entity pairs)
state_begin p pairs h = ap (state_from Outside) (entities_of-begin p h pairs) ∙ state_from-next (entities_of pairs) (entity_of p)

pub events_begin : (p : Pair) (pairs : List Pair) → has_code 0 p ≡ true →
    events_of (pairs ++ p ∷ []) ≡ events_of pairs ++ events_until (state_of pairs) (current_entity pairs) (entity_of p)
events_begin p pairs h = ap (events_from Outside) (entities_of-begin p h pairs) ∙ events_from-next (entities_of pairs) (entity_of p)

-- any other pair belongs to the entity so far
pub entity_grow : (p : Pair) (pairs : List Pair) → has_code 0 p ≡ false → current_entity (pairs ++ p ∷ []) ≡ option_map (with_pair p) (current_entity pairs)
entity_grow p pairs h = ap last_entity (entities_of-grow p h pairs) ∙ last_entity-grown p (entities_of pairs)

pub state_grow : (p : Pair) (pairs : List Pair) → has_code 0 p ≡ false → state_of (pairs ++ p ∷ []) ≡ state_of pairs
state_grow p pairs h = ap (state_from Outside) (entities_of-grow p h pairs) ∙ state_from-grown p Outside (entities_of pairs)

pub events_grow : (p : Pair) (pairs : List Pair) → has_code 0 p ≡ false → events_of (pairs ++ p ∷ []) ≡ events_of pairs
events_grow p pairs h = ap (events_from Outside) (entities_of-grow p h pairs) ∙ events_from-grown p Outside (entities_of pairs)
