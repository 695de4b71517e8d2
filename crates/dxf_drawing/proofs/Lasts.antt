-- The last of some entities, and what depends on it.
use Rattle.std.proofs.Common.{◌≡◌, true, false, List, [], ◌∷◌, ◌++◌, refl, ap, Some, None}
use Rattle.std.specs.Prelude.{Option, option_map}
use Rattle.std.specs.List.{last_or}
use Rattle.dxf_groups.specs.Pairs.{Pair}
use Rattle.dxf_entities.specs.Entities.{Entity, with_pair}
use Rattle.dxf_drawing.specs.declared.state.State.{State}
use Rattle.dxf_drawing.specs.declared.state.State.TheVariants.{Outside, Inside, Skipping, InPolyline}
use Rattle.dxf_drawing.specs.States.{closing_events, events_at, state_after, events_from, state_from, last_entity}
use Rattle.dxf_drawing.proofs.Entities.{grown}

last_or-append : (o : Option Entity) (entities : List Entity) (e : Entity) → last_or o (entities ++ e ∷ []) ≡ Some e
last_or-append o [] e = refl
last_or-append o (f ∷ entities) e = last_or-append (Some f) entities e

-- one more entity is the last
pub last_entity-append : (entities : List Entity) (e : Entity) → last_entity (entities ++ e ∷ []) ≡ Some e
last_entity-append entities e = last_or-append None entities e

last_or-grown : (p : Pair) (o : Option Entity) (e : Entity) (more : List Entity) → last_or o (grown p (e ∷ more)) ≡ option_map (with_pair p) (last_or (Some e) more)
last_or-grown p o e [] = refl
last_or-grown p o e (f ∷ more) = last_or-grown p (Some e) f more

-- the last has one pair more
pub last_entity-grown : (p : Pair) (entities : List Entity) → last_entity (grown p entities) ≡ option_map (with_pair p) (last_entity entities)
last_entity-grown p [] = refl
last_entity-grown p (e ∷ more) = last_or-grown p None e more

-- and the state stays
pub state_from-grown : (p : Pair) (state : State) (entities : List Entity) → state_from state (grown p entities) ≡ state_from state entities
state_from-grown p state [] = refl
state_from-grown p state (e ∷ []) = refl
state_from-grown p state (e ∷ f ∷ []) = refl
state_from-grown p state (e ∷ f ∷ g ∷ more) = state_from-grown p (state_after state e) (f ∷ g ∷ more)

-- whether an entity closes a polyline depends on its name alone
closing_events-grown : (p : Pair) (state : State) (e : Entity) → closing_events state (with_pair p e) ≡ closing_events state e
closing_events-grown p Outside e = refl
closing_events-grown p Inside e = refl
closing_events-grown p Skipping e = refl
closing_events-grown p (InPolyline false polyline) e = refl
closing_events-grown p (InPolyline true None) e = refl
closing_events-grown p (InPolyline true (Some t)) e = refl

-- so all give what they gave
pub events_from-grown : (p : Pair) (state : State) (entities : List Entity) → events_from state (grown p entities) ≡ events_from state entities
events_from-grown p state [] = refl
events_from-grown p state (e ∷ []) = closing_events-grown p state e
events_from-grown p state (e ∷ f ∷ []) = ap (λ later. closing_events state e ++ events_at state e ++ later) (closing_events-grown p (state_after state e) f)
events_from-grown p state (e ∷ f ∷ g ∷ more) = ap (λ later. closing_events state e ++ events_at state e ++ later) (events_from-grown p (state_after state e) (f ∷ g ∷ more))
