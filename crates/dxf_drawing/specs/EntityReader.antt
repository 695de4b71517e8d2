-- What the reader of entities knows of the pairs so far.
use Rattle.std.specs.Prelude.{◌≡◌, List, ◌++◌, Option, Some, None, ⊤}
use Rattle.nest_base.specs.Range.{IsWithin, range}
use Rattle.dxf_groups.specs.Pairs.{Pair}
use Rattle.dxf_entities.specs.Entities.{Entity}
use Rattle.dxf_entities.specs.EntityBuilder.{EntitySoFar, BuilderAt}
use Rattle.dxf_drawing.specs.declared.state.PolylineSoFar.{PolylineSoFar}
use Rattle.dxf_drawing.specs.declared.state.State.{State}
use Rattle.dxf_drawing.specs.declared.state.State.TheVariants.{Outside, Inside, Skipping, InPolyline}
use Rattle.dxf_drawing.specs.Events.{Event}
use Rattle.dxf_drawing.specs.States.{events_of, state_of, current_entity}
use Rattle.dxf_drawing.specs.DrawingBuilder.{DrawingSoFar, Holds}

-- what contracts see of the reader of entities
pub record EntitiesSoFar : Type 0 where
  pub built : DrawingSoFar
  pub state : State  -- before the entity so far
  pub entity : Option EntitySoFar

-- the builder has taken the entity so far, where there is one
abbrev pub IsBuilderOf : Option EntitySoFar → Option Entity → Type 0
IsBuilderOf None None = ⊤
IsBuilderOf (Some h) (Some e) = BuilderAt h e
IsBuilderOf None (Some e) = ⊥
IsBuilderOf (Some h) None = ⊥

-- the reader has taken these pairs; behind a refusal it looks at none
pub record EntityReaderAt (c : EntitiesSoFar) (pairs : List Pair) : Type 0 where
  pub built : Holds c.built (events_of pairs)
  pub state : c.built.refusal ≡ None → c.state ≡ state_of pairs
  pub entity : c.built.refusal ≡ None → IsBuilderOf c.entity (current_entity pairs)

-- these events were added
abbrev pub Adds : EntitiesSoFar → EntitiesSoFar → List Event → Type 0
Adds old new events = (before : List Event) → Holds old.built before → Holds new.built (before ++ events)

-- the vertices so far lie in the range
abbrev pub IsPolylineWithin : Option PolylineSoFar → Type 0
IsPolylineWithin None = ⊤
IsPolylineWithin (Some t) = IsWithin range t.start × IsWithin range t.latest

abbrev pub IsStateWithin : State → Type 0
IsStateWithin Outside = ⊤
IsStateWithin Inside = ⊤
IsStateWithin Skipping = ⊤
IsStateWithin (InPolyline closed polyline) = IsPolylineWithin polyline
