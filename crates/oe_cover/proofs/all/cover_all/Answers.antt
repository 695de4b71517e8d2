-- Component by component, in burning order.
use Rattle.std.proofs.Common.{arith, rules, ◌≡◌, ◌<◌, ℕ, List, length, get_or, sym, ap, subst, subst₂, ◌∙◌}
use Rattle.std.proofs.lemmas.List.{length-map, take_all}
use Rattle.std.proofs.lemmas.Option.{slice_get-get_or}
use Rattle.std.specs.Prelude.{All, Option, Some, option_map, slice_get}
use Rattle.nest_base.specs.declared.numbers.Component.{Component}
use Rattle.plate_nesting.specs.Order.{ParentsComeFirst, IsBurningOrder}
use Rattle.plate_plans.specs.Plans.{IsPlan}
use Rattle.plate_plans.proofs.Places.{parents_come_first}
use Rattle.nest_base.specs.NumberLists.{component_numbers}
use Rattle.plate_nesting.proofs.OneOrder.{each_is_burnt_once, each_is_within}
use Rattle.half_edges.specs.Graph.{Graph}
use Rattle.half_edges.proofs.GraphSizes.{length-vertices-le, length-marks-le}
use Rattle.nest_base.proofs.ListReads.{All-read, read-map}
use Rattle.half_edges.specs.Numbers.{half_edges_of}
use Rattle.face_nesting.specs.Nesting.{cycle_at}
use Rattle.oe_cover.specs.Planning.{HasPlanned, planned}
use Rattle.oe_cover.specs.Trails.{trails_by}
use Rattle.oe_cover.proofs.Pieces.{pieces_hold}
use Rattle.oe_cover.proofs.FirstEnds.{first_before}
use Rattle.oe_cover.proofs.ComponentStarts.{HasStart, lawful_before}
use Rattle.oe_cover.proofs.PlannedCovers.{not_burnt_yet, one_more, all_are_plan, all_are_burnt}
use Rattle.oe_cover.proofs.all.cover_all.Goals as goal
use Rattle.oe_cover.proofs.all.cover_all.Goals.{After-deref-c-items, After-first_start-start, After-finish}

-- the number of a component, and of a parent
abbrev component_number : Component → ℕ
component_number c = c.0

abbrev parent_number : Option Component → Option ℕ
parent_number parent = option_map component_number parent

pub burning_order-requires-clause-few : goal.burning_order-requires-clause-few
burning_order-requires-clause-few c =
    let graph = c.args.graph.now in
    let plane = c.in_ok-planner.ensures.ready.plane in
    omega (
      arith,
      plane.few,
      length-vertices-le graph.edges graph.vertices plane.are_vertices,
      length-marks-le graph.edges graph.vertices graph.marks plane.are_vertices plane.are_marks,
      c.requires.parents.as_many,
      length-map c.parents.result.now parent_number,
      ap length c.parents.ensures,
    )

pub burning_order-requires-clause-first : goal.burning_order-requires-clause-first
burning_order-requires-clause-first c =
    let graph = c.args.graph.now in
    subst ParentsComeFirst (sym c.parents.ensures) (parents_come_first graph.edges graph.marks c.args.faces.now.parents c.requires.parents)

-- the order in which the loop goes
burns : (c : After-deref-c-items) → IsBurningOrder c.args.faces.now.parents (component_numbers c.deref-c-items.result.now)
burns c = subst₂ IsBurningOrder c.parents.ensures (ap component_numbers (sym c.deref-c-items.ensures.value)) c.in_ok-order.ensures

-- the component at a place of it
at_turn : (order : List Component) (i : ℕ) → i < length order → slice_get (component_numbers order) i ≡ Some (get_or order i (record { 0 = 0 })).0
at_turn order i within = read-map component_number order i (get_or order i (record { 0 = 0 })) (slice_get-get_or order i (record { 0 = 0 }) within)

-- is one of the graph
turn_within : (order : List Component) (parents : List (Option ℕ)) (components i : ℕ) → IsBurningOrder parents (component_numbers order) → length parents ≡ components →
    i < length order → (get_or order i (record { 0 = 0 })).0 < components
turn_within order parents components i is as_many within =
    let below = All-read (λ n. n < length parents) (component_numbers order) i (get_or order i (record { 0 = 0 })).0 (each_is_within parents (component_numbers order) is) (at_turn order i within) in
    omega (arith, below, as_many)

pub first_start-start-requires-clause-within : goal.first_start-start-requires-clause-within
first_start-start-requires-clause-within c =
    let below = turn_within c.deref-c-items.result.now c.args.faces.now.parents (length c.args.graph.now.marks) c.loop-c.c-index
    (burns (goal.at.first_start-start-requires-clause-within c).After-deref-c-items) c.requires.parents.as_many c.loop-c-test.true in
    omega (arith, below, ap (λ (x : Graph). length x.marks) c.loop-c.invariant.planning.graph)

-- its cover may start where it starts
begins : (c : After-first_start-start) → IsBurningOrder c.args.faces.now.parents (component_numbers c.deref-c-items.result.now) →
    HasStart c.args.graph.now c.args.faces.now (get_or c.deref-c-items.result.now c.loop-c.c-index (record { 0 = 0 })).0 c.first_start-start.result.0
begins c is =
    let planning = c.loop-c.invariant.planning in
    let turn = get_or c.deref-c-items.result.now c.loop-c.c-index (record { 0 = 0 }) in
    record {
      plane = planning.plane;
      cycles = c.requires.cycles;
      within = turn_within c.deref-c-items.result.now c.args.faces.now.parents (length c.args.graph.now.marks) c.loop-c.c-index is c.requires.parents.as_many c.loop-c-test.true;
      lawful = lawful_before c.args.graph.now c.loop-c.graph (cycle_at c.args.faces.now turn.0) c.first_start-start.result.0 planning.graph c.first_start-start.ensures.lawful;
    }

pub cover-requires-clause-unburnt : goal.cover-requires-clause-unburnt
cover-requires-clause-unburnt c =
    let order = c.deref-c-items.result.now in
    let at = goal.at.cover-requires-clause-unburnt c in
    not_burnt_yet (component_numbers order) c.loop-c.c-index (get_or order c.loop-c.c-index (record { 0 = 0 })).0 c.first_start-start.result.0 (at_turn order c.loop-c.c-index c.loop-c-test.true)
    (begins at.After-first_start-start (burns at.After-deref-c-items)) c.loop-c.graph c.loop-c.planner c.loop-c.invariant.planning c.loop-c.invariant.planned c.requires.unburnt
    (each_is_burnt_once c.args.faces.now.parents (component_numbers order) (burns at.After-deref-c-items))

pub loop-c-preserved : goal.loop-c-preserved
loop-c-preserved c =
    let order = c.deref-c-items.result.now in
    let at = goal.at.loop-c-preserved c in
    record {
      planning = c.cover.ensures.ready c.args.graph.now c.loop-c.invariant.planning;
      planned = one_more (component_numbers order) c.loop-c.c-index (get_or order c.loop-c.c-index (record { 0 = 0 })).0 c.first_start-start.result.0 (at_turn order c.loop-c.c-index c.loop-c-test.true)
          (begins at.After-first_start-start (burns at.After-deref-c-items))
          (first_before c.args.graph.now c.loop-c.graph (cycle_at c.args.faces.now (get_or order c.loop-c.c-index (record { 0 = 0 })).0) c.first_start-start.result.0 c.loop-c.invariant.planning.graph c.first_start-start.ensures.first)
          c.loop-c.planner c.cover.new.self c.loop-c.invariant.planned
          (c.cover.ensures.covered c.args.graph.now c.loop-c.invariant.planning)
          (λ to from answer gave. search rules);
    }

-- in the end all components are planned
all_planned : (c : After-finish) → HasPlanned c.args.graph.now (component_numbers c.deref-c-items.result.now) c.loop-c.planner
all_planned c =
    let order = c.deref-c-items.result.now in
    subst (λ components. HasPlanned c.args.graph.now components c.loop-c.planner)
    (take_all c.loop-c.c-index (component_numbers order) (omega (arith, c.loop-c-test.false, length-map order component_number))) c.loop-c.invariant.planned

pub returns-clause-plan : goal.returns-clause-plan
returns-clause-plan c =
    let at = goal.at.returns-clause-plan c in
    subst (λ chains. IsPlan c.args.graph.now.edges (trails_by c.args.graph.now.edges chains)) (sym c.finish.ensures)
    (all_are_plan c.loop-c.invariant.planning.plane c.requires.parents (burns at.After-deref-c-items) (all_planned at.After-finish) c.requires.mark_sides)

pub returns-clause-within : goal.returns-clause-within
returns-clause-within c =
    let below : ℕ → Type 0 = λ s. s < length (half_edges_of c.args.graph.now.edges) in
    subst (All (All below)) (sym c.finish.ensures)
    (pieces_hold below (planned c.loop-c.planner) 0 c.loop-c.planner.draft.ends.items c.loop-c.invariant.planning.within)

pub returns-clause-in_order : goal.returns-clause-in_order
returns-clause-in_order c =
    let at = goal.at.returns-clause-in_order c in
    let is = all_planned at.After-finish in
    (component_numbers c.deref-c-items.result.now, burns at.After-deref-c-items, is.component_covers, is.are_component_covers, is.ends, ap (trails_by c.args.graph.now.edges) c.finish.ensures ∙ is.trails)

pub returns-clause-burnt : goal.returns-clause-burnt
returns-clause-burnt c s below =
    let at = goal.at.returns-clause-burnt c in
    all_are_burnt c.loop-c.invariant.planning.plane c.requires.parents (burns at.After-deref-c-items) (all_planned at.After-finish) c.loop-c.graph c.loop-c.invariant.planning s below
