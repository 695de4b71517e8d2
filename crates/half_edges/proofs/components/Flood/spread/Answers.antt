use Rattle.std.proofs.Common.{arith, ◌≡◌, ℕ, ◌<◌, ◌≤◌, List, length, get_or, sym, ap, subst, ◌∙◌}
use Rattle.std.specs.Prelude.{Some, slice_get}
use Rattle.std.proofs.lemmas.Option.{slice_get_within}
use Rattle.nest_base.specs.declared.numbers.Side.{Side}
use Rattle.nest_base.specs.declared.places.Edge.{Edge}
use Rattle.nest_base.proofs.Lists.{Contains-head}
use Rattle.half_edges.specs.declared.layout.Layout.{Layout}
use Rattle.rotation_systems.specs.Twins.{twin_number}
use Rattle.half_edges.specs.Floods.{IsLaidOut, AreRound, Joins, none, end_of}
use Rattle.nest_base.specs.NumberLists.{component_numbers, vertex_numbers, side_numbers}
use Rattle.nest_base.proofs.ListReads.{read_below, one_read}
use Rattle.nest_base.proofs.NumberLists.{length-component_numbers, length-vertex_numbers, length-side_numbers}
use Rattle.half_edges.proofs.NumberLists.{component_read, side_read}
use Rattle.half_edges.proofs.Neighbours.{rotation_joins, joined_in_rotation}
use Rattle.half_edges.proofs.Floods.{flood_within}
use Rattle.half_edges.proofs.Spreading.{IsNext, spreading_begun, spreading_more, spreading_within, spreading_done}
use Rattle.half_edges.proofs.components.Flood.spread.Goals as goal

-- the half-edge at i leads to a neighbour
next_side : (layout : Layout) (all sides : List Side) (u i : ℕ) → AreRound layout all sides u → i < length sides → u < length layout.places.keys →
    (edges : List Edge) → IsLaidOut layout all edges →
    (s : ℕ) → slice_get (side_numbers sides) i ≡ Some s → (twin_number s < length (vertex_numbers layout.origins.items)) × Joins edges layout.places.keys u (end_of (vertex_numbers layout.origins.items) s)
next_side layout all sides u i round within below edges lay s is =
    let places = layout.places.keys in
    let at = read_below places u below in
    rotation_joins edges places (vertex_numbers layout.origins.items) (side_numbers all) layout.starts.items (side_numbers sides) u i s at.0 lay at.1 (round edges lay at.0 at.1) is

next_read : (layout : Layout) (all sides : List Side) (components : List ℕ) (u i w : ℕ) (d : Side) → AreRound layout all sides u → i < length sides → u < length layout.places.keys →
    w ≡ end_of (vertex_numbers layout.origins.items) (get_or sides i d).0 → length components ≡ length layout.places.keys → (edges : List Edge) → IsLaidOut layout all edges →
    IsNext (IsLaidOut layout all) layout.places.keys (vertex_numbers layout.origins.items) (side_numbers sides) u i w components
next_read layout all sides components u i w d round within below is as_many edges lay =
    let places = layout.places.keys in
    let at = side_read sides i d within in
    let joins : (others : List Edge) → IsLaidOut layout all others → Joins others places u w =
    λ others known. subst (λ n. Joins others places u n) (sym is) (next_side layout all sides u i round within below others known (get_or sides i d).0 at).1 in
    let join = joins edges lay in
    record {
      within = omega (arith, as_many, slice_get_within places w join.other join.at_other);
      joins = joins;
      leads = λ s there. ap (end_of (vertex_numbers layout.origins.items)) (one_read (side_numbers sides) i s (get_or sides i d).0 there at) ∙ sym is;
    }

-- a half-edge leads to each neighbour
joined_round : (layout : Layout) (all sides : List Side) (u : ℕ) → AreRound layout all sides u → u < length layout.places.keys →
    (edges : List Edge) → IsLaidOut layout all edges → (w : ℕ) → Joins edges layout.places.keys u w →
    (k : ℕ) × (s : ℕ) × (k < length (side_numbers sides)) × (slice_get (side_numbers sides) k ≡ Some s) × (end_of (vertex_numbers layout.origins.items) s ≡ w)
joined_round layout all sides u round within edges lay w join =
    let places = layout.places.keys in
    let at = read_below places u within in
    joined_in_rotation edges places (vertex_numbers layout.origins.items) (side_numbers all) layout.starts.items (side_numbers sides) u w at.0 lay at.1 (round edges lay at.0 at.1) join

pub index-c-requires : goal.index-c-requires
index-c-requires c =
    let flood = c.requires.flood c.requires.known.0 c.requires.known.1 in
    let items = c.args.self.now.of_vertex.items in
    let within = flood_within c.requires.known.0 c.args.layout.now.places.keys (component_numbers items) c.args.self.now.marks.items c.args.u.0 (vertex_numbers c.args.self.now.found.items) flood (omega arith) in
    omega (arith, within, flood.as_many, length-component_numbers items)

pub rotation_of-s-items-requires-clause-vertex : goal.rotation_of-s-items-requires-clause-vertex
rotation_of-s-items-requires-clause-vertex c =
    flood_within c.requires.known.0 c.args.layout.now.places.keys (component_numbers c.args.self.now.of_vertex.items) c.args.self.now.marks.items c.args.u.0 (vertex_numbers c.args.self.now.found.items)
    (c.requires.flood c.requires.known.0 c.requires.known.1) (omega arith)

pub loop-s-init : goal.loop-s-init
loop-s-init c =
    let flood = c.requires.flood c.requires.known.0 c.requires.known.1 in
    let items = c.args.self.now.of_vertex.items in
    let found = vertex_numbers c.args.self.now.found.items in
    let few : length c.args.self.now.marks.items ≤ none = omega arith in
    let within = flood_within c.requires.known.0 c.args.layout.now.places.keys (component_numbers items) c.args.self.now.marks.items c.args.u.0 found flood few in
    let below : c.args.u.0 < length items = omega (arith, within, flood.as_many, length-component_numbers items) in
    spreading_begun (IsLaidOut c.args.layout.now c.args.all.now) c.args.layout.now.places.keys (vertex_numbers c.args.layout.now.origins.items) (side_numbers c.rotation_of-s-items.result.now)
    c.args.u.0 c.index-c.result.now.0 (component_numbers items) found c.args.self.now.marks.items
    (component_read items c.args.u.0 c.index-c.result.now below c.index-c.ensures)
    (flood.last c.args.u.0 (Contains-head c.args.u.0 found)) few c.requires.flood

pub end_of-requires : goal.end_of-requires
end_of-requires c =
    let edges = c.requires.known.0 in
    let lay = c.requires.known.1 in
    let rotation = c.rotation_of-s-items.result.now in
    let i = c.loop-s.s-index in
    let vertex_within = spreading_within _ _ _ _ _ _ _ _ _ _ _ _ _ edges lay c.loop-s.invariant in
    let next = next_side c.args.layout.now c.args.all.now rotation c.args.u.0 i c.rotation_of-s-items.ensures c.loop-s-test.true vertex_within.0 edges lay (get_or rotation i (record { 0 = 0 })).0
    (side_read rotation i (record { 0 = 0 }) c.loop-s-test.true) in
    omega (arith, next.0, length-vertex_numbers c.args.layout.now.origins.items)

pub reach-requires : goal.reach-requires
reach-requires c =
    let edges = c.requires.known.0 in
    let lay = c.requires.known.1 in
    let vertex_within = spreading_within _ _ _ _ _ _ _ _ _ _ _ _ _ edges lay c.loop-s.invariant in
    let next = next_read c.args.layout.now c.args.all.now c.rotation_of-s-items.result.now (component_numbers c.loop-s.self.of_vertex.items) c.args.u.0 c.loop-s.s-index c.end_of.result.0 (record { 0 = 0 })
    c.rotation_of-s-items.ensures c.loop-s-test.true vertex_within.0 c.end_of.ensures vertex_within.1 edges lay in
    record { within = omega (arith, next.within, length-component_numbers c.loop-s.self.of_vertex.items) }

pub loop-s-preserved : goal.loop-s-preserved
loop-s-preserved c =
    let edges = c.requires.known.0 in
    let lay = c.requires.known.1 in
    let vertex_within = spreading_within _ _ _ _ _ _ _ _ _ _ _ _ _ edges lay c.loop-s.invariant in
    spreading_more _ _ _ _ _ _ _ c.end_of.result.0 _ _ _ _ _ _ _ _ _ edges lay c.loop-s.invariant
    (next_read c.args.layout.now c.args.all.now c.rotation_of-s-items.result.now (component_numbers c.loop-s.self.of_vertex.items) c.args.u.0 c.loop-s.s-index c.end_of.result.0 (record { 0 = 0 })
    c.rotation_of-s-items.ensures c.loop-s-test.true vertex_within.0 c.end_of.ensures vertex_within.1 edges lay)
    c.reach.ensures.marks c.in_ok-reach.ensures.reached

pub returns-clause-flood : goal.returns-clause-flood
returns-clause-flood c = λ edges lay.
    let vertex_within = spreading_within _ _ _ _ _ _ _ _ _ _ _ _ _ edges lay c.loop-s.invariant in
    spreading_done _ _ _ _ _ _ _ _ _ _ _ _ _ c.loop-s.invariant (omega (arith, length-side_numbers c.rotation_of-s-items.result.now)) edges lay
    (joined_round c.args.layout.now c.args.all.now c.rotation_of-s-items.result.now c.args.u.0 c.rotation_of-s-items.ensures vertex_within.0 edges lay)
