-- One rotation more is numbered by each step.
use Rattle.std.proofs.Common.{arith, ◌≡◌, ◌<◌, length, drop}
use Rattle.std.proofs.lemmas.List.{take_at}
use Rattle.half_edges.proofs.LaidOut.{IsLayout-runs, ArePositions-runs, within, rotation_apart, rotation_below, rotation_numbered}
use Rattle.half_edges.proofs.AllSides.{few_places}
use Rattle.half_edges.proofs.layout.layout_of.Goals as goal

pub overflow_cast-v : goal.overflow_cast-v
overflow_cast-v c =
    let few = few_places c.args.edges.now c.args.all.now c.requires.few c.requires.all_round in omega (arith, c.in_ok-runs.ensures.few)

pub slice_bounds-rotation-end : goal.slice_bounds-rotation-end
slice_bounds-rotation-end c =
    let below : c.loop-v.v < length c.in_ok-runs.runs.places.keys = omega (arith, c.len-v-end.ensures.len) in
    omega (arith, within c.args.edges.now c.args.all.now c.requires.all_round c.in_ok-runs.ensures c.loop-v.v c.index.result.now c.index-in-loop-v.result.now below c.index.ensures c.index-in-loop-v.ensures)

pub number_rotation-requires-clause-origins_long : goal.number_rotation-requires-clause-origins_long
number_rotation-requires-clause-origins_long c =
    rotation_below c.args.edges.now c.args.all.now c.requires.all_round c.in_ok-runs.ensures c.loop-v.v c.index.result.now c.index-in-loop-v.result.now (omega arith) c.index.ensures c.index-in-loop-v.ensures
    c.deref_mut.result.now (omega (arith, c.loop-v.invariant.origins_long))

pub number_rotation-requires-clause-positions_long : goal.number_rotation-requires-clause-positions_long
number_rotation-requires-clause-positions_long c =
    rotation_below c.args.edges.now c.args.all.now c.requires.all_round c.in_ok-runs.ensures c.loop-v.v c.index.result.now c.index-in-loop-v.result.now (omega arith) c.index.ensures c.index-in-loop-v.ensures
    c.deref_mut-in-loop-v.result.now (omega (arith, c.loop-v.invariant.positions_long))

pub number_rotation-requires-clause-each_once : goal.number_rotation-requires-clause-each_once
number_rotation-requires-clause-each_once c =
    rotation_apart c.args.edges.now c.args.all.now c.requires.all_round c.in_ok-runs.ensures c.loop-v.v c.index.result.now c.index-in-loop-v.result.now (omega arith) c.index.ensures c.index-in-loop-v.ensures

pub loop-v-preserved : goal.loop-v-preserved
loop-v-preserved c =
    let origins_long : length c.number_rotation.new.origins ≡ c.loop-v.origins.len = omega arith in
    let positions_long : length c.number_rotation.new.positions ≡ c.loop-v.positions.len = omega arith in
    rw (
      take_at c.number_rotation.new.origins (drop (length c.number_rotation.new.origins) c.loop-v.origins.items) c.loop-v.origins.len origins_long,
      take_at c.number_rotation.new.positions (drop (length c.number_rotation.new.positions) c.loop-v.positions.items) c.loop-v.positions.len positions_long,
    )
    (record {
      origins_long = omega (arith, c.loop-v.invariant.origins_long);
      positions_long = omega (arith, c.loop-v.invariant.positions_long);
      numbered =
          rotation_numbered c.args.edges.now c.args.all.now c.requires.all_round c.in_ok-runs.ensures c.loop-v.v c.index.result.now c.index-in-loop-v.result.now (omega arith) c.index.ensures c.index-in-loop-v.ensures
          c.loop-v.origins.items c.number_rotation.new.origins c.loop-v.positions.items c.number_rotation.new.positions c.loop-v.invariant.numbered (rw c.deref_mut.ensures.value at c.number_rotation.ensures.origins)
          (rw c.deref_mut-in-loop-v.ensures.value at c.number_rotation.ensures.positions);
    })

pub returns-clause-layout : goal.returns-clause-layout
returns-clause-layout c =
    let all_met : c.loop-v.v ≡ length c.in_ok-runs.runs.places.keys = omega arith in
    IsLayout-runs c.args.edges.now c.args.all.now c.requires.all_round c.in_ok-runs.ensures c.loop-v.origins.items c.loop-v.positions.items (rw all_met at c.loop-v.invariant.numbered) c.loop-v.invariant.origins_long

pub returns-clause-positions : goal.returns-clause-positions
returns-clause-positions c =
    let all_met : c.loop-v.v ≡ length c.in_ok-runs.runs.places.keys = omega arith in
    ArePositions-runs c.args.edges.now c.args.all.now c.requires.all_round c.in_ok-runs.ensures c.loop-v.origins.items c.loop-v.positions.items (rw all_met at c.loop-v.invariant.numbered)
