use Rattle.std.proofs.Common.{arith, ◌<◌, ◌^◌, FitsSigned, rules}
use Rattle.std.specs.Prelude.{unsigned_abs}
use Rattle.std.specs.Int.{w128}
use Rattle.std.proofs.lemmas.Int.{ints, to_z-of_z}
use Rattle.segment_split.proofs.Sizes.{cross_product-small, turn-small}
use Rattle.segment_split.proofs.Bits.{neg-fits, neg_exact}
use Rattle.segment_split.proofs.Crossings.{crosses_left, crosses_right}
use Rattle.segment_split.proofs.meet.crossing_on.Goals as goal

pub overflow_sub-result : goal.overflow_sub-result
overflow_sub-result c =
    let s = c.args.s.now in
    let t = c.args.t.now in
    neg-fits c.cross-side.result (rw c.cross-side.ensures (cross_product-small t.a t.b t.a s.a c.requires.t_within.a c.requires.t_within.b c.requires.t_within.a c.requires.s_within.a))

pub overflow_sub-result-then-turn-lt0 : goal.overflow_sub-result-then-turn-lt0
overflow_sub-result-then-turn-lt0 c = neg-fits c.args.turn (rw c.requires.turn (turn-small c.args.s.now c.args.t.now c.requires.s_within c.requires.t_within))

pub returns-then-turn-lt0 : goal.returns-then-turn-lt0
returns-then-turn-lt0 c =
    let s = c.args.s.now in
    let t = c.args.t.now in
    let side_small : unsigned_abs c.cross-side.result < 2 ^ 66 = rw c.cross-side.ensures (cross_product-small t.a t.b t.a s.a c.requires.t_within.a c.requires.t_within.b c.requires.t_within.a c.requires.s_within.a) in
    let turn_small : unsigned_abs c.args.turn < 2 ^ 66 = rw c.requires.turn (turn-small s t c.requires.s_within c.requires.t_within) in
    rw (neg_exact c.cross-side.result side_small, neg_exact c.args.turn turn_small)
    (crosses_right s t c.cross-side.result c.args.turn c.requires.s_within c.requires.t_within c.requires.meet c.cross-side.ensures c.requires.turn (omega (arith, ints)))

pub returns : goal.returns
returns c =
    let side_fits : FitsSigned w128 c.cross-side.result = search rules in
    rw (to_z-of_z w128 c.cross-side.result side_fits, to_z-of_z w128 c.args.turn c.ranges.turn)
    (crosses_left c.args.s.now c.args.t.now c.cross-side.result c.args.turn c.requires.s_within c.requires.t_within c.requires.meet c.cross-side.ensures c.requires.turn c.requires.not_parallel (omega (arith, ints)))
