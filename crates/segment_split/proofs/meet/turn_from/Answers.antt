use Rattle.std.proofs.Common.{arith, ◌<◌, ◌^◌}
use Rattle.std.specs.Prelude.{unsigned_abs}
use Rattle.std.proofs.lemmas.Int.{ints}
use Rattle.nest_base.specs.Plane.{cross_product, direction}
use Rattle.segment_meeting.proofs.Crossing.{orientation-second}
use Rattle.segment_split.proofs.Sizes.{turn-small}
use Rattle.segment_split.proofs.meet.turn_from.Goals as goal

pub overflow_sub-result : goal.overflow_sub-result
overflow_sub-result c =
    let s = c.args.s.now in
    let t = c.args.t.now in
    let small : unsigned_abs (cross_product (direction s.a s.b) (direction t.a t.b)) < 2 ^ 66 = turn-small s t c.requires.s_within c.requires.t_within in
    omega (arith, ints, orientation-second s.a s.b t.a t.b, c.cross.ensures, c.cross-2.ensures)

pub returns : goal.returns
returns c =
    let s = c.args.s.now in
    let t = c.args.t.now in
    let small : unsigned_abs (cross_product (direction s.a s.b) (direction t.a t.b)) < 2 ^ 66 = turn-small s t c.requires.s_within c.requires.t_within in
    omega (arith, ints, orientation-second s.a s.b t.a t.b, c.cross.ensures, c.cross-2.ensures)
