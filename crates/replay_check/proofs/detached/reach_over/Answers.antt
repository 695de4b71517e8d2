use Rattle.std.proofs.Common.{arith, inl, inr, length-set, true, refl}
use Rattle.replay_check.proofs.ReachedFaces.{none_grows, one_grows, other_grows, both_reached, face_below, twin_read}
use Rattle.replay_check.proofs.detached.reach_over.Goals as goal
use Rattle.replay_check.proofs.detached.reach_over.Goals.{else-not-is_reached-one-via-then-not-is_reached-one+else-not-is_reached-other, else-not-is_reached-one-via-else-not-is_reached-one}

pub returns-then-not-is_reached-other-clause-grows : goal.returns-then-not-is_reached-other-clause-grows
returns-then-not-is_reached-other-clause-grows c = λ later are. (
  λ on. absurd (grind (arith, on)),
  λ grown. absurd (none_grows c.args.faces.now.faces c.args.faces.now.count c.args.side.0
      c.face_of-one.result.0 c.face_of-other.result.0 c.args.is_reached.now c.face_of-one.ensures (twin_read c.args.faces.now.faces c.args.side.0 c.twin.result.0 c.face_of-other.result.0 c.twin.ensures.number c.face_of-other.ensures)
      (face_below c.args.faces.now.faces c.args.faces.now.count c.args.side.0 c.face_of-one.result.0 c.requires.count c.face_of-one.ensures)
      (face_below c.args.faces.now.faces c.args.faces.now.count c.twin.result.0 c.face_of-other.result.0 c.requires.count c.face_of-other.ensures)
      later are c.if-not-is_reached-one.true c.if-not-is_reached-other.true grown),
)

pub bounds-is_reached-one-2 : goal.bounds-is_reached-one-2
bounds-is_reached-one-2 c = omega (arith, c.requires.each_flag, face_below c.args.faces.now.faces c.args.faces.now.count c.args.side.0 c.face_of-one.result.0 c.requires.count c.face_of-one.ensures)

pub bounds-is_reached-other-2 : goal.bounds-is_reached-other-2
bounds-is_reached-other-2 c = omega (
  arith,
  length-set c.args.is_reached.now c.face_of-one.result.0 true,
  c.requires.each_flag,
  face_below c.args.faces.now.faces c.args.faces.now.count c.twin.result.0 c.face_of-other.result.0 c.requires.count c.face_of-other.ensures,
)

pub returns-clause-grows : goal.returns-clause-grows
returns-clause-grows c = λ later are. (
  λ on. elim c.else-not-is_reached-one.branch [
    | else-not-is_reached-one-via-then-not-is_reached-one+else-not-is_reached-other w ↦ inr (other_grows c.args.faces.now.faces c.args.faces.now.count c.args.side.0
        c.face_of-one.result.0 c.face_of-other.result.0 c.args.is_reached.now c.face_of-one.ensures (twin_read c.args.faces.now.faces c.args.side.0 c.twin.result.0 c.face_of-other.result.0 c.twin.ensures.number c.face_of-other.ensures)
        (face_below c.args.faces.now.faces c.args.faces.now.count c.args.side.0 c.face_of-one.result.0 c.requires.count c.face_of-one.ensures)
        (face_below c.args.faces.now.faces c.args.faces.now.count c.twin.result.0 c.face_of-other.result.0 c.requires.count c.face_of-other.ensures)
        later are w.if-not-is_reached-other.false)
    | else-not-is_reached-one-via-else-not-is_reached-one w ↦ inl (one_grows c.args.faces.now.faces c.args.faces.now.count c.args.side.0
        c.face_of-one.result.0 c.face_of-other.result.0 c.args.is_reached.now c.face_of-one.ensures (twin_read c.args.faces.now.faces c.args.side.0 c.twin.result.0 c.face_of-other.result.0 c.twin.ensures.number c.face_of-other.ensures)
        (face_below c.args.faces.now.faces c.args.faces.now.count c.args.side.0 c.face_of-one.result.0 c.requires.count c.face_of-one.ensures)
        (face_below c.args.faces.now.faces c.args.faces.now.count c.twin.result.0 c.face_of-other.result.0 c.requires.count c.face_of-other.ensures)
        later are w.if-not-is_reached-one.false)
  ],
  λ grown. refl,
)

pub returns-clause-reached : goal.returns-clause-reached
returns-clause-reached c = λ later are on. both_reached c.args.faces.now.faces c.args.faces.now.count c.args.side.0
    c.face_of-one.result.0 c.face_of-other.result.0 c.args.is_reached.now c.face_of-one.ensures (twin_read c.args.faces.now.faces c.args.side.0 c.twin.result.0 c.face_of-other.result.0 c.twin.ensures.number c.face_of-other.ensures)
    (face_below c.args.faces.now.faces c.args.faces.now.count c.args.side.0 c.face_of-one.result.0 c.requires.count c.face_of-one.ensures)
    (face_below c.args.faces.now.faces c.args.faces.now.count c.twin.result.0 c.face_of-other.result.0 c.requires.count c.face_of-other.ensures)
    later are
