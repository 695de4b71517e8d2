use Rattle.std.proofs.lemmas.Bool.{iff_false, not-true, not-false}
use Rattle.segment_meeting.proofs.Apart.{boxes_touch, not_aside}
use Rattle.segment_meeting.proofs.Meeting.{shared_point}
use Rattle.segment_meeting.proofs.share.share_point.Goals as goal

pub returns-then-are_boxes_apart-clause-none : goal.returns-then-are_boxes_apart-clause-none
returns-then-are_boxes_apart-clause-none c = λ _ p meet. boxes_touch c.args.s.now c.args.t.now p meet (c.are_boxes_apart.ensures.0 c.if-are_boxes_apart.true)

pub returns-then-has_aside-clause-none : goal.returns-then-has_aside-clause-none
returns-then-has_aside-clause-none c = λ _ p meet. not_aside c.args.s.now.a c.args.s.now.b c.args.t.now.a c.args.t.now.b p meet.0 meet.1 (c.has_aside.ensures.0 c.if-has_aside.true)

pub returns-clause-found : goal.returns-clause-found
returns-clause-found c = λ yes.
    shared_point c.args.s.now c.args.t.now
    (iff_false c.are_boxes_apart.ensures c.if-are_boxes_apart.false)
    (iff_false c.has_aside.ensures c.if-has_aside.false)
    (iff_false c.has_aside-2.ensures (not-true c.has_aside-2.result yes))

pub returns-clause-none : goal.returns-clause-none
returns-clause-none c = λ no p meet. not_aside c.args.t.now.a c.args.t.now.b c.args.s.now.a c.args.s.now.b p meet.1 meet.0 (c.has_aside-2.ensures.0 (not-false c.has_aside-2.result no))
