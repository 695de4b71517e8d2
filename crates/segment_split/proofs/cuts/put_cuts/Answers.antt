use Rattle.segment_split.specs.CutPoints.{IsCutBy}
use Rattle.segment_split.proofs.Meetings.{crossing_is_no_place}
use Rattle.segment_split.proofs.AddedPlaces.{adds_none, adds_one}
use Rattle.segment_split.proofs.CutsByOne.{apart_cuts_none, meeting_is_cut, cut_is_meeting}
use Rattle.segment_split.proofs.cuts.put_cuts.Goals as goal

pub returns-in-Apart-clause-added : goal.returns-in-Apart-clause-added
returns-in-Apart-clause-added c =
    let s = c.args.s.now in
    let t = c.args.t.now in
    adds_none (IsCutBy s t) 2 c.args.places.now.items (apart_cuts_none s t c.in-Apart.ensures)

pub returns-in_ok-push-in-At-clause-none : goal.returns-in_ok-push-in-At-clause-none
returns-in_ok-push-in-At-clause-none c = λ crosses. crossing_is_no_place c.args.s.now c.args.t.now crosses c.in-At.place c.in-At.ensures.1

pub returns-in_ok-push-in-At-clause-added : goal.returns-in_ok-push-in-At-clause-added
returns-in_ok-push-in-At-clause-added c =
    let s = c.args.s.now in
    let t = c.args.t.now in
    let p = c.in-At.place in
    rw c.in_ok-push-in-At.ensures.items (adds_one (IsCutBy s t) 1 c.args.places.now.items p (meeting_is_cut s t p c.in-At.ensures) (cut_is_meeting s t p c.in-At.ensures))
