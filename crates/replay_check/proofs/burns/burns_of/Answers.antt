use Rattle.std.proofs.Common.{rules, ◌≡◌, length}
use Rattle.std.specs.Slice.Iter.{iter_rest}
use Rattle.std.specs.Iterator.Adapters.{zip_first, zip_second}
use Rattle.std.proofs.lemmas.List.{length_push}
use Rattle.std.proofs.lemmas.Slice.Zip.{zip_turn, zip_end}
use Rattle.replay_check.proofs.BurntMoves.{none_burnt, burns_more, burns_no_more, all_burnt}
use Rattle.replay_check.proofs.burns.burns_of.Goals as goal

pub loop-step-init : goal.loop-step-init
loop-step-init c = λ edges zip. none_burnt edges c.new-burns.result.items c.new-burns.ensures.items

pub loop-step-preserved : goal.loop-step-preserved
loop-step-preserved c =
    let first : iter_rest (zip_first c.into_iter-step-iterator.result) ≡ c.args.moves.now = search rules in
    let second : iter_rest (zip_second c.into_iter-step-iterator.result) ≡ c.args.kinds.now = search rules in
    let turn = zip_turn c.args.moves.now c.args.kinds.now c.loop-step.yielded c.into_iter-step-iterator.result c.loop-step.step-iterator c.next.new.self
    c.next.result first second c.loop-step.yielded_by (c.in-Some.step, c.in-Some.kind) c.in-Some.is c.next.ensures.steps in
    λ edges zip. rw (length_push c.loop-step.yielded (c.in-Some.step, c.in-Some.kind))
    (burns_more edges c.args.moves.now c.args.kinds.now zip (length c.loop-step.yielded) c.in-Some.step.now c.in-Some.kind.now
    turn.0 (turn.2 c.in-Some.step.now) turn.1 (turn.3 c.in-Some.kind.now)
    c.in-OnEdge.side c.loop-step.burns.items c.push.new.self.items c.in-OnEdge.is c.in_ok-push.ensures.items (c.loop-step.invariant edges zip))

pub loop-step-preserved-in_default : goal.loop-step-preserved-in_default
loop-step-preserved-in_default c =
    let first : iter_rest (zip_first c.into_iter-step-iterator.result) ≡ c.args.moves.now = search rules in
    let second : iter_rest (zip_second c.into_iter-step-iterator.result) ≡ c.args.kinds.now = search rules in
    let turn = zip_turn c.args.moves.now c.args.kinds.now c.loop-step.yielded c.into_iter-step-iterator.result c.loop-step.step-iterator c.next.new.self
    c.next.result first second c.loop-step.yielded_by (c.in-Some.step, c.in-Some.kind) c.in-Some.is c.next.ensures.steps in
    λ edges zip. rw (length_push c.loop-step.yielded (c.in-Some.step, c.in-Some.kind))
    (burns_no_more edges c.args.moves.now c.args.kinds.now zip (length c.loop-step.yielded) c.in-Some.step.now c.in-Some.kind.now
    turn.0 (turn.2 c.in-Some.step.now) turn.1 (turn.3 c.in-Some.kind.now)
    c.loop-step.burns.items c.in_default.not-OnEdge (c.loop-step.invariant edges zip))

pub returns : goal.returns
returns c =
    let first : iter_rest (zip_first c.into_iter-step-iterator.result) ≡ c.args.moves.now = search rules in
    let second : iter_rest (zip_second c.into_iter-step-iterator.result) ≡ c.args.kinds.now = search rules in
    let end = zip_end c.args.moves.now c.args.kinds.now c.loop-step.yielded c.into_iter-step-iterator.result c.loop-step.step-iterator c.next.new.self
    c.next.result first second c.loop-step.yielded_by c.in-None.is c.next.ensures.steps in
    λ edges zip. all_burnt edges c.args.moves.now c.args.kinds.now (length c.loop-step.yielded) c.loop-step.burns.items zip end
    (c.loop-step.invariant edges zip)
