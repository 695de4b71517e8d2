use Rattle.std.proofs.lemmas.Bool.{iff_false}
use Rattle.nest_base.proofs.Orders.{IsBefore-irrefl}
use Rattle.replay_check.proofs.SharedPoints.{line_low, line_high, shared_by_way, way_begins, way_ends}
use Rattle.replay_check.proofs.sharing.shares_more.Goals as goal

pub returns-then-not-is_before-clause-not_shared : goal.returns-then-not-is_before-clause-not_shared
returns-then-not-is_before-clause-not_shared c = λ shared.
    let m = c.in_order-m in
    absurd (iff_false c.is_before.ensures c.if-not-is_before.true
    (way_ends c.args.a c.args.b m.result c.args.e.now m.ensures.order m.ensures.ends c.requires.ends_in_order shared))

pub returns-then-not-is_before-2-clause-not_shared : goal.returns-then-not-is_before-2-clause-not_shared
returns-then-not-is_before-2-clause-not_shared c = λ shared.
    let m = c.in_order-m in
    absurd (iff_false c.is_before-2.ensures c.if-not-is_before-2.true
    (way_begins c.args.a c.args.b m.result c.args.e.now m.ensures.order m.ensures.ends c.requires.ends_in_order shared))

pub returns-then-not-is_on_line-clause-not_shared : goal.returns-then-not-is_on_line-clause-not_shared
returns-then-not-is_on_line-clause-not_shared c = λ shared.
    let e = c.args.e.now in
    let apart = IsBefore-irrefl e.low e.high c.requires.ends_in_order in
    absurd (iff_false c.is_on_line.ensures c.if-not-is_on_line.true (line_low c.args.a c.args.b e.low e.high apart shared))

pub returns-clause-shared : goal.returns-clause-shared
returns-clause-shared c = λ yes.
    let m = c.in_order-m in
    shared_by_way c.args.a c.args.b m.result c.args.e.now m.ensures.order m.ensures.ends c.requires.ends_in_order
    (c.is_on_line.ensures.0 c.if-not-is_on_line.false) (c.is_on_line-2.ensures.0 yes)
    (c.is_before.ensures.0 c.if-not-is_before.false) (c.is_before-2.ensures.0 c.if-not-is_before-2.false)

pub returns-clause-not_shared : goal.returns-clause-not_shared
returns-clause-not_shared c = λ shared.
    let e = c.args.e.now in
    let apart = IsBefore-irrefl e.low e.high c.requires.ends_in_order in
    c.is_on_line-2.ensures.1 (line_high c.args.a c.args.b e.low e.high apart shared)
