use Rattle.std.proofs.Common.{rules, ◌≡◌, ◌<◌, false, length, Some, None, sym, ◌∙◌, ap, subst}
use Rattle.std.specs.Prelude.{nat_eq}
use Rattle.nest_base.specs.Drawing.{Lists}
use Rattle.dxf_groups.specs.Pairs.{fault_of}
use Rattle.dxf_drawing.proofs.Readings.{refused_by_lines, refused_by_entities, refused_as_empty, read_whole, not_empty}
use Rattle.dxf_drawing.proofs.reader.Reader.into_drawing.Goals as goal

pub returns-in-Some-clause-err : goal.returns-in-Some-clause-err
returns-in-Some-clause-err c = λ bytes at.
    let fault : fault_of c.args.self.groups.stop ≡ Some c.in-Some.fault = search rules in
    refused_by_lines bytes c.args.self.groups.stop c.in-Some.fault at.stop fault

pub returns-in-Err-clause-err : goal.returns-in-Err-clause-err
returns-in-Err-clause-err c = λ bytes at.
    let none : fault_of c.args.self.groups.stop ≡ None = search rules in
    refused_by_entities bytes c.args.self.groups.stop c.args.self.entities.built c.in-Err.why at.stop none at.entities.built (search rules)

pub returns-then-is_empty-clause-err : goal.returns-then-is_empty-clause-err
returns-then-is_empty-clause-err c = λ bytes at.
    let none : fault_of c.args.self.groups.stop ≡ None = search rules in
    let built = c.in-Ok.ensures.ok in
    let empty : length c.segments.result.now ≡ 0 = search rules in
    let same : length c.segments.result.now ≡ length c.args.self.entities.built.drawing.segments = ap length c.segments.ensures ∙ ap (λ (l : Lists). length l.segments) built.0 in
    refused_as_empty bytes c.args.self.groups.stop c.args.self.entities.built at.stop none at.entities.built built.1 (sym same ∙ empty)

pub returns-clause-ok : goal.returns-clause-ok
returns-clause-ok c = λ bytes at.
    let none : fault_of c.args.self.groups.stop ≡ None = search rules in
    let built = c.in-Ok.ensures.ok in
    let some_segments : nat_eq (length c.segments.result.now) 0 ≡ false = search rules in
    let some : 0 < length c.in-Ok.drawing.segments = subst (λ n. 0 < n) (ap length c.segments.ensures) (not_empty (length c.segments.result.now) some_segments) in
    read_whole bytes c.args.self.groups.stop c.args.self.entities.built c.in-Ok.drawing at.stop none at.entities.built built.1 built.0 some
