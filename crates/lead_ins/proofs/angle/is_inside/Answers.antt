use Rattle.std.proofs.Common.{inl, inr, refl}
use Rattle.std.proofs.lemmas.Bool.{iff_false}
use Rattle.lead_ins.proofs.Angles.{inside_from_both, inside_from_one, both_from_inside, one_from_inside}
use Rattle.lead_ins.proofs.angle.is_inside.Goals as goal

pub returns-then-comes_before-2 : goal.returns-then-comes_before-2
returns-then-comes_before-2 c =
    let r = c.requires in
    let order = c.comes_before.ensures.0 c.if-comes_before.true in
    let after = c.comes_before-then-comes_before.ensures.0 c.if-comes_before-2.true in (
      λ before. inside_from_both c.args.a c.args.d c.args.b r.a_leads r.d_leads r.b_leads order after (c.comes_before-then-comes_before-2.ensures.0 before),
      λ inside. c.comes_before-then-comes_before-2.ensures.1 (both_from_inside c.args.a c.args.d c.args.b r.a_leads r.d_leads r.b_leads order inside).1,
    )

pub returns-else-comes_before-2 : goal.returns-else-comes_before-2
returns-else-comes_before-2 c =
    let r = c.requires in
    let order = c.comes_before.ensures.0 c.if-comes_before.true in (
      λ yes. absurd (cc (yes, c.if-comes_before-2.false)),
      λ inside. c.comes_before-then-comes_before.ensures.1 (both_from_inside c.args.a c.args.d c.args.b r.a_leads r.d_leads r.b_leads order inside).0,
    )

pub returns-then-comes_before-3 : goal.returns-then-comes_before-3
returns-then-comes_before-3 c =
    let r = c.requires in
    let over = iff_false c.comes_before.ensures c.if-comes_before.false in
    let after = c.comes_before-2.ensures.0 c.if-comes_before-3.true in
    (λ yes. inside_from_one c.args.a c.args.d c.args.b r.a_leads r.d_leads r.b_leads over (inl after), λ inside. refl)

pub returns : goal.returns
returns c =
    let r = c.requires in
    let over = iff_false c.comes_before.ensures c.if-comes_before.false in (
      λ before. inside_from_one c.args.a c.args.d c.args.b r.a_leads r.d_leads r.b_leads over (inr (c.comes_before-3.ensures.0 before)),
      λ inside. elim (one_from_inside c.args.a c.args.d c.args.b r.a_leads r.d_leads r.b_leads over inside) [
        | inl after ↦ absurd (iff_false c.comes_before-2.ensures c.if-comes_before-3.false after)
        | inr before ↦ c.comes_before-3.ensures.1 before
      ],
    )
