use Rattle.std.proofs.Common.{◌≡◌, Bool, true, false, refl}
use Rattle.std.proofs.lemmas.Bool.{iff_false, not-true}
use Rattle.std.specs.Prelude.{not}
use Rattle.nest_base.proofs.Points.{on_first, on_last}
use Rattle.lead_ins.proofs.Touching.{shared_elsewhere, folded, apart_from}
use Rattle.lead_ins.proofs.touch.touches_at_most_at.Goals as goal

pub returns-then-not-between : goal.returns-then-not-between
returns-then-not-between c =
    let shared = c.share_point.ensures.found c.if-not-share_point.false in
    (λ impossible. cc, λ touches. absurd (shared_elsewhere c.args.v c.args.q c.args.a c.args.b shared.0 (iff_false c.between.ensures c.if-not-between.true) shared.1.0 shared.1.1 touches))

pub returns-then-folds : goal.returns-then-folds
returns-then-folds c =
    let holds = c.between.ensures.0 c.if-not-between.false in
    let fold = c.folds.ensures.0 c.if-folds.true in
    (λ impossible. cc, λ touches. absurd (folded c.args.v c.args.q c.args.a c.args.b c.args.a holds (on_first c.args.a c.args.b) fold touches))

not_from : (b : Bool) → (b ≡ true → ⊥) → not b ≡ true
not_from true never = absurd (never refl)
not_from false never = refl

pub returns : goal.returns
returns c =
    let holds = c.between.ensures.0 c.if-not-between.false in (
      λ yes. apart_from c.args.v c.args.q c.args.a c.args.b holds (iff_false c.folds.ensures c.if-folds.false) (iff_false c.folds-2.ensures (not-true c.folds-2.result yes)),
      λ touches. not_from c.folds-2.result (λ yes. folded c.args.v c.args.q c.args.a c.args.b c.args.b holds (on_last c.args.a c.args.b) (c.folds-2.ensures.0 yes) touches),
    )
