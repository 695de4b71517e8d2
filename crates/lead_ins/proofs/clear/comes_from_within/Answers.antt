use Rattle.std.proofs.Common.{◌≢◌, sym, subst, ◌∙◌}
use Rattle.std.proofs.lemmas.Bool.Decides.{not_from_Decides}
use Rattle.nest_base.specs.declared.places.Point.{Point}
use Rattle.nest_base.specs.Order.{is_place}
use Rattle.nest_base.specs.Turn.{IsInsideAngle}
use Rattle.nest_base.proofs.Points.{Decides-is_place}
use Rattle.lead_ins.proofs.clear.comes_from_within.Goals as goal

pub returns : goal.returns
returns c =
    let inside = λ (d : Point). IsInsideAngle c.args.corner.first d c.args.corner.last in
    let apart : c.args.q ≢ c.args.corner.vertex = not_from_Decides (is_place c.args.q c.args.corner.vertex) (Decides-is_place c.args.q c.args.corner.vertex) (sym c.eq.ensures ∙ c.if-eq.false) in (
      λ yes. record { apart = apart; in_corner = subst inside c.direction_to.ensures (c.is_inside.ensures.0 yes) },
      λ within. c.is_inside.ensures.1 (subst inside (sym c.direction_to.ensures) within.in_corner),
    )
