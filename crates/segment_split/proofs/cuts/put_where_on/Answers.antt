use Rattle.std.proofs.Common.{sym, subst, refl}
use Rattle.std.proofs.lemmas.Bool.{iff_false}
use Rattle.nest_base.specs.Plane.{rational, IsOn}
use Rattle.segment_split.specs.CutPoints.{IsPlaceOn}
use Rattle.segment_split.proofs.AddedPlaces.{adds_none, adds_one}
use Rattle.segment_split.proofs.cuts.put_where_on.Goals as goal

pub returns-in_ok-push : goal.returns-in_ok-push
returns-in_ok-push c = rw c.in_ok-push.ensures.items (adds_one (IsPlaceOn c.args.s.now c.args.p) 0 c.args.places.now.items c.args.p (refl, c.between.ensures.0 c.if-between.true) (λ q h. h.0))

pub returns-else-between : goal.returns-else-between
returns-else-between c = adds_none (IsPlaceOn c.args.s.now c.args.p) 1 c.args.places.now.items
    (λ q h. iff_false c.between.ensures c.if-between.false (subst (λ r. IsOn (rational r) c.args.s.now.a c.args.s.now.b) (sym h.0) h.1))
