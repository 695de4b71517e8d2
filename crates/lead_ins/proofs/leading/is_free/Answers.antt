use Rattle.std.proofs.Common.{inl, inr, refl}
use Rattle.std.proofs.lemmas.Bool.{iff_false}
use Rattle.plate_parts.specs.LeadIns.{Left, Right}
use Rattle.lead_ins.proofs.FittingCorners.{fits_hand, fits_this}
use Rattle.lead_ins.proofs.leading.is_free.Goals as goal

pub returns-then-fits_corner : goal.returns-then-fits_corner
returns-then-fits_corner c = λ places told. (
  λ yes. inl (fits_hand c.args.graph.now places c.args.earlier.now c.args.first.0 Left c.corners_of-corners.result.left c.corners_of-corners.ensures.left c.args.from
      ((c.fits_corner.ensures places told).0 c.if-fits_corner.true)),
  λ free. refl,
)

pub returns : goal.returns
returns c = λ places told. (
  λ yes. inr (fits_hand c.args.graph.now places c.args.earlier.now c.args.first.0 Right c.corners_of-corners.result.right c.corners_of-corners.ensures.right c.args.from
      ((c.fits_corner-2.ensures places told).0 yes)),
  λ free. elim free [
    | inl in_left ↦ absurd (iff_false (c.fits_corner.ensures places told) c.if-fits_corner.false
        (fits_this c.args.graph.now places c.args.earlier.now c.args.first.0 Left c.corners_of-corners.result.left c.corners_of-corners.ensures.left c.args.from in_left))
    | inr in_right ↦ (c.fits_corner-2.ensures places told).1
        (fits_this c.args.graph.now places c.args.earlier.now c.args.first.0 Right c.corners_of-corners.result.right c.corners_of-corners.ensures.right c.args.from in_right)
  ],
)
