use Rattle.std.proofs.Common.{inl, inr, refl}
use Rattle.std.proofs.lemmas.Bool.{iff_false}
use Rattle.plate_parts.specs.LeadIns.{Left, Right}
use Rattle.lead_ins.proofs.FittingCorners.{off_fits_hand, fits_this_off}
use Rattle.lead_ins.proofs.leading.is_free_off_edges.Goals as goal

pub returns-then-fits_off_edges : goal.returns-then-fits_off_edges
returns-then-fits_off_edges c = λ places told. (
  λ yes. inl (off_fits_hand c.args.graph.now places c.args.earlier.now c.args.first.0 Left c.corners_of-corners.result.left c.corners_of-corners.ensures.left
      c.args.faces.now.faces c.args.parts.now.names told c.args.from c.requires.off_edges (c.fits_off_edges.ensures.0 c.if-fits_off_edges.true)),
  λ free. refl,
)

pub returns : goal.returns
returns c = λ places told. (
  λ yes. inr (off_fits_hand c.args.graph.now places c.args.earlier.now c.args.first.0 Right c.corners_of-corners.result.right c.corners_of-corners.ensures.right
      c.args.faces.now.faces c.args.parts.now.names told c.args.from c.requires.off_edges (c.fits_off_edges-2.ensures.0 yes)),
  λ free. elim free [
    | inl in_left ↦ absurd (iff_false c.fits_off_edges.ensures c.if-fits_off_edges.false
        (fits_this_off c.args.graph.now places c.args.earlier.now c.args.first.0 Left c.corners_of-corners.result.left c.corners_of-corners.ensures.left
        c.args.faces.now.faces c.args.parts.now.names told c.args.from in_left))
    | inr in_right ↦ c.fits_off_edges-2.ensures.1
        (fits_this_off c.args.graph.now places c.args.earlier.now c.args.first.0 Right c.corners_of-corners.result.right c.corners_of-corners.ensures.right
        c.args.faces.now.faces c.args.parts.now.names told c.args.from in_right)
  ],
)
