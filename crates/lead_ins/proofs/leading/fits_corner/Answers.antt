use Rattle.std.proofs.lemmas.Bool.{iff_false}
use Rattle.lead_ins.proofs.Told.{scrap_told}
use Rattle.lead_ins.proofs.leading.fits_corner.Goals as goal

pub returns-then-not-is_in_scrap : goal.returns-then-not-is_in_scrap
returns-then-not-is_in_scrap c = λ places told.
    let scrap = scrap_told c.args.graph.now places c.args.faces.now.faces c.args.parts.now.names c.args.corner.side.0 told c.requires.corner.1.within in
    (λ impossible. cc, λ fits. absurd (iff_false c.is_in_scrap.ensures c.if-not-is_in_scrap.true (scrap.1 fits.1)))

pub returns : goal.returns
returns c = λ places told.
    let scrap = scrap_told c.args.graph.now places c.args.faces.now.faces c.args.parts.now.names c.args.corner.side.0 told c.requires.corner.1.within in
    (λ yes. (c.is_clear.ensures.0 yes, scrap.0 (c.is_in_scrap.ensures.0 c.if-not-is_in_scrap.false)), λ fits. c.is_clear.ensures.1 fits.0)
