use Rattle.std.proofs.lemmas.Bool.{iff_false}
use Rattle.plate_parts.specs.LeadIns.{none, tried_around}
use Rattle.lead_ins.specs.Corners.{IsClear, FitsCorner}
use Rattle.lead_ins.proofs.FirstFits.{first_fit_by, is_tried}
use Rattle.lead_ins.proofs.Told.{scrap_told}
use Rattle.lead_ins.proofs.leading.first_in_corner.Goals as goal

pub returns-then-not-is_in_scrap-clause-first : goal.returns-then-not-is_in_scrap-clause-first
returns-then-not-is_in_scrap-clause-first c = λ places told.
    let scrap = scrap_told c.args.graph.now places c.args.faces.now.faces c.args.parts.now.names c.args.corner.side.0 told c.requires.corner.1.within in
    none (λ k d within fits. iff_false c.is_in_scrap.ensures c.if-not-is_in_scrap.true (scrap.1 fits.1))

pub returns-clause-first : goal.returns-clause-first
returns-clause-first c = λ places told.
    let scrap = scrap_told c.args.graph.now places c.args.faces.now.faces c.args.parts.now.names c.args.corner.side.0 told c.requires.corner.1.within in
    let is_scrap = scrap.0 (c.is_in_scrap.ensures.0 c.if-not-is_in_scrap.false) in
    first_fit_by (IsClear c.args.graph.now.edges c.args.earlier.now c.args.corner) (FitsCorner c.args.graph.now places c.args.earlier.now c.args.corner)
    (tried_around c.args.corner.vertex) c.first_clear.result (λ q clear. (clear, is_scrap)) (λ q fits. fits.0) c.first_clear.ensures

pub returns-clause-tried : goal.returns-clause-tried
returns-clause-tried c =
    is_tried (IsClear c.args.graph.now.edges c.args.earlier.now c.args.corner) (tried_around c.args.corner.vertex) c.first_clear.result c.first_clear.ensures
