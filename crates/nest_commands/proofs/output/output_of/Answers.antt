-- Burning leaves the edges and the faces as they were, so what stands after it is said of the drawing's edges.
use Rattle.std.proofs.Common.{◌≡◌, List, lit≤, sym, ap, subst, ◌∙◌}
use Rattle.std.specs.Prelude.{All}
use Rattle.nest_base.specs.declared.places.Edge.{Edge}
use Rattle.nest_base.specs.declared.drawing.Name.{Name}
use Rattle.nest_base.specs.Range.{IsEdgeWithin, range}
use Rattle.plate_sides.specs.Components.{AreMarks}
use Rattle.half_edges.specs.Graph.{Graph}
use Rattle.face_nesting.specs.Nesting.{AreOuterCycles}
use Rattle.plate_parts.specs.Parts.{AreDistinct}
use Rattle.part_scrap.specs.Naming.{TellsScrap, places_of}
use Rattle.plate_plans.specs.Plans.{IsPlan}
use Rattle.lead_ins.specs.Tries.{lead_range}
use Rattle.segment_split.specs.Splits.{IsSplit}
use Rattle.dxf_drawing.specs.Drawings.{names_of}
use Rattle.nest_commands.specs.Outputs.{AreCutsOf}
use Rattle.nest_commands.specs.Reasons.{IsReason}
use Rattle.nest_commands.proofs.PlannedOutputs.{IsPlanned, AreDrawnEdges, leads_from, code_from, report_from, output_from}
use Rattle.pierce_report.specs.Report.{IsReport}
use Rattle.plate_sides.specs.Cover.{HasTrailsIn}
use Rattle.plate_sides.specs.Paths.{paths_of}
use Rattle.oe_cover.specs.Trails.{trails_by}
use Rattle.code_moves.specs.CodeText.{code_text}
use Rattle.nest_commands.proofs.PlannedOutputs.{edges_wider}
use Rattle.nest_commands.proofs.Results.{if_err_same}
use Rattle.nest_commands.proofs.RefusedOutputs.{splitting_reason, naming_reason}
use Rattle.nest_commands.proofs.output.output_of.Goals as goal

pub returns-in_err-edges-clause-refused : goal.returns-in_err-edges-clause-refused
returns-in_err-edges-clause-refused c =
    if_err_same (λ why. IsReason why c.args.bytes.now) c.from_residual-in_err-edges.result c.in_err-edges.field-0.0 c.from_residual-in_err-edges.ensures.1
    (splitting_reason c.args.bytes.now c.in_ok-drawing.drawing c.in_err-edges.field-0.0 c.in_ok-drawing.ensures.read c.in_err-edges.ensures.refused)

pub returns-in_err-parts-clause-refused : goal.returns-in_err-parts-clause-refused
returns-in_err-parts-clause-refused c =
    let read = c.in_ok-drawing.ensures.read in
    let cuts : AreCutsOf c.args.bytes.now c.in_ok-edges.edges = record { read = read.accepted; split = subst (λ ss. IsSplit ss c.in_ok-edges.edges) read.segments c.in_ok-edges.ensures.split } in
    if_err_same (λ why. IsReason why c.args.bytes.now) c.from_residual-in_err-parts.result c.in_err-parts.field-0.0 c.from_residual-in_err-parts.ensures.1
    (naming_reason c.args.bytes.now c.in_ok-edges.edges c.in_ok-graph.graph.edges c.names.result.now c.in_err-parts.field-0.0 cuts c.in_ok-graph.ensures.edges (c.names.ensures ∙ read.names)
    c.in_err-parts.ensures.refused)

pub lead_all-requires-clause-near : goal.lead_all-requires-clause-near
lead_all-requires-clause-near c =
    let same : c.cover_all.new.graph.edges ≡ c.in_ok-edges.edges = ap (λ (g : Graph). g.edges) c.cover_all.ensures.same ∙ c.in_ok-graph.ensures.edges in
    subst (All (IsEdgeWithin lead_range)) (sym same) (edges_wider range lead_range c.in_ok-edges.edges (lit≤ tt) c.in_ok-edges.ensures.within)

pub report-requires-clause-outer_cycles : goal.report-requires-clause-outer_cycles
report-requires-clause-outer_cycles c = subst (λ (g : Graph). AreOuterCycles g c.in_ok-faces.faces) (sym c.cover_all.ensures.same) c.in_ok-faces.ensures.outer_cycles

pub returns-clause-ok : goal.returns-clause-ok
returns-clause-ok c =
    let file = c.args.bytes.now in
    let graph = c.in_ok-graph.graph in
    let edges = c.in_ok-edges.edges in
    let faces = c.in_ok-faces.faces in
    let parts = c.in_ok-parts.parts in
    let plan = c.in_ok-plan.plan in
    let leads = c.in_ok-leads.leads.items in
    let report = c.in_ok-report.report in
    let names = names_of file in
    let burnt = c.cover_all.new.graph.edges in
    let read = c.in_ok-drawing.ensures.read in
    let is_shown : graph.edges ≡ edges = c.in_ok-graph.ensures.edges in
    let same : burnt ≡ graph.edges = ap (λ (g : Graph). g.edges) c.cover_all.ensures.same in
    let are_names : c.names.result.now ≡ names = c.names.ensures ∙ read.names in
    let are_names_too : c.names-2.result.now ≡ names = c.names-2.ensures ∙ read.names in
    let (order, is_order, component_covers, are_component_covers, ends, are) = c.in_ok-plan.ensures.in_order in
    let tells : TellsScrap burnt (places_of names) faces.faces parts.names =
    subst (λ (l : List Edge). TellsScrap l (places_of names) faces.faces parts.names) (sym same)
    (subst (λ (ns : List Name). TellsScrap graph.edges (places_of ns) faces.faces parts.names) are_names c.in_ok-parts.ensures.tells_scrap) in
    let planned : IsPlanned graph.edges names graph.marks faces.parents order component_covers leads report = record {
      are_marks = subst (λ (e : List Edge). AreMarks e graph.marks) (sym is_shown) c.in_ok-graph.ensures.marks;
      are_parents = c.in_ok-faces.ensures.parents;
      is_order = is_order;
      are_component_covers = are_component_covers;
      ends = ends;
      plan = subst (IsPlan graph.edges) are c.in_ok-plan.ensures.plan;
      named = subst (λ (ns : List Name). AreDistinct graph.edges (places_of ns)) are_names c.in_ok-parts.ensures.distinct;
      first_leads = leads_from graph.edges burnt same plan component_covers are names leads (c.in_ok-leads.ensures.first (places_of names) tells);
      reported = report_from graph.edges burnt same plan component_covers are names report
          (subst (λ (ns : List Name). IsReport burnt ns (λ mark n. HasTrailsIn burnt mark (trails_by burnt plan) n) report) are_names_too c.in_ok-report.ensures);
    } in
    let drawn : AreDrawnEdges file edges = record {
      cuts = record { read = read.accepted; split = subst (λ ss. IsSplit ss edges) read.segments c.in_ok-edges.ensures.split };
      ends_in_order = c.in_ok-edges.ensures.ends_in_order;
      within = c.in_ok-edges.ensures.within;
    } in
    output_from drawn c.in_ok-code.code graph.edges is_shown planned
    (code_from graph.edges burnt same plan component_covers are leads c.in_ok-code.code
    (c.in_ok-code.ensures ∙ ap (λ l. code_text (paths_of l (trails_by burnt plan))) c.deref.ensures.value))
