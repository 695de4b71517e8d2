-- What the steps of planning give is the output of the drawing.
use Rattle.std.proofs.Common.{◌≡◌, ◌≤◌, ℕ, List, [], ap, ◌∙◌, sym, subst}
use Rattle.std.specs.Prelude.{All, Option}
use Rattle.nest_base.specs.declared.places.Point.{Point}
use Rattle.nest_base.specs.declared.places.Edge.{Edge}
use Rattle.nest_base.specs.declared.drawing.Name.{Name}
use Rattle.nest_base.specs.Order.{IsBefore}
use Rattle.nest_base.specs.Plane.{HalfEdge}
use Rattle.nest_base.specs.Range.{IsEdgeWithin, range}
use Rattle.nest_base.proofs.ListReads.{All-read, All-from_reads}
use Rattle.lead_ins.proofs.Tried.{wider}
use Rattle.plate_sides.specs.Components.{AreMarks}
use Rattle.plate_sides.specs.Nesting.{AreParents}
use Rattle.plate_sides.specs.Cover.{HasTrailsIn}
use Rattle.plate_sides.specs.Paths.{paths_of}
use Rattle.plate_nesting.specs.Order.{IsBurningOrder}
use Rattle.plate_plans.specs.Plans.{AreComponentCovers, all_trails, IsPlan}
use Rattle.plate_parts.specs.Parts.{AreDistinct}
use Rattle.plate_parts.specs.LeadIns.{AreFirstLeadIns}
use Rattle.part_scrap.specs.Naming.{places_of}
use Rattle.sound_code.specs.Lightings.{first_sides}
use Rattle.oe_cover.specs.Trails.{trails_by}
use Rattle.oe_cover.specs.Ends.{EndAtFirstStarts}
use Rattle.pierce_report.specs.Report.{IsReport}
use Rattle.code_moves.specs.CodeText.{code_text}
use Rattle.code_moves.specs.Meaning.{code_refusal_of}
use Rattle.dxf_drawing.specs.Drawings.{segments_of, names_of}
use Rattle.nest_commands.specs.Outputs.{AreCutsOf, IsOutput}
use Rattle.nest_commands.proofs.Promises.{IsReportedPlan, trails_are_burnt}
use Rattle.nest_commands.proofs.EvenDrawings.{IsKeptWhereEven, kept_where_even}

-- edges that lie within a range lie within a wider one
pub edges_wider : (m n : ℕ) (edges : List Edge) → m ≤ n → All (IsEdgeWithin m) edges → All (IsEdgeWithin n) edges
edges_wider m n edges wide within =
    All-from_reads (IsEdgeWithin n) edges (λ k e at.
    let is = All-read (IsEdgeWithin m) edges k e within at in
    record { low = wider m n e.low wide is.low; high = wider m n e.high wide is.high })

-- the plan by numbers is that of the covers; `shown` are the edges as the graph has them once all are burnt
module _ (edges shown : List Edge) (same : shown ≡ edges) (plan : List (List ℕ)) (component_covers : List (List (List HalfEdge))) (are : trails_by edges plan ≡ all_trails component_covers) where
  trails_are : trails_by shown plan ≡ all_trails component_covers
  trails_are = ap (λ e. trails_by e plan) same ∙ are

  pub leads_from : (names : List Name) (leads : List (Option Point)) → AreFirstLeadIns shown (places_of names) [] (first_sides (trails_by shown plan)) leads →
      AreFirstLeadIns edges (places_of names) [] (first_sides (all_trails component_covers)) leads
  leads_from names leads first =
      subst (λ e. AreFirstLeadIns e (places_of names) [] (first_sides (all_trails component_covers)) leads) same
      (subst (λ ts. AreFirstLeadIns shown (places_of names) [] (first_sides ts) leads) trails_are first)

  pub code_from : (leads : List (Option Point)) (code : List ℕ) → code ≡ code_text (paths_of leads (trails_by shown plan)) →
      code ≡ code_text (paths_of leads (all_trails component_covers))
  code_from leads code code_is = code_is ∙ ap (λ ts. code_text (paths_of leads ts)) trails_are

  pub report_from : (names : List Name) (report : List ℕ) → IsReport shown names (λ mark n. HasTrailsIn shown mark (trails_by shown plan) n) report →
      IsReport edges names (λ mark n. HasTrailsIn edges mark (all_trails component_covers) n) report
  report_from names report reported =
      subst (λ ts. IsReport edges names (λ mark n. HasTrailsIn edges mark ts n) report) are
      (subst (λ e. IsReport e names (λ mark n. HasTrailsIn e mark (trails_by e plan) n) report) same reported)

-- what is planned for these edges, which are those of a graph
pub record IsPlanned (edges : List Edge) (names : List Name) (marks : List Point) (parents : List (Option ℕ)) (order : List ℕ)
    (component_covers : List (List (List HalfEdge))) (leads : List (Option Point)) (report : List ℕ) : Type 0 where
  pub are_marks : AreMarks edges marks
  pub are_parents : AreParents edges marks parents
  pub is_order : IsBurningOrder parents order
  pub are_component_covers : AreComponentCovers edges marks order component_covers
  pub ends : EndAtFirstStarts edges marks order component_covers
  pub plan : IsPlan edges (all_trails component_covers)
  pub named : AreDistinct edges (places_of names)
  pub first_leads : AreFirstLeadIns edges (places_of names) [] (first_sides (all_trails component_covers)) leads
  pub reported : IsReport edges names (λ mark n. HasTrailsIn edges mark (all_trails component_covers) n) report

-- what is known of the edges of the drawing
pub record AreDrawnEdges (file : List ℕ) (edges : List Edge) : Type 0 where
  pub cuts : AreCutsOf file edges
  pub ends_in_order : All (λ (e : Edge). IsBefore e.low e.high) edges
  pub within : All (IsEdgeWithin range) edges

module _ {file : List ℕ} {edges : List Edge} {marks : List Point} {parents : List (Option ℕ)} {order : List ℕ}
    {component_covers : List (List (List HalfEdge))} {leads : List (Option Point)} {report : List ℕ} (drawn : AreDrawnEdges file edges) where
  -- `shown` are the edges as the graph has them
  pub output_from : (code : List ℕ) (shown : List Edge) → shown ≡ edges → IsPlanned shown (names_of file) marks parents order component_covers leads report →
      code ≡ code_text (paths_of leads (all_trails component_covers)) → IsOutput file code report
  output_from code shown is_shown found code_is =
      let segments = segments_of file in
      let names = names_of file in
      let planned : IsPlanned edges names marks parents order component_covers leads report =
      subst (λ e. IsPlanned e names marks parents order component_covers leads report) is_shown found in
      let reported : IsReportedPlan edges names (all_trails component_covers) leads report = record {
        ends_in_order = drawn.ends_in_order;
        within = drawn.within;
        plan = planned.plan;
        first_leads = planned.first_leads;
        reported = planned.reported;
      } in
      let kept : IsKeptWhereEven segments names code report = subst (λ bytes. IsKeptWhereEven segments names bytes report) (sym code_is)
      (kept_where_even reported segments drawn.cuts.split.are_edges) in
      record {
        edges = edges;
        drawing = record { cuts = drawn.cuts; named = planned.named };
        marks = marks;
        are_marks = planned.are_marks;
        parents = parents;
        are_parents = planned.are_parents;
        order = order;
        is_order = planned.is_order;
        component_covers = component_covers;
        are_component_covers = planned.are_component_covers;
        ends = planned.ends;
        leads = leads;
        are_first = planned.first_leads;
        code_is = code_is;
        has_no_fault = ap code_refusal_of code_is ∙ (trails_are_burnt reported).accepted;
        promise = kept.promise;
        even = kept.even;
        is_text = kept.is_text;
      }
