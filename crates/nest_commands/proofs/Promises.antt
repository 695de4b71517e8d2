-- The promise of the top call, kept by a plan for the drawing's edges.
use Rattle.std.proofs.Common.{◌≡◌, ◌≤◌, inl, inr, ℕ, List, [], ◌∷◌, length, lit≤, subst}
use Rattle.std.specs.Prelude.{All, Contains, Option}
use Rattle.std.specs.List.{AllZip}
use Rattle.nest_base.specs.declared.places.Point.{Point}
use Rattle.nest_base.specs.declared.places.Segment.{Segment}
use Rattle.nest_base.specs.declared.places.Edge.{Edge}
use Rattle.nest_base.specs.declared.drawing.Name.{Name}
use Rattle.nest_base.specs.Plane.{HalfEdge}
use Rattle.nest_base.specs.Order.{IsBefore}
use Rattle.nest_base.specs.Range.{IsEdgeWithin, range}
use Rattle.nest_base.proofs.Lists.{Contains-cases, Contains-none}
use Rattle.plate_edges.specs.Edges.{AreEdgesOf}
use Rattle.plate_sides.specs.Components.{IsMark}
use Rattle.plate_sides.specs.Cover.{HasTrailsIn}
use Rattle.plate_sides.specs.Limit.{IsLimit}
use Rattle.plate_sides.specs.Paths.{paths_of}
use Rattle.plate_parts.specs.LeadIns.{AreFirstLeadIns}
use Rattle.part_scrap.specs.Naming.{places_of}
use Rattle.pierce_report.specs.Report.{Row, IsRowOf, IsReport}
use Rattle.plate_plans.specs.Plans.{IsPlan}
use Rattle.code_moves.specs.BurntChains.{BurnsChains}
use Rattle.code_moves.specs.CodeText.{code_text}
use Rattle.code_moves.specs.Meaning.{moves_of}
use Rattle.code_moves.proofs.WrittenCode.{written_code_burns}
use Rattle.sound_code.specs.Lightings.{Lighting, HasPierces, first_sides, starts_of, lighting_trails}
use Rattle.sound_code.specs.Plans.{IsLedPlan, CanBeCut, lightings_of}
use Rattle.sound_code.proofs.SoundPlans.{burnt_plan_is_sound}
use Rattle.sound_code.proofs.PlanLightings.{burnt_plan_has_lightings, plan_has_first_lead_ins, plan_has_pierces, code_is_of_its_lightings, plan_has_as_many_leads}
use Rattle.sound_code.proofs.WritableChains.{cut_within, chains_can_be_written}
use Rattle.sound_code.proofs.NearStarts.{first_lead_ins_are_near}
use Rattle.nest_commands.specs.Promise.{IsOrderEnclosingPlan}

-- the row of a mark vertex
pub row_at : (R : Point → Row → Type 0) (mark : Point) (marks : List Point) (rows : List Row) → AllZip R marks rows → Contains marks mark → (row : Row) × R mark row
row_at R mark [] rows zip c = absurd (Contains-none mark c)
row_at R mark (m ∷ marks) [] zip c = absurd zip
row_at R mark (m ∷ marks) (row ∷ rows) zip c = elim (Contains-cases m mark marks c) [
  | inl e ↦ (row, subst (λ (p : Point). R p row) e zip.0)
  | inr later ↦ row_at R mark marks rows zip.1 later
]

-- trails that are a plan for the edges of a drawing with these names, their lead-ins, and the report on them
pub record IsReportedPlan (edges : List Edge) (names : List Name) (trails : List (List HalfEdge)) (leads : List (Option Point)) (report : List ℕ) : Type 0 where
  pub ends_in_order : All (λ (e : Edge). IsBefore e.low e.high) edges
  pub within : All (IsEdgeWithin range) edges
  pub plan : IsPlan edges trails
  pub first_leads : AreFirstLeadIns edges (places_of names) [] (first_sides trails) leads
  pub reported : IsReport edges names (λ mark n. HasTrailsIn edges mark trails n) report

module _ {edges : List Edge} {names : List Name} {trails : List (List HalfEdge)} {leads : List (Option Point)} {report : List ℕ}
    (r : IsReportedPlan edges names trails leads report) where
  pub led : IsLedPlan edges (places_of names) trails leads
  led = record { covers = r.plan.covers.is_cover; encloses = r.plan.covers.enclosing; first_leads = r.first_leads }

  abbrev pub lightings : List Lighting
  lightings = lightings_of leads trails

  abbrev pub code : List ℕ
  code = code_text (paths_of leads trails)

  pub cut : CanBeCut edges
  cut = cut_within range edges (lit≤ tt) r.ends_in_order r.within

  as_many : length leads ≡ length trails
  as_many = plan_has_as_many_leads edges (places_of names) trails leads led

  -- the code that is written for the trails burns them
  pub trails_are_burnt : BurnsChains (paths_of leads trails) code
  trails_are_burnt = written_code_burns (paths_of leads trails) (chains_can_be_written edges trails leads cut led.covers.are_trails
      (first_lead_ins_are_near range edges (places_of names) trails leads (lit≤ tt) r.within led))

  -- and is the text of its own lightings
  pub own_text : code ≡ code_text (paths_of (starts_of lightings) (lighting_trails lightings))
  own_text = code_is_of_its_lightings trails leads as_many

  -- a trail of the plan is a pierce of its component
  pub pierces : (mark : Point) (n : ℕ) → HasTrailsIn edges mark trails n → HasPierces edges lightings mark n
  pierces mark n has = plan_has_pierces edges mark trails leads n as_many has

  rows_of_pierces : (some : List Point) (rows : List Row) → AllZip (λ mark (row : Row). IsRowOf edges mark row × HasTrailsIn edges mark trails row.pierces) some rows →
      AllZip (λ mark (row : Row). IsRowOf edges mark row × HasPierces edges lightings mark row.pierces) some rows
  rows_of_pierces [] [] zip = tt
  rows_of_pierces [] (row ∷ rows) zip = absurd zip
  rows_of_pierces (mark ∷ some) [] zip = absurd zip
  rows_of_pierces (mark ∷ some) (row ∷ rows) zip = ((zip.0.0, pierces mark row.pierces zip.0.1), rows_of_pierces some rows zip.1)

  pub pierces_are_reported : IsReport edges names (HasPierces edges lightings) report
  pierces_are_reported = record {
    marks = r.reported.marks;
    are_marks = r.reported.are_marks;
    rows = r.reported.rows;
    are_rows = rows_of_pierces r.reported.marks r.reported.rows r.reported.are_rows;
    parts = r.reported.parts;
    are_parts = r.reported.are_parts;
    is_text = r.reported.is_text;
  }

  pub limits : (mark : Point) → IsMark edges mark → (limit : ℕ) × (n : ℕ) × IsLimit edges mark limit × HasPierces edges lightings mark n × (n ≤ limit)
  limits mark is_mark =
      let (row, (is_row, has)) = row_at (λ m (row : Row). IsRowOf edges m row × HasTrailsIn edges m trails row.pierces) mark r.reported.marks r.reported.rows r.reported.are_rows ((r.reported.are_marks.are_all mark).1 is_mark) in
      (row.limit, row.pierces, is_row.has_limit, pierces mark row.pierces has, r.plan.within_limit mark is_mark row.pierces row.limit has is_row.has_limit)

  -- that code, and the report, keep the promise
  unfoldable pub promise_is_kept : (segments : List Segment) → AreEdgesOf segments edges → IsOrderEnclosingPlan segments names (moves_of code) report
  promise_is_kept segments are_edges = record {
    edges = edges;
    are_edges = are_edges;
    sound = burnt_plan_is_sound edges (places_of names) trails leads code cut led trails_are_burnt;
    lightings = lightings;
    are_lightings = burnt_plan_has_lightings edges (places_of names) trails leads code cut led trails_are_burnt;
    first_lead_ins = plan_has_first_lead_ins edges (places_of names) trails leads led;
    within_limits = limits;
    reported = pierces_are_reported;
    no_cover_undercuts = r.plan.none_undercuts;
    no_cover_undercuts_sum = r.plan.none_undercuts_sum;
  }
