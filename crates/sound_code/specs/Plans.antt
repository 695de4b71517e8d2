-- Plans of trails along the edges of a drawing, with a lead-in or none for each, and code that burns them.
use Rattle.std.specs.Prelude.{◌≡◌, ℕ, ◌+◌, ◌≤◌, List, [], ◌∷◌, Option, All, length, IfSome}
use Rattle.nest_base.specs.declared.places.Point.{Point}
use Rattle.nest_base.specs.declared.places.Edge.{Edge}
use Rattle.nest_base.specs.Order.{IsBefore}
use Rattle.nest_base.specs.Plane.{HalfEdge}
use Rattle.nest_base.specs.Range.{IsWithin, IsEdgeWithin}
use Rattle.plate_sides.specs.HalfEdges.{IsHalfEdge}
use Rattle.plate_sides.specs.Enclosing.{IsOrderEnclosing}
use Rattle.plate_sides.specs.Cover.{IsTrail, joined, IsCover, HasTrailsIn}
use Rattle.plate_sides.specs.Paths.{paths_of}
use Rattle.plate_parts.specs.declared.leads.Lead.{Lead}
use Rattle.plate_parts.specs.LeadIns.{IsFreeLeadIn, AreFirstLeadIns}
use Rattle.code_moves.specs.BurntChains.{CanBeWritten, BurnsChains}
use Rattle.code_moves.specs.CodeText.{code_text}
use Rattle.code_moves.specs.Meaning.{code_range, moves_of}
use Rattle.sound_code.specs.Sound.{IsSoundCode}
use Rattle.sound_code.specs.Lightings.{Lighting, starts_of, lighting_trails, AreLightings, HasPierces, first_sides, HaveFirstLeadIns}

-- edges that code can cut: the ends of each differ, and lie within the range of places in code
pub record CanBeCut (edges : List Edge) : Type 0 where
  pub ends_in_order : All (λ (e : Edge). IsBefore e.low e.high) edges
  pub within : All (IsEdgeWithin code_range) edges

-- trails that cover the edges, in an order that detaches none before it burns, each behind the first of its tries that is free, if one is
pub record IsLedPlan (edges : List Edge) (names : List Point) (trails : List (List HalfEdge)) (leads : List (Option Point)) : Type 0 where
  pub covers : IsCover edges trails
  pub encloses : IsOrderEnclosing edges (joined trails)
  pub first_leads : AreFirstLeadIns edges names [] (first_sides trails) leads

-- for each trail one lighting
abbrev pub lightings_of : List (Option Point) → List (List HalfEdge) → List Lighting
lightings_of [] trails = []
lightings_of (lead ∷ leads) [] = []
lightings_of (lead ∷ leads) (trail ∷ trails) = record { start = lead; trail = trail } ∷ lightings_of leads trails

-- code that burns such a plan is sound
abbrev pub BurntPlanIsSound : Type 0
BurntPlanIsSound =
    (edges : List Edge) (names : List Point) (trails : List (List HalfEdge)) (leads : List (Option Point)) (bytes : List ℕ) →
    CanBeCut edges → IsLedPlan edges names trails leads → BurnsChains (paths_of leads trails) bytes → IsSoundCode edges names (moves_of bytes)

-- its lightings are those of the trails, in order
abbrev pub BurntPlanHasLightings : Type 0
BurntPlanHasLightings =
    (edges : List Edge) (names : List Point) (trails : List (List HalfEdge)) (leads : List (Option Point)) (bytes : List ℕ) →
    CanBeCut edges → IsLedPlan edges names trails leads → BurnsChains (paths_of leads trails) bytes →
    AreLightings edges (moves_of bytes) (lightings_of leads trails)

-- and each has the first lead-in that is free
abbrev pub PlanHasFirstLeadIns : Type 0
PlanHasFirstLeadIns =
    (edges : List Edge) (names : List Point) (trails : List (List HalfEdge)) (leads : List (Option Point)) →
    IsLedPlan edges names trails leads → HaveFirstLeadIns edges names (lightings_of leads trails)

-- as many of them pierce a component as trails lie in it
abbrev pub PlanHasPierces : Type 0
PlanHasPierces =
    (edges : List Edge) (mark : Point) (trails : List (List HalfEdge)) (leads : List (Option Point)) (n : ℕ) → length leads ≡ length trails →
    HasTrailsIn edges mark trails n → HasPierces edges (lightings_of leads trails) mark n

-- the code of trails and their lead-ins is the text of its own lightings
abbrev pub CodeIsOfItsLightings : Type 0
CodeIsOfItsLightings =
    (trails : List (List HalfEdge)) (leads : List (Option Point)) → length leads ≡ length trails →
    code_text (paths_of leads trails) ≡ code_text (paths_of (starts_of (lightings_of leads trails)) (lighting_trails (lightings_of leads trails)))

-- trails of edges that can be cut can be written, behind lead-ins that start within the range
abbrev pub ChainsCanBeWritten : Type 0
ChainsCanBeWritten =
    (edges : List Edge) (trails : List (List HalfEdge)) (leads : List (Option Point)) → CanBeCut edges → All (IsTrail edges) trails →
    All (λ lead. IfSome lead (IsWithin code_range)) leads → All CanBeWritten (paths_of leads trails)

-- those of a plan do, where the edges lie 4 mm inside the range
abbrev pub FirstLeadInsAreNear : Type 0
FirstLeadInsAreNear =
    (n : ℕ) (edges : List Edge) (names : List Point) (trails : List (List HalfEdge)) (leads : List (Option Point)) → n + 4000 ≤ code_range →
    All (IsEdgeWithin n) edges → IsLedPlan edges names trails leads → All (λ lead. IfSome lead (IsWithin code_range)) leads

-- a free lead-in goes along no edge
abbrev pub LeadInIsOffEdges : Type 0
LeadInIsOffEdges =
    (edges : List Edge) (names : List Point) (earlier : List Lead) (s : HalfEdge) (q : Point) → IsFreeLeadIn edges names earlier s q →
    IsHalfEdge edges (record { from = q; to = s.from }) → ⊥
