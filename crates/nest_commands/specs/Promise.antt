-- The promise of `run` for a drawing that it plans.
use Rattle.std.specs.Prelude.{◌≡◌, ℕ, ◌≤◌, List, ◌++◌, codes}
use Rattle.nest_base.specs.declared.places.Point.{Point}
use Rattle.nest_base.specs.declared.places.Segment.{Segment}
use Rattle.nest_base.specs.declared.places.Edge.{Edge}
use Rattle.nest_base.specs.declared.drawing.Name.{Name}
use Rattle.plate_edges.specs.Edges.{AreEdgesOf}
use Rattle.plate_sides.specs.Components.{IsMark}
use Rattle.plate_sides.specs.Limit.{IsLimit}
use Rattle.plate_sides.specs.Odd.{IsOdd}
use Rattle.plate_sides.specs.Bound.{NoCoverUndercuts, NoCoverUndercutsSum}
use Rattle.part_scrap.specs.Naming.{places_of}
use Rattle.pierce_report.specs.Report.{IsReport}
use Rattle.code_moves.specs.declared.moves.Move.{Move}
use Rattle.sound_code.specs.Sound.{IsSoundCode}
use Rattle.sound_code.specs.Lightings.{Lighting, AreLightings, HaveFirstLeadIns, HasPierces}

-- the segments and names are those of the drawing that was read, the moves those of the code that was written, and the report is what was printed
pub record IsOrderEnclosingPlan (segments : List Segment) (names : List Name) (moves : List Move) (report : List ℕ) : Type 0 where
  pub edges : List Edge
  pub are_edges : AreEdgesOf segments edges
  pub sound : IsSoundCode edges (places_of names) moves
  pub lightings : List Lighting
  pub are_lightings : AreLightings edges moves lightings
  pub first_lead_ins : HaveFirstLeadIns edges (places_of names) lightings
  pub within_limits : (mark : Point) → IsMark edges mark → (limit : ℕ) × (n : ℕ) × IsLimit edges mark limit × HasPierces edges lightings mark n × (n ≤ limit)
  pub reported : IsReport edges names (HasPierces edges lightings) report
  pub no_cover_undercuts : (mark : Point) → IsMark edges mark → NoCoverUndercuts edges mark
  pub no_cover_undercuts_sum : NoCoverUndercutsSum edges

-- no vertex of these edges is odd
abbrev pub AreEven : List Edge → Type 0
AreEven edges = (v : Point) → IsOdd edges v → ⊥

-- the last line of the report says that the pierces are the fewest
abbrev pub SaysFewest : List ℕ → Type 0
SaysFewest report = (front : List ℕ) × (report ≡ front ++ codes "\nfewest\n")

-- where no vertex is odd, each component takes one pierce, and the report says that these are the fewest
abbrev pub IsFewestWhereEven : List Edge → List Lighting → List ℕ → Type 0
IsFewestWhereEven edges lightings report =
    AreEven edges → ((mark : Point) → IsMark edges mark → HasPierces edges lightings mark 1) × SaysFewest report
