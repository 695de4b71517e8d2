-- Which drawings are planned, and what they give.
use Rattle.std.specs.Prelude.{◌≡◌, ℕ, List, [], Option, None}
use Rattle.nest_base.specs.declared.places.Point.{Point}
use Rattle.nest_base.specs.declared.places.Edge.{Edge}
use Rattle.nest_base.specs.Plane.{HalfEdge}
use Rattle.code_moves.specs.CodeText.{code_text}
use Rattle.code_moves.specs.Meaning.{code_refusal_of, moves_of}
use Rattle.dxf_drawing.specs.Drawings.{segments_of, names_of, read_refusal_of}
use Rattle.segment_split.specs.Splits.{IsSplit}
use Rattle.plate_sides.specs.Components.{AreMarks}
use Rattle.plate_sides.specs.Nesting.{AreParents}
use Rattle.plate_sides.specs.Paths.{paths_of}
use Rattle.plate_nesting.specs.Order.{IsBurningOrder}
use Rattle.plate_plans.specs.Plans.{AreComponentCovers, all_trails}
use Rattle.plate_parts.specs.Parts.{AreDistinct}
use Rattle.plate_parts.specs.LeadIns.{AreFirstLeadIns}
use Rattle.part_scrap.specs.Naming.{places_of}
use Rattle.sound_code.specs.Lightings.{first_sides, starts_of, lighting_trails}
use Rattle.oe_cover.specs.Ends.{EndAtFirstStarts}
use Rattle.nest_commands.specs.Promise.{IsOrderEnclosingPlan, IsFewestWhereEven}

-- the bytes are a drawing whose segments are read and split, and these are its edges
pub record AreCutsOf (file : List ℕ) (edges : List Edge) : Type 0 where
  pub read : read_refusal_of file ≡ None
  pub split : IsSplit (segments_of file) edges

-- and each of its names names a part of its own
pub record IsDrawingOf (file : List ℕ) (edges : List Edge) : Type 0 where
  pub cuts : AreCutsOf file edges
  pub named : AreDistinct edges (places_of (names_of file))

-- there is no reason to refuse it
abbrev pub IsAccepted : List ℕ → Type 0
IsAccepted file = (edges : List Edge) × IsDrawingOf file edges

-- the code and the report of an accepted drawing: the code is that of trails, cover by cover of the components in burning order, and each
-- cover ends at the first of the vertices at which a cover of its component may start; each trail is led in from the first place that is free, if
-- there is one; read as motion the code has no fault and keeps the promise, and it is the text of what it then is said to burn
pub record IsOutput (file code report : List ℕ) : Type 0 where
  pub edges : List Edge
  pub drawing : IsDrawingOf file edges
  pub marks : List Point
  pub are_marks : AreMarks edges marks
  pub parents : List (Option ℕ)
  pub are_parents : AreParents edges marks parents
  pub order : List ℕ
  pub is_order : IsBurningOrder parents order
  pub component_covers : List (List (List HalfEdge))
  pub are_component_covers : AreComponentCovers edges marks order component_covers
  pub ends : EndAtFirstStarts edges marks order component_covers
  pub leads : List (Option Point)
  pub are_first : AreFirstLeadIns edges (places_of (names_of file)) [] (first_sides (all_trails component_covers)) leads
  pub code_is : code ≡ code_text (paths_of leads (all_trails component_covers))
  pub has_no_fault : code_refusal_of code ≡ None
  pub promise : IsOrderEnclosingPlan (segments_of file) (names_of file) (moves_of code) report
  pub is_text : code ≡ code_text (paths_of (starts_of promise.lightings) (lighting_trails promise.lightings))
  pub even : IsFewestWhereEven promise.edges promise.lightings report
