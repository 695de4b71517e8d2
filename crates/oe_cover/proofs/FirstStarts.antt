-- The start of a component is a half-edge of its outer cycle at which its cover may start.
use Rattle.std.proofs.Common.{◌≡◌, ◌<◌, inl, inr, ℕ, List, length}
use Rattle.std.specs.Prelude.{Contains, Option, None, Some, slice_get}
use Rattle.std.specs.Option.{unwrap_or}
use Rattle.std.proofs.lemmas.Option.{slice_get_within}
use Rattle.nest_base.specs.declared.places.Point.{Point}
use Rattle.nest_base.specs.declared.numbers.Side.{Side}
use Rattle.nest_base.specs.Plane.{HalfEdge}
use Rattle.plate_sides.specs.Starts.{IsStart}
use Rattle.half_edges.specs.Numbers.{half_edges_of, IsSide}
use Rattle.half_edges.specs.Graph.{Graph}
use Rattle.half_edges.specs.PlaneGraphs.{IsPlaneGraph}
use Rattle.nest_base.proofs.ListReads.{read_below, read_from_Contains, Contains-from_read}
use Rattle.face_nesting.specs.Nesting.{Nesting, AreOuterCycles, cycle_at}
use Rattle.face_nesting.proofs.Zips.{zip_second}
use Rattle.cover_plan.proofs.StartNumbers.{starts_are_told}
use Rattle.oe_cover.specs.Starts.{FirstOddIs, IsFirstStart, IsLawfulStart}

pub cycle_below : (graph : Graph) (faces : Nesting) (c s : ℕ) → AreOuterCycles graph faces → c < length graph.marks → Contains (cycle_at faces c) s →
    s < length (half_edges_of graph.edges)
cycle_below graph faces c s cycles within stands =
    let mark = read_below graph.marks c within in
    let outer = cycles c mark.0 mark.1 in
    let at = read_from_Contains (cycle_at faces c) s stands in
    let h = zip_second (IsSide graph.edges) (cycle_at faces c) outer.0 at.0 s outer.1 at.1 in
    slice_get_within (half_edges_of graph.edges) s h.0 h.2

pub start_is : (graph : Graph) (faces : Nesting) (c : ℕ) (first : Option Side) (mark_side : Side) → FirstOddIs graph (cycle_at faces c) first →
    slice_get (cycle_at faces c) 0 ≡ Some mark_side.0 → IsFirstStart graph (cycle_at faces c) (unwrap_or first mark_side).0
start_is graph faces c None mark_side none at = inr (none, at)
start_is graph faces c (Some s) mark_side is at = inl is

pub start_is_lawful : (graph : Graph) (cycle : List ℕ) (s : ℕ) → IsFirstStart graph cycle s → IsLawfulStart graph cycle s
start_is_lawful graph cycle s (inl is) = record { stands = Contains-from_read cycle is.place s is.stands; odd = λ t stands odd. is.odd }
start_is_lawful graph cycle s (inr (none, first)) = record { stands = Contains-from_read cycle 0 s first; odd = λ t stands odd. absurd (none t stands odd) }

-- so on the plate the cover may start there
pub may_start : (graph : Graph) (faces : Nesting) (c s : ℕ) (mark : Point) (h : HalfEdge) → IsPlaneGraph graph → AreOuterCycles graph faces →
    slice_get graph.marks c ≡ Some mark → IsSide graph.edges s h → IsLawfulStart graph (cycle_at faces c) s → IsStart graph.edges mark h
may_start graph faces c s mark h plane cycles at side is = (starts_are_told graph faces plane cycles c mark at s h side).1 (is.stands, is.odd)
