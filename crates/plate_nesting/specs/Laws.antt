-- What holds of components that lie in one another, and of plans made component by component.
use Rattle.std.specs.Prelude.{◌≡◌, ℕ, pos, ◌<ℤ◌, List, [], ◌∷◌, ◌++◌, length, Contains, All, AllPairs}
use Rattle.nest_base.specs.declared.places.Point.{Point}
use Rattle.nest_base.specs.declared.places.Edge.{Edge}
use Rattle.nest_base.specs.Plane.{HalfEdge}
use Rattle.nest_base.specs.Order.{IsBefore}
use Rattle.nest_base.specs.Sight.{IsNearer, fall}
use Rattle.plate_edges.specs.Points.{EdgesMeetAtEndsOnly}
use Rattle.plate_sides.specs.Components.{IsMark, IsIn, AreMarks}
use Rattle.plate_sides.specs.Links.{Node, Sees, IsAlong, IsMarkSide, IsOuterSide}
use Rattle.plate_sides.specs.Enclosing.{IsOrderEnclosing}
use Rattle.plate_sides.specs.Nesting.{IsRound, HasMarkSides, SeesOne, IsParent, IsAround, IsWhole}
use Rattle.plate_sides.specs.Reach.{Reaches}
use Rattle.plate_sides.specs.Cover.{HasTrailsIn}
use Rattle.plate_sides.specs.Plans.{IsOrderWithin, AreFinished, IsReady, CoversWithin, IsPlanFor, IsEnclosingCover}

-- from each place something is seen
abbrev pub SomethingIsSeen : Type 0
SomethingIsSeen = (edges : List Edge) (p : Point) → (n : Node) × Sees edges p n

-- where edges meet at ends only, no two things are seen from one place
abbrev pub OneIsSeen : Type 0
OneIsSeen = (edges : List Edge) → AllPairs EdgesMeetAtEndsOnly edges → SeesOne edges

-- of half-edges that go down, what is nearer than a nearer one is nearer
abbrev pub NearerIsInOrder : Type 0
NearerIsInOrder =
    (p : Point) (d e f : HalfEdge) → pos 0 <ℤ fall d → pos 0 <ℤ fall e → pos 0 <ℤ fall f →
    IsNearer p d e → IsNearer p e f → IsNearer p d f

-- a component lies in one whose mark vertex lies further west
abbrev pub ParentsLieWest : Type 0
ParentsLieWest = (edges : List Edge) (c p : Point) → IsParent edges c p → p.x <ℤ c.x

-- where edges meet at ends only, a half-edge leads along to one half-edge
abbrev pub AlongIsOne : Type 0
AlongIsOne =
    (edges : List Edge) → All (λ (e : Edge). IsBefore e.low e.high) edges → AllPairs EdgesMeetAtEndsOnly edges →
    (s t u : HalfEdge) → IsAlong edges s t → IsAlong edges s u → t ≡ u

-- and one leads along to it
abbrev pub AlongIsOfOne : Type 0
AlongIsOfOne =
    (edges : List Edge) → All (λ (e : Edge). IsBefore e.low e.high) edges → AllPairs EdgesMeetAtEndsOnly edges →
    (s t u : HalfEdge) → IsAlong edges s u → IsAlong edges t u → s ≡ t

-- and a mark vertex has one mark side
abbrev pub MarkSideIsOne : Type 0
MarkSideIsOne =
    (edges : List Edge) → All (λ (e : Edge). IsBefore e.low e.high) edges → AllPairs EdgesMeetAtEndsOnly edges →
    (m n : HalfEdge) → IsMarkSide edges m → IsMarkSide edges n → m.from ≡ n.from → m ≡ n

-- a component has one mark vertex
abbrev pub OneMark : Type 0
OneMark = (edges : List Edge) (p q : Point) (h : HalfEdge) → IsMark edges p → IsMark edges q → IsIn edges p h → IsIn edges q h → p ≡ q

-- while a component and all around it are unburnt, its outer sides reach the outside
abbrev pub WholeComponentsReach : Type 0
WholeComponentsReach =
    (edges : List Edge) (marks : List Point) (burnt : List HalfEdge) (mark : Point) → AreMarks edges marks → IsRound edges → HasMarkSides edges →
    IsMark edges mark → ((p : Point) → IsAround edges mark p → IsWhole edges p burnt) → (s : HalfEdge) → IsOuterSide edges mark s → Reaches edges burnt s

-- after finished components a ready one is burnt in an order that encloses
abbrev pub ReadyOrdersEnclose : Type 0
ReadyOrdersEnclose =
    (edges : List Edge) (marks finished : List Point) (done own : List HalfEdge) (c : Point) → AreMarks edges marks → IsRound edges → HasMarkSides edges →
    AreFinished edges finished done → IsOrderWithin edges c own → IsReady edges finished c → IsOrderEnclosing edges done → IsOrderEnclosing edges (done ++ own)

-- and is finished then
abbrev pub FinishedNext : Type 0
FinishedNext =
    (edges : List Edge) (finished : List Point) (done own : List HalfEdge) (c : Point) →
    AreFinished edges finished done → IsOrderWithin edges c own → IsReady edges finished c → AreFinished edges (c ∷ finished) (done ++ own)

-- a plan begins with no component
abbrev pub NoPlan : Type 0
NoPlan = (edges : List Edge) → IsPlanFor edges [] []

-- and grows by the trails of a ready one
abbrev pub PlanNext : Type 0
PlanNext =
    (edges : List Edge) (marks finished : List Point) (plan own : List (List HalfEdge)) (c : Point) → AreMarks edges marks → IsRound edges → HasMarkSides edges →
    IsPlanFor edges finished plan → CoversWithin edges c own → IsReady edges finished c → IsPlanFor edges (c ∷ finished) (plan ++ own)

-- this has the trails that it brings, and no others
abbrev pub TrailsOfNext : Type 0
TrailsOfNext =
    (edges : List Edge) (finished : List Point) (plan own : List (List HalfEdge)) (c : Point) →
    IsPlanFor edges finished plan → CoversWithin edges c own → IsReady edges finished c →
    All (All (IsIn edges c)) own → HasTrailsIn edges c (plan ++ own) (length own)

-- and a finished one has as many as before
abbrev pub TrailsStay : Type 0
TrailsStay =
    (edges : List Edge) (finished : List Point) (plan own : List (List HalfEdge)) (c mark : Point) (n : ℕ) →
    IsPlanFor edges finished plan → CoversWithin edges c own → IsReady edges finished c →
    IsMark edges mark → Contains finished mark → HasTrailsIn edges mark plan n → HasTrailsIn edges mark (plan ++ own) n

-- when all components are finished the plan is an enclosing cover
abbrev pub PlanCovers : Type 0
PlanCovers =
    (edges : List Edge) (finished : List Point) (plan : List (List HalfEdge)) → IsRound edges → IsPlanFor edges finished plan →
    ((mark : Point) → IsMark edges mark → Contains finished mark) → IsEnclosingCover edges plan
