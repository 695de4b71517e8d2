-- How components lie in one another, and what holds of the half-edges of every drawing.
use Rattle.std.specs.Prelude.{◌≡◌, ◌≢◌, ◌↔◌, ℕ, ◌+◌, ◌<◌, List, [], ◌∷◌, ◌++◌, AllPairs, Contains, Option, Some, None, length, slice_get}
use Rattle.std.specs.List.{AllAdjacentBelow}
use Rattle.nest_base.specs.declared.places.Point.{Point}
use Rattle.nest_base.specs.declared.places.Edge.{Edge}
use Rattle.nest_base.specs.Plane.{HalfEdge}
use Rattle.nest_base.specs.Walks.{Walk}
use Rattle.plate_sides.specs.HalfEdges.{IsHalfEdge, IsNextCcw}
use Rattle.plate_sides.specs.Components.{IsMark, IsIn}
use Rattle.plate_sides.specs.Links.{Node, IsSeen, Sees, SeesNone, IsAlong, IsMarkSide, IsOuterSide}
use Rattle.plate_sides.specs.Reach.{HasEdge}

-- the half-edges that leave a vertex are one cycle, and each half-edge lies in the component of some mark vertex
pub record IsRound (edges : List Edge) : Type 0 where
  pub turn : (r s : HalfEdge) → IsHalfEdge edges r → IsHalfEdge edges s → r.from ≡ s.from → Walk (IsNextCcw edges) s r
  pub marked : (s : HalfEdge) → IsHalfEdge edges s → (mark : Point) × IsMark edges mark × IsIn edges mark s

-- each component has a mark side
abbrev pub HasMarkSides : List Edge → Type 0
HasMarkSides edges = (mark : Point) → IsMark edges mark → (m : HalfEdge) × IsMarkSide edges m × (m.from ≡ mark)

-- no two things are seen from one place
abbrev pub SeesOne : List Edge → Type 0
SeesOne edges = (p : Point) (a b : Node) → Sees edges p a → Sees edges p b → a ≡ b

-- from the mark vertex c an edge of the component with the mark vertex p is seen: c lies in p
abbrev pub IsParent : List Edge → Point → Point → Type 0
IsParent edges c p = (d : HalfEdge) × IsSeen edges c d × IsMark edges p × IsIn edges p d

-- p is c, or c lies in it, or in what lies in it, as deep as may be
pub data IsAround (edges : List Edge) : Point → Point → Type 0 where
  itself : {c : Point} → IsAround edges c c
  outward : {c q p : Point} → IsParent edges c q → IsAround edges q p → IsAround edges c p

-- no edge of this component is burnt
abbrev pub IsWhole : List Edge → Point → List HalfEdge → Type 0
IsWhole edges mark burnt = (s : HalfEdge) → IsIn edges mark s → HasEdge burnt s → ⊥

-- the component with the number c and this mark vertex has no parent exactly where it sees the outside, and else that of what it sees,
-- which has a lesser number
pub record IsParentOf (edges : List Edge) (marks : List Point) (c : ℕ) (mark : Point) (parent : Option ℕ) : Type 0 where
  pub none : (parent ≡ None) ↔ SeesNone edges mark
  pub some : (p : ℕ) → parent ≡ Some p → (outer : Point) × (slice_get marks p ≡ Some outer) × IsParent edges mark outer × (p < c)

-- the parents of all components, by number
pub record AreParents (edges : List Edge) (marks : List Point) (parents : List (Option ℕ)) : Type 0 where
  pub as_many : length parents ≡ length marks
  pub each : (c : ℕ) (mark : Point) (parent : Option ℕ) → slice_get marks c ≡ Some mark → slice_get parents c ≡ Some parent →
      IsParentOf edges marks c mark parent

-- the outer sides of the component with this mark vertex, each once: from the mark side on each goes along to the next, and the last one
-- to the mark side
pub record IsOuterCycle (edges : List Edge) (mark : Point) (cycle : List HalfEdge) : Type 0 where
  pub mark_side : HalfEdge
  pub begins : slice_get cycle 0 ≡ Some mark_side
  pub is_mark_side : IsMarkSide edges mark_side
  pub leaves : mark_side.from ≡ mark
  pub goes_round : AllAdjacentBelow (IsAlong edges) (cycle ++ mark_side ∷ []) (length cycle + 1)
  pub once : AllPairs (λ g h. g ≢ h) cycle
  pub whole : (h : HalfEdge) → IsOuterSide edges mark h → Contains cycle h
