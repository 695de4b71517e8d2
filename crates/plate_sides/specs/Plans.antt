-- Plans that are made component by component, children before the component that they lie in.
use Rattle.std.specs.Prelude.{◌≡◌, List, ◌∷◌, ◌++◌, Contains, All}
use Rattle.nest_base.specs.declared.places.Point.{Point}
use Rattle.nest_base.specs.declared.places.Edge.{Edge}
use Rattle.nest_base.specs.Plane.{HalfEdge}
use Rattle.nest_base.specs.Selection.{HasCount}
use Rattle.plate_sides.specs.HalfEdges.{forth, IsHalfEdgeOf}
use Rattle.plate_sides.specs.Components.{IsMark, IsIn}
use Rattle.plate_sides.specs.Reach.{HasEdge}
use Rattle.plate_sides.specs.Enclosing.{IsEnclosingWithin, IsOrderEnclosing}
use Rattle.plate_sides.specs.Nesting.{IsParent}
use Rattle.plate_sides.specs.Cover.{IsTrail, IsCover, joined}

-- no later edge of the order is an earlier one
abbrev pub HasNoEdgeTwice : List HalfEdge → Type 0
HasNoEdgeTwice order =
    (burnt : List HalfEdge) (s : HalfEdge) (later : List HalfEdge) → order ≡ burnt ++ s ∷ later →
    (t : HalfEdge) → HasEdge (s ∷ later) t → HasEdge burnt t → ⊥

-- an order of edges of one component that encloses within it
pub record IsOrderWithin (edges : List Edge) (mark : Point) (order : List HalfEdge) : Type 0 where
  pub mark_vertex : IsMark edges mark
  pub inside : (s : HalfEdge) → Contains order s → IsIn edges mark s
  pub once : HasNoEdgeTwice order
  pub enclosing : IsEnclosingWithin edges mark order

-- trails that cover one component, in such an order
pub record CoversWithin (edges : List Edge) (mark : Point) (own : List (List HalfEdge)) : Type 0 where
  pub are_trails : All (IsTrail edges) own
  pub each_once : (e : Edge) → Contains edges e → IsIn edges mark (forth e) → HasCount (IsHalfEdgeOf e) (joined own) 1
  pub order : IsOrderWithin edges mark (joined own)

-- what is burnt lies in finished components, named by their mark vertices, and what lies in these is finished
pub record AreFinished (edges : List Edge) (finished : List Point) (burnt : List HalfEdge) : Type 0 where
  pub inside : (s : HalfEdge) → Contains burnt s → (mark : Point) × Contains finished mark × IsMark edges mark × IsIn edges mark s
  pub children : (c p : Point) → IsMark edges c → IsParent edges c p → Contains finished p → Contains finished c

-- the component with the mark vertex c isn't finished, and what lies in it is
pub record IsReady (edges : List Edge) (finished : List Point) (c : Point) : Type 0 where
  pub unfinished : Contains finished c → ⊥
  pub children : (k : Point) → IsMark edges k → IsParent edges k c → Contains finished k

-- the trails so far: those of the finished components
pub record IsPlanFor (edges : List Edge) (finished : List Point) (plan : List (List HalfEdge)) : Type 0 where
  pub are_trails : All (IsTrail edges) plan
  pub each_once : (e : Edge) → Contains edges e → (mark : Point) → Contains finished mark → IsMark edges mark → IsIn edges mark (forth e) →
      HasCount (IsHalfEdgeOf e) (joined plan) 1
  pub finished_only : AreFinished edges finished (joined plan)
  pub enclosing : IsOrderEnclosing edges (joined plan)

-- a cover in whose order no edge is detached before it burns
pub record IsEnclosingCover (edges : List Edge) (trails : List (List HalfEdge)) : Type 0 where
  pub is_cover : IsCover edges trails
  pub enclosing : IsOrderEnclosing edges (joined trails)
