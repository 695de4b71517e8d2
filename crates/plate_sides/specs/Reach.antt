-- Faces, reach and rank.
use Rattle.std.specs.Prelude.{◌≡◌, ◌⊎◌, ℕ, ◌+◌, ◌≤◌, List, [], Contains}
use Rattle.nest_base.specs.declared.places.Edge.{Edge}
use Rattle.nest_base.specs.Plane.{HalfEdge, twin}
use Rattle.nest_base.specs.Walks.{Walk, here, on, against}
use Rattle.plate_sides.specs.HalfEdges.{IsHalfEdge}
use Rattle.plate_sides.specs.Links.{Node, Outer, At, IsLinked}

-- walks within a face join a and b
abbrev pub SameFace : List Edge → Node → Node → Type 0
SameFace edges a b = Walk (IsLinked edges) b a

-- the edge of s stands in the list, by one of its two half-edges
abbrev pub HasEdge : List HalfEdge → HalfEdge → Type 0
HasEdge burnt s = Contains burnt s ⊎ Contains burnt (twin s)

-- all links, where the burnt edges aren't crossed
pub data IsLinkedOver (edges : List Edge) (burnt : List HalfEdge) : Node → Node → Type 0 where
  within : {a b : Node} → IsLinked edges a b → IsLinkedOver edges burnt a b
  across : {s : HalfEdge} → IsHalfEdge edges s → (HasEdge burnt s → ⊥) → IsLinkedOver edges burnt (At s) (At (twin s))

-- a walk that crosses no burnt edge leads from s to Outer
abbrev pub Reaches : List Edge → List HalfEdge → HalfEdge → Type 0
Reaches edges burnt s = Walk (IsLinkedOver edges burnt) Outer (At s)

abbrev pub crossing : {edges : List Edge} {burnt : List HalfEdge} {a b : Node} → IsLinkedOver edges burnt a b → ℕ
crossing (within link) = 0
crossing (across side unburnt) = 1

-- how many edges a walk crosses
abbrev pub crossings : {edges : List Edge} {burnt : List HalfEdge} {goal a : Node} → Walk (IsLinkedOver edges burnt) goal a → ℕ
crossings here = 0
crossings (on link walk) = crossing link + crossings walk
crossings (against link walk) = crossing link + crossings walk

-- the fewest edges to cross from the face of a to Outer
pub record IsRank (edges : List Edge) (a : Node) (n : ℕ) : Type 0 where
  pub reached : (walk : Walk (IsLinkedOver edges []) Outer a) × (crossings walk ≡ n)
  pub fewest : (walk : Walk (IsLinkedOver edges []) Outer a) → n ≤ crossings walk
