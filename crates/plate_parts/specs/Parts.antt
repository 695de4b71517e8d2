-- Which faces are parts: those that a name names. All others are scrap. Names are given by their places, in the order of the file.
use Rattle.std.specs.Prelude.{◌≡◌, ℕ, List, ◌∷◌, ◌++◌, Option, Some, None, All, Contains, length}
use Rattle.nest_base.specs.declared.places.Point.{Point}
use Rattle.nest_base.specs.declared.places.Edge.{Edge}
use Rattle.nest_base.specs.Plane.{rational, IsOn}
use Rattle.plate_sides.specs.Links.{Node, Outer, Sees}
use Rattle.plate_sides.specs.Reach.{SameFace}

-- p lies on some edge
abbrev pub IsOnDrawing : List Edge → Point → Type 0
IsOnDrawing edges p = (e : Edge) × Contains edges e × IsOn (rational p) e.low e.high

-- the face of n is the face at p, a place on no edge: what p sees lies in it
abbrev pub IsFaceAt : List Edge → Point → Node → Type 0
IsFaceAt edges p n = (seen : Node) × Sees edges p seen × SameFace edges seen n

-- the face of n is a part: the face at some name's place
abbrev pub IsNamedPart : List Edge → List Point → Node → Type 0
IsNamedPart edges names n = (p : Point) × Contains names p × IsFaceAt edges p n

abbrev pub IsScrap : List Edge → List Point → Node → Type 0
IsScrap edges names n = IsNamedPart edges names n → ⊥

-- two places have one face
abbrev pub HaveOneFace : List Edge → Point → Point → Type 0
HaveOneFace edges p q = (n : Node) × IsFaceAt edges p n × IsFaceAt edges q n

-- a place on no edge, whose face isn't the outer one
pub record IsWellPlaced (edges : List Edge) (p : Point) : Type 0 where
  pub off_edges : IsOnDrawing edges p → ⊥
  pub inside : IsFaceAt edges p Outer → ⊥

-- no two of these places have one face
abbrev pub AreApart : List Edge → List Point → Type 0
AreApart edges names =
    (before between after : List Point) (p q : Point) → names ≡ before ++ p ∷ (between ++ q ∷ after) → HaveOneFace edges p q → ⊥

-- each name is well placed, and names a face of its own
pub record AreDistinct (edges : List Edge) (names : List Point) : Type 0 where
  pub well_placed : All (IsWellPlaced edges) names
  pub apart : AreApart edges names

-- what is wrong with names, each told by its number from 0
pub data NameFault : Type 0 where
  OnEdge : ℕ → NameFault
  InOuterFace : ℕ → NameFault
  OneFace : ℕ → ℕ → NameFault

-- the first thing that is wrong with the names, or that nothing is: first the first name that isn't well placed; where all are, the first
-- whose face an earlier one has, with that earlier one
pub data IsFirstFault (edges : List Edge) (names : List Point) : Option NameFault → Type 0 where
  on_edge : (before after : List Point) (p : Point) → names ≡ before ++ p ∷ after → All (IsWellPlaced edges) before →
      IsOnDrawing edges p → IsFirstFault edges names (Some (OnEdge (length before)))
  in_outer_face : (before after : List Point) (p : Point) → names ≡ before ++ p ∷ after → All (IsWellPlaced edges) before →
      (IsOnDrawing edges p → ⊥) → IsFaceAt edges p Outer → IsFirstFault edges names (Some (InOuterFace (length before)))
  one_face : (before between after : List Point) (p q : Point) → All (IsWellPlaced edges) names →
      names ≡ before ++ p ∷ (between ++ q ∷ after) → AreApart edges (before ++ p ∷ between) → HaveOneFace edges p q →
      IsFirstFault edges names (Some (OneFace (length before) (length (before ++ p ∷ between))))
  none : AreDistinct edges names → IsFirstFault edges names None
