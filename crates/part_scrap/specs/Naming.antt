-- Which face each name names, and which name each face has, by number.
use Rattle.std.specs.Prelude.{◌≡◌, ◌↔◌, ℕ, List, Option, Some, None, length, map, slice_get, slice_index}
use Rattle.std.specs.List.{AllZip}
use Rattle.nest_base.specs.declared.places.Point.{Point}
use Rattle.nest_base.specs.declared.places.Edge.{Edge}
use Rattle.nest_base.specs.declared.drawing.Name.{Name}
use Rattle.nest_base.specs.Plane.{HalfEdge}
use Rattle.plate_sides.specs.Links.{At}
use Rattle.plate_parts.specs.Parts.{IsScrap}
use Rattle.half_edges.specs.Numbers.{IsSide}
use Rattle.face_nesting.specs.Nesting.{Nesting}
use Rattle.face_nesting.specs.Places.{IsFaceNumberAt}

pub record Naming : Type 0 where
  -- by number of a name: the number of the face that it names
  pub faces : List ℕ
  -- by number of a face: that of the name that names it, or none where it's scrap
  pub names : List (Option ℕ)

-- where names lie, and the lines of the file that they come from
abbrev pub places_of : List Name → List Point
places_of names = map (λ (n : Name). n.at) names

abbrev pub file_lines_of : List Name → List ℕ
file_lines_of names = map (λ (n : Name). n.line) names

-- at each of these places is the face with the number in the same place of the list
abbrev pub AreFacesAt : List Edge → List ℕ → List Point → List ℕ → Type 0
AreFacesAt edges faces places named = AllZip (IsFaceNumberAt edges faces) places named

-- of so many faces each has the name that names it, and no other
pub record AreNamesOf (count : ℕ) (named : List ℕ) (names : List (Option ℕ)) : Type 0 where
  pub as_many : length names ≡ count
  pub told : (f i : ℕ) → (slice_get names f ≡ Some (Some i)) ↔ (slice_get named i ≡ Some f)

-- what the names at these places name
pub record IsNaming (edges : List Edge) (nesting : Nesting) (places : List Point) (naming : Naming) : Type 0 where
  pub faces_at : AreFacesAt edges nesting.faces places naming.faces
  pub names_of : AreNamesOf nesting.count naming.faces naming.names

-- the face of a half-edge has no name exactly where it is scrap
abbrev pub TellsScrap : List Edge → List Point → List ℕ → List (Option ℕ) → Type 0
TellsScrap edges places faces names =
    (s : ℕ) (h : HalfEdge) → IsSide edges s h → (slice_get names (slice_index faces s) ≡ Some None) ↔ IsScrap edges places (At h)
