-- What the report says of a drawing, and its text.
use Rattle.std.specs.Prelude.{◌≡◌, ℕ, ◌+◌, List, [], ◌∷◌, ◌++◌, map, flat_map, length, sum, codes, ◌==◌, if◌then◌else◌}
use Rattle.std.specs.List.{AllZip}
use Rattle.std.specs.Fmt.{decimal}
use Rattle.nest_base.specs.declared.places.Point.{Point}
use Rattle.nest_base.specs.declared.places.Edge.{Edge}
use Rattle.nest_base.specs.declared.drawing.Name.{Name}
use Rattle.nest_base.specs.Selection.{HasCount}
use Rattle.plate_sides.specs.Components.{IsIn, AreMarks}
use Rattle.plate_sides.specs.HalfEdges.{forth}
use Rattle.plate_sides.specs.Odd.{AreOddVertices}
use Rattle.plate_sides.specs.Limit.{IsLimit}
use Rattle.plate_sides.specs.Bound.{IsBound}
use Rattle.plate_sides.specs.Links.{Node, Sees}
use Rattle.plate_sides.specs.Reach.{IsRank}
use Rattle.pierce_report.specs.Shown.{shown}

-- the numbers of one component
pub record Row : Type 0 where
  pub edges : ℕ
  pub odd : ℕ
  pub bound : ℕ
  pub limit : ℕ
  pub pierces : ℕ

-- they are those of the component with this mark vertex; of its pierces this says nothing
pub record IsRowOf (edges : List Edge) (mark : Point) (row : Row) : Type 0 where
  pub has_edges : HasCount (λ (e : Edge). IsIn edges mark (forth e)) edges row.edges
  pub has_odd : (odd : List Point) × AreOddVertices edges mark odd × (length odd ≡ row.odd)
  pub has_bound : IsBound edges mark row.bound
  pub has_limit : IsLimit edges mark row.limit

-- a name as the report has it: its text, and the rank of the face in which it lies
pub record PartRow : Type 0 where
  pub text : List ℕ
  pub rank : ℕ

-- the row of a name: its own text, and the fewest edges to be crossed from what is seen from it to the outside
pub record IsPartRowOf (edges : List Edge) (name : Name) (row : PartRow) : Type 0 where
  pub own_text : row.text ≡ name.text
  pub seen : Node
  pub sees : Sees edges name.at seen
  pub is_rank : IsRank edges seen row.rank

abbrev pub total_pierces : List Row → ℕ
total_pierces rows = sum (map (λ (r : Row). r.pierces) rows)

abbrev pub total_bound : List Row → ℕ
total_bound rows = sum (map (λ (r : Row). r.bound) rows)

abbrev pub row_text : ℕ → Row → List ℕ
row_text number r =
    codes "component " ++ decimal number ++ codes " edges " ++ decimal r.edges ++ codes " odd " ++ decimal r.odd ++
    codes " bound " ++ decimal r.bound ++ codes " limit " ++ decimal r.limit ++ codes " pierces " ++ decimal r.pierces ++ 10 ∷ []

-- the lines of the components, numbered from n on
abbrev pub rows_text : ℕ → List Row → List ℕ
rows_text n [] = []
rows_text n (r ∷ rows) = row_text n r ++ rows_text (n + 1) rows

abbrev pub part_text : PartRow → List ℕ
part_text p = codes "part " ++ shown p.text ++ codes " rank " ++ decimal p.rank ++ 10 ∷ []

abbrev pub report_text : List Row → List PartRow → List ℕ
report_text rows parts =
    rows_text 1 rows ++ flat_map part_text parts ++
    codes "total pierces " ++ decimal (total_pierces rows) ++ codes " bound " ++ decimal (total_bound rows) ++ 10 ∷ [] ++
    (if total_pierces rows == total_bound rows then codes "fewest" else codes "not shown fewest") ++ 10 ∷ []

-- text is the report on the drawing with these names, where `IsPierces mark n` says that n pierces are spent on a component
pub record IsReport (edges : List Edge) (names : List Name) (IsPierces : Point → ℕ → Type 0) (text : List ℕ) : Type 0 where
  pub marks : List Point
  pub are_marks : AreMarks edges marks
  pub rows : List Row
  pub are_rows : AllZip (λ mark (r : Row). IsRowOf edges mark r × IsPierces mark r.pierces) marks rows
  pub parts : List PartRow
  pub are_parts : AllZip (IsPartRowOf edges) names parts
  pub is_text : text ≡ report_text rows parts
