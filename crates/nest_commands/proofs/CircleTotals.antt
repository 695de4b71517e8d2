-- The pierces that a report tells in all are as many as the lightings.
use Rattle.std.proofs.Common.{◌≡◌, ℕ, List, [], ◌∷◌, length, map, ◌∙◌}
use Rattle.std.specs.Prelude.{sum}
use Rattle.std.specs.List.{AllZip, AllByRecursion}
use Rattle.std.proofs.lemmas.List.{length-map}
use Rattle.std.proofs.lemmas.List.Elements.{All-from_recursion}
use Rattle.nest_base.specs.declared.places.Point.{Point}
use Rattle.nest_base.specs.declared.places.Edge.{Edge}
use Rattle.nest_base.specs.declared.drawing.Name.{Name}
use Rattle.plate_sides.specs.Cover.{IsTrail, HasTrailsIn}
use Rattle.plate_plans.proofs.TrailCounts.{counts_sum}
use Rattle.pierce_report.specs.Report.{Row, IsRowOf, IsReport, total_pierces}
use Rattle.pierce_report.proofs.RowLists.{length_zip}
use Rattle.code_moves.specs.declared.moves.Move.{Move}
use Rattle.sound_code.specs.Lightings.{Lighting, IsLighting, on_line, led_in, lighting_trails, HasPierces}
use Rattle.nest_commands.proofs.CircleMarks.{marked}

-- each lighting is a trail
are_trails : (edges : List Edge) (parts : List (List Move)) (lightings : List Lighting) → AllZip (IsLighting edges) parts lightings →
    AllByRecursion (IsTrail edges) (lighting_trails lightings)
are_trails edges [] [] zip = tt
are_trails edges [] (lighting ∷ lightings) zip = absurd zip
are_trails edges (part ∷ parts) [] zip = absurd zip
are_trails edges (part ∷ parts) (lighting ∷ lightings) zip = (is_trail zip.0, are_trails edges parts lightings zip.1)
  where
    is_trail : {moves : List Move} {one : Lighting} → IsLighting edges moves one → IsTrail edges one.trail
    is_trail (on_line is) = is
    is_trail (led_in off is) = is

-- what the rows tell of pierces
rows_count : (edges : List Edge) (lightings : List Lighting) (some : List Point) (rows : List Row) →
    AllZip (λ mark (r : Row). IsRowOf edges mark r × HasPierces edges lightings mark r.pierces) some rows →
    AllZip (λ mark n. HasTrailsIn edges mark (lighting_trails lightings) n) some (map (λ (r : Row). r.pierces) rows)
rows_count edges lightings [] [] zip = tt
rows_count edges lightings [] (row ∷ rows) zip = absurd zip
rows_count edges lightings (mark ∷ some) [] zip = absurd zip
rows_count edges lightings (mark ∷ some) (row ∷ rows) zip = (zip.0.1, rows_count edges lightings some rows zip.1)

-- the sum of the rows is the number of lightings
pub sum_is_lightings : (edges : List Edge) (names : List Name) (parts : List (List Move)) (lightings : List Lighting) (report : List ℕ) →
    (reported : IsReport edges names (HasPierces edges lightings) report) → AllZip (IsLighting edges) parts lightings →
    total_pierces reported.rows ≡ length parts
sum_is_lightings edges names parts lightings report reported are =
    let trails = lighting_trails lightings in
    let pierces = map (λ (r : Row). r.pierces) reported.rows in
    let sum_is : sum pierces ≡ length trails =
    counts_sum (marked edges reported) reported.are_marks trails pierces (All-from_recursion (IsTrail edges) trails (are_trails edges parts lightings are))
    (rows_count edges lightings reported.marks reported.rows reported.are_rows) in
    sum_is ∙ length-map lightings (λ (l : Lighting). l.trail) ∙ length_zip (IsLighting edges) parts lightings are
