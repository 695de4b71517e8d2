-- The lines of a chain are those of its lighting and of its half-edges.
use Rattle.std.proofs.Common.{arith, ◌≡◌, ◌<◌, ℕ, List, [], ◌∷◌, ◌++◌, length, get_or, map, codes, flat_map, refl, ap, sym, ◌∙◌, append_assoc}
use Rattle.std.specs.Prelude.{Option, None, Some}
use Rattle.nest_base.specs.declared.numbers.Side.{Side}
use Rattle.nest_base.specs.declared.places.Point.{Point}
use Rattle.nest_base.specs.Plane.{HalfEdge}
use Rattle.plate_sides.specs.Paths.{path_from}
use Rattle.nest_base.specs.NumberLists.{side_numbers}
use Rattle.code_moves.specs.CodeText.{motion_text, chain_text}
use Rattle.ngc_writer.specs.Lightings.{lighting_text}

module _ (half : ℕ → HalfEdge) where
  -- the lines along the half-edges of a chain
  burns : (chain : List Side) → flat_map (motion_text (codes "G1")) (map (λ (h : HalfEdge). h.to) (map half (side_numbers chain))) ≡ flat_map (λ (s : Side). motion_text (codes "G1") (half s.0).to) chain
  burns [] = refl
  burns (s ∷ chain) = ap (λ l. motion_text (codes "G1") (half s.0).to ++ l) (burns chain)

  -- the lines of a lead-in belong to the lighting
  framed : (start lead burnt : List ℕ) → start ++ codes "M3\n" ++ (lead ++ burnt) ++ codes "M5\n" ≡ (start ++ codes "M3\n" ++ lead) ++ burnt ++ codes "M5\n"
  framed start lead burnt = simp append_assoc

  pub chain_lines : (lead : Option Point) (first : Side) (chain : List Side) →
      chain_text (path_from lead (map half (side_numbers (first ∷ chain))))
      ≡ lighting_text lead (half first.0).from ++ flat_map (λ (s : Side). motion_text (codes "G1") (half s.0).to) (first ∷ chain) ++ codes "M5\n"
  chain_lines None first chain =
      let start : List ℕ = motion_text (codes "G0") (half first.0).from in
      ap (λ l. start ++ codes "M3\n" ++ l ++ codes "M5\n") (burns (first ∷ chain))
      ∙ framed start [] (flat_map (λ (s : Side). motion_text (codes "G1") (half s.0).to) (first ∷ chain))
  chain_lines (Some q) first chain =
      let start : List ℕ = motion_text (codes "G0") q in
      let lead : List ℕ = motion_text (codes "G1") (half first.0).from in
      ap (λ l. start ++ codes "M3\n" ++ (lead ++ l) ++ codes "M5\n") (burns (first ∷ chain))
      ∙ framed start lead (flat_map (λ (s : Side). motion_text (codes "G1") (half s.0).to) (first ∷ chain))

  gathered : (before lit burnt : List ℕ) → ((before ++ lit) ++ burnt) ++ codes "M5\n" ≡ before ++ (lit ++ burnt ++ codes "M5\n")
  gathered before lit burnt = simp append_assoc

  -- one after the other they are those of the chain
  pub chain_written : (lead : Option Point) (chain : List Side) (d : Side) (p : Point) (before lit burnt : List ℕ) → 0 < length chain → p ≡ (half (get_or chain 0 d).0).from →
      lit ≡ before ++ lighting_text lead p → burnt ≡ lit ++ flat_map (λ (s : Side). motion_text (codes "G1") (half s.0).to) chain →
      burnt ++ codes "M5\n" ≡ before ++ chain_text (path_from lead (map half (side_numbers chain)))
  chain_written lead [] d p before lit burnt some at is_lit is_burnt = absurd (omega (arith, some))
  chain_written lead (first ∷ chain) d p before lit burnt some at is_lit is_burnt =
      let lines : List ℕ = flat_map (λ (s : Side). motion_text (codes "G1") (half s.0).to) (first ∷ chain) in
      ap (λ l. l ++ codes "M5\n") (is_burnt ∙ ap (λ l. l ++ lines) (is_lit ∙ ap (λ (q : Point). before ++ lighting_text lead q) at))
      ∙ gathered before (lighting_text lead (half first.0).from) lines
      ∙ ap (λ l. before ++ l) (sym (chain_lines lead first chain))
