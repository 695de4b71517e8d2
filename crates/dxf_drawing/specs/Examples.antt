-- Drawings for worked examples, written as their lines.
use Rattle.std.specs.Prelude.{◌≡◌, ℕ, List, ◌++◌, map, None, pos, codes}
use Rattle.nest_base.specs.declared.places.Segment.{Segment}
use Rattle.dxf_drawing.specs.Drawings.{segments_of, read_refusal_of}

-- a file whose one section holds these entities; the first of them has its name on line 6
abbrev pub in_section : List ℕ → List ℕ
in_section entities = codes "0\nSECTION\n2\nENTITIES\n" ++ entities ++ codes "0\nENDSEC\n0\nEOF\n"

-- the right, the upper and the left line of a square of 10 millimetres
abbrev pub three_lines : List ℕ
three_lines =
    codes "0\nLINE\n8\n0\n10\n10.0\n20\n0.0\n11\n10.0\n21\n10.0\n0\nLINE\n8\n0\n10\n10.0\n20\n10.0\n11\n0.0\n21\n10.0\n"
    ++ codes "0\nLINE\n8\n0\n10\n0.0\n20\n10.0\n11\n0.0\n21\n0.0\n"

-- the whole square, from its lower line on
abbrev pub square_lines : List ℕ
square_lines = codes "0\nLINE\n8\n0\n10\n0.0\n20\n0.0\n11\n10.0\n21\n0.0\n" ++ three_lines

-- the segment from (x, y) to (u, v), in micrometres, of the entity on this line
abbrev pub drawn : ℕ → ℕ → ℕ → ℕ → ℕ → Segment
drawn x y u v line = record { a = record { x = pos x; y = pos y }; b = record { x = pos u; y = pos v }; line = line }

-- the file isn't refused, and has these segments
abbrev pub HasSegments : List ℕ → List Segment → Type 0
HasSegments file segments = (read_refusal_of file ≡ None) × (segments_of file ≡ segments)

-- the file isn't refused, and its segments come from the entities on these lines
abbrev pub HasSegmentLines : List ℕ → List ℕ → Type 0
HasSegmentLines file lines = (read_refusal_of file ≡ None) × (map (λ (s : Segment). s.line) (segments_of file) ≡ lines)
