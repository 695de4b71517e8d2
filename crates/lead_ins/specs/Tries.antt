-- How far the tried places may lie from the origin, and from their vertex.
use Rattle.std.specs.Prelude.{ℕ}

-- the widest coordinate of a vertex around which places are tried, in micrometres
abbrev pub lead_range : ℕ
lead_range = 1999000000

-- how far from its vertex a lead-in begins at most, in x and in y
abbrev pub lead_reach : ℕ
lead_reach = 4000
