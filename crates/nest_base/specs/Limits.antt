-- How large a drawing and its graph may be.
use Rattle.std.specs.Prelude.{ℕ, ◌^◌}

-- the most bytes of a file
abbrev pub most_bytes : ℕ
most_bytes = 2 ^ 26

-- the most segments of a drawing, and the most names
abbrev pub most_segments : ℕ
most_segments = 20000

abbrev pub most_names : ℕ
most_names = 5000

-- the most edges of a graph: a drawing with more pieces is refused
abbrev pub most_edges : ℕ
most_edges = 2000000

abbrev pub most_half_edges : ℕ
most_half_edges = 4000000
