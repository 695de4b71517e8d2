-- Words of the worked examples.
use Rattle.std.specs.Prelude.{ℕ, pos, List, [], ◌∷◌}
use Rattle.nest_base.specs.declared.places.Point.{Point}
use Rattle.nest_base.specs.declared.places.Segment.{Segment}
use Rattle.nest_base.specs.declared.places.Edge.{Edge}

abbrev pub place : ℕ → ℕ → Point
place x y = record { x = pos x; y = pos y }

-- from the place x, y to the place u, v
abbrev pub segment_of : ℕ → ℕ → ℕ → ℕ → Segment
segment_of x y u v = record { a = place x y; b = place u v; line = 1 }

abbrev pub edge : ℕ → ℕ → ℕ → ℕ → Edge
edge x y u v = record { low = place x y; high = place u v }

-- two segments that overlap by a third of each
abbrev pub lower : Segment
lower = segment_of 0 0 6000 0

abbrev pub upper : Segment
upper = segment_of 4000 0 10000 0

abbrev pub overlapping : List Segment
overlapping = lower ∷ upper ∷ []
