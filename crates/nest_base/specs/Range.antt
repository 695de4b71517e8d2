-- How far from the origin places lie.
use Rattle.std.specs.Prelude.{ℕ, ℤ, pos, neg_ℤ, ◌≤ℤ◌}
use Rattle.nest_base.specs.declared.places.Point.{Point}
use Rattle.nest_base.specs.declared.places.Segment.{Segment}
use Rattle.nest_base.specs.declared.places.Edge.{Edge}

-- the widest coordinate that exact predicates take, in micrometres: no product of theirs is too large
abbrev pub widest : ℕ
widest = 2000000000

-- the widest coordinate of a drawing
abbrev pub range : ℕ
range = 100000000

-- a coordinate lies within plus and minus n
abbrev pub IsNear : ℕ → ℤ → Type 0
IsNear n z = (neg_ℤ (pos n) ≤ℤ z) × (z ≤ℤ pos n)

-- both coordinates lie within plus and minus n
pub record IsWithin (n : ℕ) (p : Point) : Type 0 where
  pub x : IsNear n p.x
  pub y : IsNear n p.y

-- both ends do
pub record IsSegmentWithin (n : ℕ) (s : Segment) : Type 0 where
  pub a : IsWithin n s.a
  pub b : IsWithin n s.b

pub record IsEdgeWithin (n : ℕ) (e : Edge) : Type 0 where
  pub low : IsWithin n e.low
  pub high : IsWithin n e.high
