-- How places lie of a line: to its left, to its right or on it; and which segments a line parts.
use Rattle.std.specs.Prelude.{ℤ, pos, ◌<ℤ◌, ◌⊎◌}
use Rattle.nest_base.specs.declared.places.Point.{Point}
use Rattle.nest_base.specs.declared.places.Segment.{Segment}
use Rattle.nest_base.specs.Plane.{cross_product, direction}

-- the orientation of q to the line from a to b: positive to its left, negative to its right, 0 on it
abbrev pub orientation : Point → Point → Point → ℤ
orientation a b q = cross_product (direction a b) (direction a q)

-- a and b both lie strictly above m, or both strictly below it
abbrev pub LieBeyond : ℤ → ℤ → ℤ → Type 0
LieBeyond m a b = ((m <ℤ a) × (m <ℤ b)) ⊎ ((a <ℤ m) × (b <ℤ m))

-- each of a and b is less than each of c and d
abbrev pub AreBefore : ℤ → ℤ → ℤ → ℤ → Type 0
AreBefore a b c d = (a <ℤ c) × (a <ℤ d) × (b <ℤ c) × (b <ℤ d)

-- both places c and d lie strictly in one half-plane of the line from a to b
abbrev pub LieAside : Point → Point → Point → Point → Type 0
LieAside a b c d = LieBeyond (pos 0) (orientation a b c) (orientation a b d)

-- an upright or a level line parts s and t: one lies wholly to the west or to the south of the other
abbrev pub AreBoxesApart : Segment → Segment → Type 0
AreBoxesApart s t =
    (AreBefore s.a.x s.b.x t.a.x t.b.x ⊎ AreBefore t.a.x t.b.x s.a.x s.b.x)
    ⊎ (AreBefore s.a.y s.b.y t.a.y t.b.y ⊎ AreBefore t.a.y t.b.y s.a.y s.b.y)
