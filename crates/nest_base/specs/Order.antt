-- Places compared.
use Rattle.std.specs.Prelude.{◌≡◌, ◌<ℤ◌, ◌⊎◌, Bool, ◌&&◌}
use Rattle.std.specs.declared.cmp.Ordering.{Ordering}
use Rattle.std.specs.Ordering.{int_cmp, int_eq, ordering_then}
use Rattle.nest_base.specs.declared.places.Point.{Point}

-- whether two places are one
abbrev pub is_place : Point → Point → Bool
is_place v q = int_eq v.x q.x && int_eq v.y q.y

-- by x, then by y
abbrev pub IsBefore : Point → Point → Type 0
IsBefore a b = (a.x <ℤ b.x) ⊎ ((a.x ≡ b.x) × (a.y <ℤ b.y))

-- the same as a comparison
abbrev pub place_cmp : Point → Point → Ordering
place_cmp a b = ordering_then (int_cmp a.x b.x) (int_cmp a.y b.y)

-- the order of mark vertices: the least x first, then the greatest y
abbrev pub IsMarkedBefore : Point → Point → Type 0
IsMarkedBefore a b = (a.x <ℤ b.x) ⊎ ((a.x ≡ b.x) × (b.y <ℤ a.y))
