-- Half-edges by number: the two of one edge are neighbours.
use Rattle.std.specs.Prelude.{ℕ, ◌+◌, ◌-◌, ◌%◌, ◌==◌, if◌then◌else◌}

-- the number of the other half-edge of the edge of s
abbrev pub twin_number : ℕ → ℕ
twin_number s = if s % 2 == 0 then s + 1 else s - 1
