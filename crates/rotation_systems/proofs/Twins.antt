-- The twin of a twin, and how far twins lie.
use Rattle.std.proofs.Common.{arith, ◌≡◌, ℕ, ◌*◌, ◌<◌}
use Rattle.std.proofs.lemmas.Bool.Decides.{nat_tests}
use Rattle.rotation_systems.specs.Twins.{twin_number}

-- the twin of the twin is the half-edge itself
pub twin_twice : (s : ℕ) → twin_number (twin_number s) ≡ s
twin_twice s = grind (arith, nat_tests)

pub twin_below : (n s : ℕ) → s < 2 * n → twin_number s < 2 * n
twin_below n s h = grind (arith, nat_tests)
