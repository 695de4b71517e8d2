use Rattle.std.proofs.Common.{arith, ◌^◌, ◌<◌, ◌≡◌, ℤ, ◌-ℤ◌, ◌*ℤ◌, ◌*◌, FitsSigned, to_z, of_z}
use Rattle.std.specs.Prelude.{unsigned_abs}
use Rattle.std.specs.Int.{w64, w128}
use Rattle.std.proofs.lemmas.Int.{ints, unsigned_abs-mul}
use Rattle.std.proofs.lemmas.Nat.{mul-lt}
use Rattle.nest_base.proofs.Bounds.{mul_exact}
use Rattle.start_policy.proofs.choosers.squared_span.Goals as goal

span_is : (c : goal.After-from-span) → (to_z w128 (of_z w128 c.from-span.result) ≡ c.args.a -ℤ c.args.b) × FitsSigned w64 (c.args.a -ℤ c.args.b) × (unsigned_abs (c.args.a -ℤ c.args.b) < 2 ^ 32)
span_is c = (omega (arith, ints), omega (arith, ints), omega (arith, ints))

pub returns-clause-value : goal.returns-clause-value
returns-clause-value c =
    let span = span_is c in
    rw (span.0) (mul_exact (c.args.a -ℤ c.args.b) (c.args.a -ℤ c.args.b) span.1 span.1)

pub returns-clause-small : goal.returns-clause-small
returns-clause-small c =
    let span = span_is c in
    let below : unsigned_abs ((c.args.a -ℤ c.args.b) *ℤ (c.args.a -ℤ c.args.b)) < 2 ^ 32 * 2 ^ 32 =
    rw (unsigned_abs-mul (c.args.a -ℤ c.args.b) (c.args.a -ℤ c.args.b)) (mul-lt _ _ (2 ^ 32) (2 ^ 32) span.2 span.2) in
    rw (returns-clause-value c) (omega (arith, below))
