use Rattle.std.proofs.Common.{arith, rules, ◌≡◌, ◌<◌, ◌≤◌, ℤ, pos, ◌≤ℤ◌, Some, Ok, refl, FitsSigned, to_z, of_z, sym, ap, subst, ◌∙◌}
use Rattle.std.specs.Prelude.{unsigned_abs}
use Rattle.std.specs.Int.{w64, w128}
use Rattle.std.proofs.lemmas.Int.{ints, to_z-of_z}
use Rattle.nest_base.specs.Range.{widest}
use Rattle.micron_decimals.specs.Decimals.{micron_of, IsMicron}
use Rattle.micron_decimals.proofs.Readings.{read_below_far, read_size}
use Rattle.micron_decimals.proofs.Nearest.{micron_is_nearest}
use Rattle.micron_decimals.proofs.Microns.{no_decimal, some_decimal, not_beyond, beyond_from, written_is_read, one_some}
use Rattle.micron_decimals.proofs.read.read_micron.Goals as goal
use Rattle.micron_decimals.proofs.read.read_micron.Goals.{After-from, Else-unsigned_abs-from, Then-unsigned_abs-from}

limit_size : (limit : ℤ) → pos 0 ≤ℤ limit → limit ≤ℤ pos widest → unsigned_abs limit ≤ widest
limit_size limit low high = omega (arith, ints, low, high)

small : (c : After-from) → unsigned_abs c.args.limit ≤ widest
small c = limit_size c.args.limit c.requires.low c.requires.high

-- the sizes that are compared
sizes : (c : After-from) → (c.unsigned_abs.result ≡ unsigned_abs c.in-Some.n) × (c.from.result ≡ unsigned_abs c.args.limit)
sizes c =
    let fits : FitsSigned w128 c.in-Some.n = search rules in
    (c.unsigned_abs.ensures.value ∙ ap unsigned_abs (to_z-of_z w128 c.in-Some.n fits), c.from.ensures ∙ c.unsigned_abs-2.ensures.value ∙ ap unsigned_abs (to_z-of_z w64 c.args.limit c.ranges.limit))

pub returns-in_default-clause-not_a_number : goal.returns-in_default-clause-not_a_number
returns-in_default-clause-not_a_number c = (λ e. no_decimal c.args.text.now c.in_default.ensures, λ none. refl)

pub returns-in_default-clause-written : goal.returns-in_default-clause-written
returns-in_default-clause-written c = λ n h e.
    absurd (some_decimal c.args.text.now n (written_is_read c.args.text.now c.args.limit n (limit_size c.args.limit c.requires.low c.requires.high) h e) (no_decimal c.args.text.now c.in_default.ensures))

-- beyond the limit
far_off : (c : Then-unsigned_abs-from) → (z : ℤ) × (micron_of c.args.text.now ≡ Some z) × (unsigned_abs c.args.limit < unsigned_abs z)
far_off c =
    let found = read_size (micron_of c.args.text.now) c.in-Some.n c.in-Some.ensures in
    let both = sizes (goal.at.returns-then-unsigned_abs-from-clause-too_far c).After-from in
    (found.0, found.1, omega (arith, found.2, both.0, both.1, c.if-unsigned_abs-from.true))

pub returns-then-unsigned_abs-from-clause-too_far : goal.returns-then-unsigned_abs-from-clause-too_far
returns-then-unsigned_abs-from-clause-too_far c =
    let off = far_off c in
    (λ e. beyond_from c.args.text.now c.args.limit off.0 off.1 off.2, λ beyond. refl)

pub returns-then-unsigned_abs-from-clause-written : goal.returns-then-unsigned_abs-from-clause-written
returns-then-unsigned_abs-from-clause-written c = λ n h e.
    let off = far_off c in
    let small = small (goal.at.returns-then-unsigned_abs-from-clause-written c).After-from in
    let one = one_some off.0 n (sym off.1 ∙ written_is_read c.args.text.now c.args.limit n small h e) in
    absurd (omega (arith, off.2, h, ap unsigned_abs one))

-- within the limit
near : (c : Else-unsigned_abs-from) → unsigned_abs c.in-Some.n ≤ unsigned_abs c.args.limit
near c = let both = sizes (goal.at.returns-clause-nearest c).After-from in omega (arith, both.0, both.1, c.if-unsigned_abs-from.false)

same : (c : Else-unsigned_abs-from) → to_z w64 (of_z w64 (to_z w128 (of_z w128 c.in-Some.n))) ≡ c.in-Some.n
same c = omega (arith, ints, near c, small (goal.at.returns-clause-nearest c).After-from)

read : (c : Else-unsigned_abs-from) → micron_of c.args.text.now ≡ Some c.in-Some.n
read c = read_below_far (micron_of c.args.text.now) c.in-Some.n c.in-Some.ensures (omega (arith, near c, small (goal.at.returns-clause-nearest c).After-from))

pub returns-clause-nearest : goal.returns-clause-nearest
returns-clause-nearest c = subst (λ n. IsMicron c.args.text.now n) (sym (same c)) (micron_is_nearest c.args.text.now c.in-Some.n (read c))

pub returns-clause-within : goal.returns-clause-within
returns-clause-within c = subst (λ n. unsigned_abs n ≤ unsigned_abs c.args.limit) (sym (same c)) (near c)

pub returns-clause-not_a_number : goal.returns-clause-not_a_number
returns-clause-not_a_number c = (λ e. absurd (cc), λ none. absurd (some_decimal c.args.text.now c.in-Some.n (read c) none))

pub returns-clause-too_far : goal.returns-clause-too_far
returns-clause-too_far c = (λ e. absurd (cc), λ beyond. absurd (not_beyond c.args.text.now c.args.limit c.in-Some.n (read c) (near c) beyond))

pub returns-clause-computed : goal.returns-clause-computed
returns-clause-computed c = read c ∙ ap (λ (n : ℤ). Some n) (sym (same c))

pub returns-clause-written : goal.returns-clause-written
returns-clause-written c = λ n h e.
    ap (λ (z : ℤ). Ok z) (same c ∙ one_some c.in-Some.n n (sym (read c) ∙ written_is_read c.args.text.now c.args.limit n (small (goal.at.returns-clause-written c).After-from) h e))
