-- What things count for by number, as they are counted one by one.
use Rattle.std.proofs.Common.{arith, ◌≡◌, ℕ, zero, suc, ◌+◌, ◌≤◌, cond, ap, ◌∙◌}
use Rattle.std.specs.Prelude.{◌==◌, Bool, true, false}
use Rattle.rotation_systems.specs.RotationSystem.{total}

-- what thing k counts for c, where it counts `weight k` for `place k`
abbrev pub counted_for : (ℕ → ℕ) → (ℕ → ℕ) → ℕ → ℕ → ℕ
counted_for place weight c k = cond (place k == c) (weight k) 0

pub total_more : (f : ℕ → ℕ) (n : ℕ) → total f (n + 1) ≡ total f n + f n
total_more f n =
    let next : n + 1 ≡ suc n = omega arith in
    ap (total f) next ∙ omega arith

pub total_few : (f : ℕ → ℕ) (n : ℕ) → ((k : ℕ) → f k ≤ 1) → total f n ≤ n
total_few f zero few = omega arith
total_few f (suc n) few = omega (arith, few n, total_few f n few)

one_at_most : (b : Bool) (n : ℕ) → n ≤ 1 → cond b n 0 ≤ 1
one_at_most true n few = few
one_at_most false n few = omega arith

-- the first n things give no count beyond n, where each counts at most 1
pub counted_few : (place weight : ℕ → ℕ) (c n : ℕ) → ((k : ℕ) → weight k ≤ 1) → total (counted_for place weight c) n ≤ n
counted_few place weight c n few = total_few (counted_for place weight c) n (λ k. one_at_most (place k == c) (weight k) (few k))
