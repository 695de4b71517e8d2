-- Identities of products of integers.
-- Each integer is written as a difference of naturals, the operations are pushed inside, and the two sides are then compared as
-- polynomials over the naturals. An identity over the variables v, w is `by_differences`: rw (diff_of v, diff_of w) (simp diffs (diff_same _ _ _ _ (omega arith))).
use Rattle.std.proofs.Common.{arith, ◌≡◌, ℕ, ◌+◌, ◌*◌, ℤ, pos, ◌+ℤ◌, ◌-ℤ◌, ◌*ℤ◌, ap}
use Rattle.std.specs.Prelude.{neg_ℤ}
use Rattle.std.proofs.lemmas.Int.{ints}
use borrow.Author.Differences.{up, down, same_in, product_is}

-- the difference of two naturals, as an integer
unfoldable pub diff : ℕ → ℕ → ℤ
diff a b = pos a -ℤ pos b

pub diff_parts : (a b : ℕ) → up (diff a b) + b ≡ down (diff a b) + a
unfolding diff
diff_parts a b = omega (arith, ints)

-- each integer is one
pub diff_of : (z : ℤ) → z ≡ diff (up z) (down z)
diff_of z = omega (arith, ints, diff_parts (up z) (down z))

pub diff_same : (a b c d : ℕ) → a + d ≡ c + b → diff a b ≡ diff c d
diff_same a b c d h = omega (arith, ints, diff_parts a b, diff_parts c d)

pub diff-add : (a b c d : ℕ) → diff a b +ℤ diff c d ≡ diff (a + c) (b + d)
diff-add a b c d = omega (arith, ints, diff_parts a b, diff_parts c d, diff_parts (a + c) (b + d))

pub diff-sub : (a b c d : ℕ) → diff a b -ℤ diff c d ≡ diff (a + d) (b + c)
diff-sub a b c d = omega (arith, ints, diff_parts a b, diff_parts c d, diff_parts (a + d) (b + c))

pub diff-neg : (a b : ℕ) → neg_ℤ (diff a b) ≡ diff b a
diff-neg a b = omega (arith, ints, diff_parts a b, diff_parts b a)

pub diff-mul : (a b c d : ℕ) → diff a b *ℤ diff c d ≡ diff (a * c + b * d) (a * d + b * c)
diff-mul a b c d =
    let p = diff_parts a b in
    let q = diff_parts c d in
    let x = diff a b in
    let y = diff c d in
    same_in (x *ℤ y) (diff (a * c + b * d) (a * d + b * c)) (omega (arith, product_is x y, diff_parts (a * c + b * d) (a * d + b * c), ap (λ n. n * up y) p, ap (λ n. n * down y) p, ap (λ n. a * n) q, ap (λ n. b * n) q))

-- what pushes the operations inside
pub ruleset diffs = (diff-add, diff-sub, diff-neg, diff-mul)

pub mul-neg : (a b : ℤ) → a *ℤ neg_ℤ b ≡ neg_ℤ (a *ℤ b)
mul-neg a b = rw (diff_of a, diff_of b) (simp diffs (diff_same _ _ _ _ (omega arith)))

pub neg-mul : (a b : ℤ) → neg_ℤ a *ℤ b ≡ neg_ℤ (a *ℤ b)
neg-mul a b = rw (diff_of a, diff_of b) (simp diffs (diff_same _ _ _ _ (omega arith)))
