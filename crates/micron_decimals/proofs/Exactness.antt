-- Digits with a point are exactly a whole number where the digits before the point write it and zeros alone follow.
use Rattle.std.proofs.Common.{arith, ◌≡◌, ℕ, zero, suc, ◌+◌, ◌-◌, ◌*◌, ◌^◌, ◌<◌, ◌≤◌, Bool, true, false, ◌&&◌, List, length, take, drop, ℤ, pos, negsuc, ◌-ℤ◌, ◌*ℤ◌, inl, inr, lit<, refl, sym, ap, subst, ◌∙◌}
use Rattle.std.specs.Prelude.{neg_ℤ, unsigned_abs}
use Rattle.std.specs.Bool.{Decides}
use Rattle.std.specs.List.{list_all}
use Rattle.std.specs.Ordering.{int_eq}
use Rattle.std.specs.Str.Parse.{digits_value}
use Rattle.std.proofs.Math.Nat.{pow-le-pow_right}
use Rattle.std.proofs.lemmas.Bool.{cases_lt}
use Rattle.std.proofs.lemmas.Bool.Decides.{same_from_decides, Decides-int_eq, Decides-and, Decides-like}
use Rattle.std.proofs.lemmas.Int.{ints, unsigned_abs-mul}
use Rattle.std.proofs.lemmas.List.{take_all, drop_all}
use Rattle.std.proofs.lemmas.Nat.{same_from_place}
use Rattle.nest_base.proofs.Differences.{neg-mul}
use Rattle.micron_decimals.specs.Decimals.{are_digits, raised, signed}
use Rattle.micron_decimals.specs.Places.{far, capped, front_value, is_zero}
use Rattle.micron_decimals.proofs.Cuts.{are_digits-drop}
use Rattle.micron_decimals.proofs.Rounding.{raised_neg, no_zeros, power_before, power_inside, power_behind}
use Rattle.micron_decimals.proofs.Values.{value_cut, value_below, rest_below, zeros_write_zero}

-- a place, or the first one where it lies before it
abbrev pub not_before_first : ℤ → ℕ
not_before_first (pos p) = p
not_before_first (negsuc p) = 0

-- these digits, with this sign and the point at this place, are exactly this whole number
abbrev pub number_at : ℤ → Bool → List ℕ → ℤ → Bool
number_at place negative ds whole =
    list_all is_zero (drop (not_before_first place) ds) && int_eq (signed negative (capped (front_value (not_before_first place) ds))) whole

signed-mul : (negative : Bool) (a u : ℕ) → signed negative (a * u) ≡ signed negative a *ℤ pos u
signed-mul false a u = refl
signed-mul true a u = sym (neg-mul (pos a) (pos u))

size-signed : (negative : Bool) (n : ℕ) → unsigned_abs (signed negative n) ≡ n
size-signed false n = refl
size-signed true zero = refl
size-signed true (suc n) = refl

-- a number of this size and with this sign
same_sign : (negative : Bool) (a u : ℕ) (whole : ℤ) → 0 < u → a ≡ unsigned_abs whole → signed negative (a * u) ≡ whole *ℤ pos u → signed negative a ≡ whole
same_sign false a u (pos w) h e f = ap pos e
same_sign false a u (negsuc w) h e f = absurd (omega (arith, ints, h, e, f, neg-mul (pos (suc w)) (pos u)))
same_sign true zero u (pos w) h e f = ap pos e
same_sign true (suc a) u (pos w) h e f = absurd (omega (arith, ints, h, e, f))
same_sign true zero u (negsuc w) h e f = absurd (omega (arith, e))
same_sign true (suc a) u (negsuc w) h e f = ap (λ n. neg_ℤ (pos n)) e

alone : (n b : ℕ) → b ≡ 0 → n ≡ n + b
alone n b e = omega (arith, e)

to_parts : (negative : Bool) (a b u : ℕ) (whole : ℤ) → b < u → signed negative (a * u + b) ≡ whole *ℤ pos u → (b ≡ 0) × (signed negative a ≡ whole)
to_parts negative a b u whole h e =
    let sizes : a * u + b ≡ unsigned_abs whole * u + 0 = sym (size-signed negative (a * u + b)) ∙ ap unsigned_abs e ∙ unsigned_abs-mul whole (pos u) ∙ no_more (unsigned_abs whole * u) in
    let both = same_from_place a b (unsigned_abs whole) 0 u h (omega (arith, h)) sizes in
    (both.1, same_sign negative a u whole (omega (arith, h)) both.0 (ap (λ n. signed negative n) (alone (a * u) b both.1) ∙ e))
  where
    no_more : (n : ℕ) → n ≡ n + 0
    no_more n = omega arith

from_parts : (negative : Bool) (a b u : ℕ) (whole : ℤ) → b ≡ 0 → signed negative a ≡ whole → signed negative (a * u + b) ≡ whole *ℤ pos u
from_parts negative a b u whole e f = ap (λ n. signed negative n) (sym (alone (a * u) b e)) ∙ signed-mul negative a u ∙ ap (λ z. z *ℤ pos u) f

-- what is lost above `far` decides nothing about a number below it
below_far : (negative : Bool) (n : ℕ) (whole : ℤ) → unsigned_abs whole < far → ((signed negative (capped n) ≡ whole) → (signed negative n ≡ whole)) × ((signed negative n ≡ whole) → (signed negative (capped n) ≡ whole))
below_far negative n whole h =
    (λ e. ap (λ m. signed negative m) (sym (kept (ap unsigned_abs e))) ∙ e, λ e. ap (λ m. signed negative m) (small (ap unsigned_abs e)) ∙ e)
  where
    kept : unsigned_abs (signed negative (capped n)) ≡ unsigned_abs whole → capped n ≡ n
    kept e = omega (arith, e, h, size-signed negative (capped n))

    small : unsigned_abs (signed negative n) ≡ unsigned_abs whole → capped n ≡ n
    small e = omega (arith, e, h, size-signed negative n)

decided : (negative : Bool) (n a b u f : ℕ) (rest : Bool) (whole : ℤ) → n ≡ a * u + b → b < u → f ≡ a → Decides rest (b ≡ 0) → unsigned_abs whole < far →
    int_eq (signed negative n) (whole *ℤ pos u) ≡ (rest && int_eq (signed negative (capped f)) whole)
decided negative n a b u f rest whole e h g zeros k =
    rw (e, g) (same_from_decides (int_eq (signed negative (a * u + b)) (whole *ℤ pos u)) (rest && int_eq (signed negative (capped a)) whole)
    (Decides-like (int_eq (signed negative (a * u + b)) (whole *ℤ pos u)) (λ y. let both = to_parts negative a b u whole h y in (both.0, (below_far negative a whole k).1 both.1))
    (λ y. from_parts negative a b u whole y.0 ((below_far negative a whole k).0 y.1)) (Decides-int_eq (signed negative (a * u + b)) (whole *ℤ pos u)))
    (Decides-and rest (int_eq (signed negative (capped a)) whole) zeros (Decides-int_eq (signed negative (capped a)) whole)))

-- the point stands within the digits
number_inside : (negative : Bool) (p : ℕ) (ds : List ℕ) (whole : ℤ) → are_digits ds ≡ true → unsigned_abs whole < far → p < length ds → (m : ℕ) → m + 1 ≡ length ds - p →
    int_eq (signed negative (digits_value 10 ds * 1)) (whole *ℤ pos (10 ^ suc m)) ≡ number_at (pos p) negative ds whole
number_inside negative p ds whole h k less m e =
    let count : length ds - p ≡ suc m = omega (arith, e) in
    let cut = ap (λ n. digits_value 10 (take p ds) * 10 ^ n + digits_value 10 (drop p ds)) count in
    let small = subst (λ n. digits_value 10 (drop p ds) < 10 ^ n) count (rest_below p ds h) in
    decided negative (digits_value 10 ds * 1) (digits_value 10 (take p ds)) (digits_value 10 (drop p ds)) (10 ^ suc m) (front_value p ds) (list_all is_zero (drop p ds)) whole
    (once (digits_value 10 ds) ∙ value_cut p ds ∙ cut) small (sym (no_zeros (digits_value 10 (take p ds)) (p - length ds) (omega (arith, less)))) (zeros_write_zero (drop p ds) (are_digits-drop p ds h)) k
  where
    once : (n : ℕ) → n * 1 ≡ n
    once n = omega arith

-- the point stands behind the digits
number_behind : (negative : Bool) (p : ℕ) (ds : List ℕ) (whole : ℤ) → are_digits ds ≡ true → unsigned_abs whole < far → length ds ≤ p →
    int_eq (signed negative (digits_value 10 ds * 10 ^ (p - length ds))) (whole *ℤ pos (raised (neg_ℤ (pos (p - length ds))))) ≡ number_at (pos p) negative ds whole
number_behind negative p ds whole h k least =
    let n = digits_value 10 ds * 10 ^ (p - length ds) in
    let rest = digits_value 10 (drop p ds) in
    let none : rest ≡ 0 = ap (λ xs. digits_value 10 xs) (drop_all p ds least) in
    ap (λ u. int_eq (signed negative n) (whole *ℤ pos u)) (raised_neg (p - length ds))
    ∙ decided negative n n rest 1 (front_value p ds) (list_all is_zero (drop p ds)) whole (once n rest none) (omega (arith, none))
    (ap (λ xs. digits_value 10 xs * 10 ^ (p - length ds)) (take_all p ds least)) (zeros_write_zero (drop p ds) (are_digits-drop p ds h)) k
  where
    once : (n r : ℕ) → r ≡ 0 → n ≡ n * 1 + r
    once n r e = omega (arith, e)

-- the point stands before the digits, with a zero between
number_before : (negative : Bool) (p : ℕ) (ds : List ℕ) (whole : ℤ) → are_digits ds ≡ true → unsigned_abs whole < far →
    int_eq (signed negative (digits_value 10 ds * 1)) (whole *ℤ pos (10 ^ suc (length ds + p))) ≡ number_at (negsuc p) negative ds whole
number_before negative p ds whole h k =
    let u = 10 ^ suc (length ds + p) in
    let low : 10 ^ length ds ≤ u = pow-le-pow_right {n = 10} (lit< tt) {i = length ds} {j = suc (length ds + p)} (omega arith) in
    decided negative (digits_value 10 ds * 1) 0 (digits_value 10 ds) u (front_value 0 ds) (list_all is_zero ds) whole
    (alone (digits_value 10 ds) u) (omega (arith, value_below ds h, low)) (nothing (10 ^ (0 - length ds))) (zeros_write_zero ds h) k
  where
    alone : (n u : ℕ) → n * 1 ≡ 0 * u + n
    alone n u = omega arith

    nothing : (t : ℕ) → 0 * t ≡ 0
    nothing t = omega arith

-- digits with the point at a place, as a whole number times a power of ten
pub number_is : (negative : Bool) (place : ℤ) (ds : List ℕ) (z whole : ℤ) → are_digits ds ≡ true → z ≡ place -ℤ pos (length ds) → unsigned_abs whole < far →
    int_eq (signed negative (digits_value 10 ds * raised z)) (whole *ℤ pos (raised (neg_ℤ z))) ≡ number_at place negative ds whole
number_is negative (negsuc p) ds z whole h e k = ap (λ y. int_eq (signed negative (digits_value 10 ds * raised y)) (whole *ℤ pos (raised (neg_ℤ y)))) (power_before p (length ds) z e) ∙ number_before negative p ds whole h k
number_is negative (pos p) ds z whole h e k = elim (cases_lt p (length ds)) [
  | inl less ↦ ap (λ y. int_eq (signed negative (digits_value 10 ds * raised y)) (whole *ℤ pos (raised (neg_ℤ y)))) (power_inside p (length ds) z e less) ∙ number_inside negative p ds whole h k less (length ds - p - 1) (omega (arith, less))
  | inr least ↦ ap (λ y. int_eq (signed negative (digits_value 10 ds * raised y)) (whole *ℤ pos (raised (neg_ℤ y)))) (power_behind p (length ds) z e least) ∙ number_behind negative p ds whole h k least
]
