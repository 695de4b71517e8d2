-- The nearest whole number to digits with a point is told by the digits before the point and the next one.
use Rattle.std.proofs.Common.{arith, ◌≡◌, ℕ, zero, suc, ◌+◌, ◌-◌, ◌*◌, ◌/◌, ◌^◌, ◌<◌, ◌≤◌, true, false, List, ◌∷◌, length, take, drop, get_or, ℤ, pos, negsuc, ◌-ℤ◌, inl, inr, lit<, refl, sym, ap, subst, ◌∙◌}
use Rattle.std.specs.Prelude.{if◌then◌else◌, nat_le, neg_ℤ}
use Rattle.std.specs.Char.{digit_value, is_ascii_digit}
use Rattle.std.specs.Str.Parse.{digits_value}
use Rattle.std.proofs.Math.Nat.{pow-suc, pow-le-pow_right, mul-le-mul_right}
use Rattle.std.proofs.lemmas.Bool.{and_parts, cases_lt, cond-true, cond-false, le-leb, lt-leb}
use Rattle.std.proofs.lemmas.Int.{ints}
use Rattle.std.proofs.lemmas.List.{drop_more, take_all, get_or_past, length-drop}
use Rattle.std.proofs.lemmas.Nat.{div-mul-add}
use Rattle.micron_decimals.specs.Decimals.{are_digits, raised}
use Rattle.micron_decimals.specs.Places.{front_value, rounded_at}
use Rattle.micron_decimals.proofs.Cuts.{are_digits-drop}
use Rattle.micron_decimals.proofs.Values.{digit_bounds, value-cons, value_cut, value_below}

-- the whole number nearest to n times ten to the power z, by a division
abbrev pub size_at : ℕ → ℤ → ℕ
size_at n z = (2 * (n * raised z) + raised (neg_ℤ z)) / (2 * raised (neg_ℤ z))

-- rounding a * d + b by a division
half_up : (a b d : ℕ) → d ≤ 2 * b → b < d → (2 * ((a * d + b) * 1) + d) / (2 * d) ≡ a + 1
half_up a b d h k = ap (λ n. n / (2 * d)) (omega (arith, h, k)) ∙ div-mul-add (a + 1) (2 * d) (2 * b - d) (omega (arith, h, k))

half_down : (a b d : ℕ) → 2 * b < d → (2 * ((a * d + b) * 1) + d) / (2 * d) ≡ a
half_down a b d h = ap (λ n. n / (2 * d)) (omega (arith, h)) ∙ div-mul-add a (2 * d) (2 * b + d) (omega (arith, h))

below : (x y t : ℕ) → x ≤ y → x * t ≤ y * t
below x y t h = mul-le-mul_right t h

-- the digit behind the point decides
by_digit : (a x r t : ℕ) → x < 10 → r < t → (2 * ((a * (t * 10) + (x * t + r)) * 1) + t * 10) / (2 * (t * 10)) ≡ a + (if nat_le 5 x then 1 else 0)
by_digit a x r t h k = elim (cases_lt x 5) [
  | inl less ↦ half_down a (x * t + r) (t * 10) (omega (arith, below x 4 t (omega (arith, less)), k)) ∙ omega (arith, cond-false {A = ℕ} (nat_le 5 x) 1 0 (lt-leb 5 x less))
  | inr least ↦ half_up a (x * t + r) (t * 10) (omega (arith, below 5 x t least)) (omega (arith, below x 9 t (omega (arith, h)), k)) ∙ omega (arith, cond-true {A = ℕ} (nat_le 5 x) 1 0 (le-leb 5 x least))
]

same_half : (d : ℕ) → is_ascii_digit d ≡ true → nat_le 5 (digit_value d) ≡ nat_le 53 d
same_half d h = elim (cases_lt d 53) [
  | inl less ↦ lt-leb 5 (digit_value d) (omega (arith, less, (digit_bounds d h).1)) ∙ sym (lt-leb 53 d less)
  | inr least ↦ le-leb 5 (digit_value d) (omega (arith, least, (digit_bounds d h).1)) ∙ sym (le-leb 53 d least)
]

pub raised_neg : (k : ℕ) → raised (neg_ℤ (pos k)) ≡ 1
raised_neg zero = refl
raised_neg (suc k) = refl

pub no_zeros : (a k : ℕ) → k ≡ 0 → a ≡ a * 10 ^ k
no_zeros a k e = rw e (omega arith)

-- the point stands within the digits
rounded_inside : (p : ℕ) (ds : List ℕ) → are_digits ds ≡ true → p < length ds → (m : ℕ) → m + 1 ≡ length ds - p → size_at (digits_value 10 ds) (negsuc m) ≡ rounded_at (pos p) ds
rounded_inside p ds h less m e =
    let d = get_or ds p 0 in
    let rest = drop (p + 1) ds in
    let a = digits_value 10 (take p ds) in
    let next : drop p ds ≡ d ∷ rest = drop_more ds p 0 less in
    let digits = and_parts (is_ascii_digit d) (are_digits rest) (subst (λ xs. are_digits xs ≡ true) next (are_digits-drop p ds h)) in
    let count : length rest ≡ m = omega (arith, length-drop (p + 1) ds, e) in
    let behind : digits_value 10 (drop p ds) ≡ digit_value d * 10 ^ m + digits_value 10 rest = ap (λ xs. digits_value 10 xs) next ∙ value-cons d rest ∙ ap (λ n. digit_value d * 10 ^ n + digits_value 10 rest) count in
    let whole : digits_value 10 ds ≡ a * 10 ^ suc m + (digit_value d * 10 ^ m + digits_value 10 rest) =
    value_cut p ds ∙ ap (λ n. a * 10 ^ n + digits_value 10 (drop p ds)) (omega (arith, e)) ∙ ap (λ n. a * 10 ^ suc m + n) behind in
    let small : digits_value 10 rest < 10 ^ m = subst (λ n. digits_value 10 rest < 10 ^ n) count (value_below rest digits.1) in
    by a (digit_value d) (digits_value 10 rest) (10 ^ m) (10 ^ suc m) (digits_value 10 ds) (pow-suc 10 m) whole (digit_bounds d digits.0).0 small
    ∙ ap (λ b. a + (if b then 1 else 0)) (same_half d digits.0) ∙ ap (λ n. n + (if nat_le 53 d then 1 else 0)) (front a)
  where
    by : (a x r t u n : ℕ) → u ≡ t * 10 → n ≡ a * u + (x * t + r) → x < 10 → r < t → (2 * (n * 1) + u) / (2 * u) ≡ a + (if nat_le 5 x then 1 else 0)
    by a x r t u n e f h k = rw (f, e) (by_digit a x r t h k)

    front : (a : ℕ) → a ≡ a * 10 ^ (p - length ds)
    front a = no_zeros a (p - length ds) (omega (arith, less))

-- the point stands behind the digits
rounded_behind : (p : ℕ) (ds : List ℕ) → length ds ≤ p → size_at (digits_value 10 ds) (pos (p - length ds)) ≡ rounded_at (pos p) ds
rounded_behind p ds h =
    let k = p - length ds in
    let v = digits_value 10 ds * 10 ^ k in
    let past : nat_le 53 (get_or ds p 0) ≡ false = ap (λ n. nat_le 53 n) (get_or_past ds p 0 h) in
    ap (λ r. (2 * v + r) / (2 * r)) (raised_neg k) ∙ halves v
    ∙ ap (λ xs. digits_value 10 xs * 10 ^ k + 0) (sym (take_all p ds h)) ∙ ap (λ b. front_value p ds + (if b then 1 else 0)) (sym past)
  where
    halves : (v : ℕ) → (2 * v + 1) / (2 * 1) ≡ v + 0
    halves v = omega arith

-- the point stands before the digits, with a zero between
rounded_before : (p : ℕ) (ds : List ℕ) → are_digits ds ≡ true → size_at (digits_value 10 ds) (negsuc (length ds + p)) ≡ 0
rounded_before p ds h =
    by (digits_value 10 ds) (10 ^ length ds) (10 ^ suc (length ds)) (10 ^ suc (length ds + p)) (value_below ds h) (pow-suc 10 (length ds))
    (pow-le-pow_right {n = 10} (lit< tt) {i = suc (length ds)} {j = suc (length ds + p)} (omega arith))
  where
    none : (n w : ℕ) → n ≡ 0 * w + n
    none n w = omega arith

    by : (n t u w : ℕ) → n < t → u ≡ t * 10 → u ≤ w → (2 * (n * 1) + w) / (2 * w) ≡ 0
    by n t u w h e k = ap (λ v. (2 * (v * 1) + w) / (2 * w)) (none n w) ∙ half_down 0 n w (omega (arith, h, e, k))

-- the power of ten that a point before, within or behind n digits stands for
pub power_before : (p n : ℕ) (z : ℤ) → z ≡ negsuc p -ℤ pos n → z ≡ negsuc (n + p)
power_before p n z e = omega (arith, ints, e)

pub power_inside : (p n : ℕ) (z : ℤ) → z ≡ pos p -ℤ pos n → p < n → z ≡ negsuc (n - p - 1)
power_inside p n z e less = omega (arith, ints, e, less)

pub power_behind : (p n : ℕ) (z : ℤ) → z ≡ pos p -ℤ pos n → n ≤ p → z ≡ pos (p - n)
power_behind p n z e least = omega (arith, ints, e, least)

-- digits with the point at a place, as a whole number times a power of ten
pub rounded_is : (place : ℤ) (ds : List ℕ) (z : ℤ) → are_digits ds ≡ true → z ≡ place -ℤ pos (length ds) → size_at (digits_value 10 ds) z ≡ rounded_at place ds
rounded_is (negsuc p) ds z h e = ap (λ y. size_at (digits_value 10 ds) y) (power_before p (length ds) z e) ∙ rounded_before p ds h
rounded_is (pos p) ds z h e = elim (cases_lt p (length ds)) [
  | inl less ↦ ap (λ y. size_at (digits_value 10 ds) y) (power_inside p (length ds) z e less) ∙ rounded_inside p ds h less (length ds - p - 1) (omega (arith, less))
  | inr least ↦ ap (λ y. size_at (digits_value 10 ds) y) (power_behind p (length ds) z e least) ∙ rounded_behind p ds least
]
