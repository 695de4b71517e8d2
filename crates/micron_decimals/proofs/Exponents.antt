-- An exponent beyond `far` decides as `far` does.
use Rattle.std.proofs.Common.{arith, ◌≡◌, ℕ, zero, suc, ◌+◌, ◌-◌, ◌*◌, ◌^◌, ◌<◌, ◌≤◌, Bool, true, false, ◌&&◌, List, length, drop, get_or, ℤ, pos, negsuc, ◌+ℤ◌, ◌-ℤ◌, ◌<ℤ◌, subst, inl, inr, refl, sym, ap, ◌∙◌}
use Rattle.std.specs.Prelude.{if◌then◌else◌, nat_le, neg_ℤ, unsigned_abs}
use Rattle.std.specs.List.{list_all}
use Rattle.std.specs.Ordering.{int_eq}
use Rattle.std.specs.Str.Parse.{digits_value}
use Rattle.std.proofs.lemmas.Bool.{cases_lt}
use Rattle.std.proofs.lemmas.Int.{ints}
use Rattle.std.proofs.lemmas.List.{take_all, drop_all, get_or_past, length-append}
use Rattle.micron_decimals.specs.Decimals.{signed, Decimal, nearest_micron, nearest_size, is_exactly, scale}
use Rattle.micron_decimals.specs.Places.{far, capped, clamped, front_value, is_zero, rounded_at, with_clamped_power, point_place, digits_of, IsReadable}
use Rattle.micron_decimals.proofs.Capped.{zeros_enough}
use Rattle.micron_decimals.proofs.Rounding.{rounded_is}
use Rattle.micron_decimals.proofs.Exactness.{not_before_first, number_at, number_is}

pub clamped_same : (z : ℤ) → unsigned_abs z ≤ far → clamped z ≡ z
clamped_same (pos n) h = ap pos (omega (arith, h))
clamped_same (negsuc n) h = ap (λ m. neg_ℤ (pos m)) small
  where
    small : capped (n + 1) ≡ suc n
    small = omega (arith, h)

pub clamped-signed : (negative : Bool) (n : ℕ) → clamped (signed negative n) ≡ signed negative (capped n)
clamped-signed false n = refl
clamped-signed true zero = refl
clamped-signed true (suc n) = ap (λ m. neg_ℤ (pos (capped m))) next
  where
    next : n + 1 ≡ suc n
    next = omega arith

-- twenty places behind the digits and more are one
front_beyond : (p : ℕ) (ds : List ℕ) → length ds + 20 ≤ p → capped (front_value p ds) ≡ capped (digits_value 10 ds * far)
front_beyond p ds h = ap (λ xs. capped (digits_value 10 xs * 10 ^ (p - length ds))) (take_all p ds (omega (arith, h))) ∙ zeros_enough (digits_value 10 ds) (p - length ds) (omega (arith, h))

rounded_beyond : (p : ℕ) (ds : List ℕ) → length ds + 20 ≤ p → capped (rounded_at (pos p) ds) ≡ capped (digits_value 10 ds * far)
rounded_beyond p ds h =
    let past : nat_le 53 (get_or ds p 0) ≡ false = ap (λ n. nat_le 53 n) (get_or_past ds p 0 (omega (arith, h))) in
    ap (λ b. capped (front_value p ds + (if b then 1 else 0))) past ∙ ap capped (no_more (front_value p ds)) ∙ front_beyond p ds h
  where
    no_more : (n : ℕ) → n + 0 ≡ n
    no_more n = omega arith

rounded_negative : (z : ℤ) (ds : List ℕ) → z <ℤ pos 0 → rounded_at z ds ≡ 0
rounded_negative (pos p) ds h = absurd (omega (arith, ints, h))
rounded_negative (negsuc p) ds h = refl

-- the nearest whole number by the exponent up to `far`
pub rounded_by_clamped : (w k : ℕ) (power : ℤ) (ds : List ℕ) → w < 2 ^ 64 → length ds < w + 2 ^ 64 → k ≤ 9 →
    capped (rounded_at ((pos w +ℤ clamped power) +ℤ pos k) ds) ≡ capped (rounded_at ((pos w +ℤ power) +ℤ pos k) ds)
rounded_by_clamped w k (pos n) ds a b h = elim (cases_lt far n) [
  | inl less ↦ rounded_beyond (w + capped n + k) ds (omega (arith, less, b)) ∙ sym (rounded_beyond (w + n + k) ds (omega (arith, less, b)))
  | inr least ↦ ap (λ z. capped (rounded_at ((pos w +ℤ z) +ℤ pos k) ds)) (clamped_same (pos n) least)
]
rounded_by_clamped w k (negsuc n) ds a b h = elim (cases_lt far (suc n)) [
  | inl less ↦ ap capped (rounded_negative ((pos w +ℤ clamped (negsuc n)) +ℤ pos k) ds (omega (arith, ints, a, h, less)) ∙ sym (rounded_negative ((pos w +ℤ negsuc n) +ℤ pos k) ds (omega (arith, ints, a, h, less))))
  | inr least ↦ ap (λ z. capped (rounded_at ((pos w +ℤ z) +ℤ pos k) ds)) (clamped_same (negsuc n) least)
]

count_below : (d : Decimal) → length d.part < 2 ^ 64 → length (digits_of d) < length d.whole + 2 ^ 64
count_below d h = omega (arith, length-append d.whole d.part, h)

at_scale : (d : Decimal) (k : ℕ) → scale d +ℤ pos k ≡ point_place d (pos k) -ℤ pos (length (digits_of d))
at_scale d k = omega (arith, ints, length-append d.whole d.part)

at_read : (d : Decimal) → IsReadable (with_clamped_power d) → signed d.negative (capped (rounded_at (point_place (with_clamped_power d) (pos 3)) (digits_of d))) ≡ clamped (nearest_micron d)
at_read d r =
    ap (λ n. signed d.negative n) (rounded_by_clamped (length d.whole) 3 d.power (digits_of d) r.whole (count_below d r.part) (omega arith)
    ∙ ap capped (sym (rounded_is (point_place d (pos 3)) (digits_of d) (scale d +ℤ pos 3) r.digits (at_scale d 3))))
    ∙ sym (clamped-signed d.negative (nearest_size d))

-- the nearest micrometre of each decimal that is read as p
pub micron_is : (d p : Decimal) → IsReadable p → with_clamped_power d ≡ p → signed p.negative (capped (rounded_at (point_place p (pos 3)) (digits_of p))) ≡ clamped (nearest_micron d)
micron_is d p readable e = subst (λ (p : Decimal). IsReadable p → signed p.negative (capped (rounded_at (point_place p (pos 3)) (digits_of p))) ≡ clamped (nearest_micron d)) e (at_read d) readable

number_beyond : (negative : Bool) (p : ℕ) (ds : List ℕ) (whole : ℤ) → length ds + 20 ≤ p → number_at (pos p) negative ds whole ≡ int_eq (signed negative (capped (digits_value 10 ds * far))) whole
number_beyond negative p ds whole h =
    ap (λ xs. list_all is_zero xs && int_eq (signed negative (capped (front_value p ds))) whole) (drop_all p ds (omega (arith, h)))
    ∙ ap (λ n. int_eq (signed negative n) whole) (front_beyond p ds h)

number_negative : (negative : Bool) (z : ℤ) (ds : List ℕ) (whole : ℤ) → z <ℤ pos 0 → number_at z negative ds whole ≡ number_at (negsuc 0) negative ds whole
number_negative negative (pos p) ds whole h = absurd (omega (arith, ints, h))
number_negative negative (negsuc p) ds whole h = refl

-- whether a decimal is a whole number by the exponent up to `far`
pub number_by_clamped : (negative : Bool) (w : ℕ) (power : ℤ) (ds : List ℕ) (whole : ℤ) → w < 2 ^ 64 → length ds < w + 2 ^ 64 →
    number_at ((pos w +ℤ clamped power) +ℤ pos 0) negative ds whole ≡ number_at ((pos w +ℤ power) +ℤ pos 0) negative ds whole
number_by_clamped negative w (pos n) ds whole a b = elim (cases_lt far n) [
  | inl less ↦ number_beyond negative (w + capped n + 0) ds whole (omega (arith, less, b)) ∙ sym (number_beyond negative (w + n + 0) ds whole (omega (arith, less, b)))
  | inr least ↦ ap (λ z. number_at ((pos w +ℤ z) +ℤ pos 0) negative ds whole) (clamped_same (pos n) least)
]
number_by_clamped negative w (negsuc n) ds whole a b = elim (cases_lt far (suc n)) [
  | inl less ↦ number_negative negative ((pos w +ℤ clamped (negsuc n)) +ℤ pos 0) ds whole (omega (arith, ints, a, less)) ∙ sym (number_negative negative ((pos w +ℤ negsuc n) +ℤ pos 0) ds whole (omega (arith, ints, a, less)))
  | inr least ↦ ap (λ z. number_at ((pos w +ℤ z) +ℤ pos 0) negative ds whole) (clamped_same (negsuc n) least)
]

exactly_at_read : (d : Decimal) (whole : ℤ) → IsReadable (with_clamped_power d) → unsigned_abs whole < far → number_at (point_place (with_clamped_power d) (pos 0)) d.negative (digits_of d) whole ≡ is_exactly d whole
exactly_at_read d whole r h =
    number_by_clamped d.negative (length d.whole) d.power (digits_of d) whole r.whole (count_below d r.part)
    ∙ sym (number_is d.negative (point_place d (pos 0)) (digits_of d) (scale d +ℤ pos 0) whole r.digits (at_scale d 0) h)

-- whether each decimal that is read as p is exactly this whole number
pub exactly_is : (d p : Decimal) (whole : ℤ) → IsReadable p → with_clamped_power d ≡ p → unsigned_abs whole < far → number_at (point_place p (pos 0)) p.negative (digits_of p) whole ≡ is_exactly d whole
exactly_is d p whole readable e h =
    subst (λ (p : Decimal). IsReadable p → number_at (point_place p (pos 0)) p.negative (digits_of p) whole ≡ is_exactly d whole) e (λ r. exactly_at_read d whole r h) readable

-- the same, by the number that stands before the point
pub exactly_by : (d p : Decimal) (whole n : ℤ) (place : ℕ) → IsReadable p → with_clamped_power d ≡ p → unsigned_abs whole < far → place ≡ not_before_first (point_place p (pos 0)) → n ≡ signed p.negative (capped (front_value place (digits_of p))) →
    (list_all is_zero (drop place (digits_of p)) && int_eq n whole) ≡ is_exactly d whole
exactly_by d p whole n place readable e h f g = rw (g, f) (exactly_is d p whole readable e h)
