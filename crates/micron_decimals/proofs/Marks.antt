-- The exponent behind the first mark.
use Rattle.std.proofs.Common.{arith, ◌≡◌, ℕ, suc, ◌+◌, Bool, true, false, cond, ltb, List, [], ◌∷◌, length, drop, pos, Some, None, refl, ap, ◌∙◌}
use Rattle.std.specs.Prelude.{not, ◌||◌, position, if◌then◌else◌}
use Rattle.std.specs.List.{list_any, position_or_len}
use Rattle.std.proofs.lemmas.Grind.{common_steps}
use Rattle.micron_decimals.specs.Decimals.{is_exponent_mark, signed_of, power_of}

-- some element passes where the first that does stands before the end
list_any_is : (p : ℕ → Bool) (xs : List ℕ) → list_any p xs ≡ ltb (position_or_len p xs) (length xs)
list_any_is p [] = refl
list_any_is p (x ∷ xs) = by (p x) (list_any p xs) (position_or_len p xs) (length xs) (list_any_is p xs)
  where
    by : (b r : Bool) (n k : ℕ) → r ≡ ltb n k → (b || r) ≡ ltb (cond (not b) (1 + n) 0) (suc k)
    by true r n k e = grind (arith, common_steps)
    by false r n k e = grind (arith, common_steps, e)

at_place : (b : Bool) (n i : ℕ) → cond b (Some n) None ≡ Some i → (b ≡ true) × (n ≡ i)
at_place true n i e = (refl, cc)
at_place false n i e = absurd (cc)

no_place : (b : Bool) (n : ℕ) → cond b (Some n) None ≡ None → b ≡ false
no_place true n e = absurd (cc)
no_place false n e = refl

pub power_at : (text : List ℕ) (i : ℕ) → position is_exponent_mark text ≡ Some i → power_of text ≡ signed_of (drop (i + 1) text)
power_at text i e =
    let place = at_place (ltb (position_or_len is_exponent_mark text) (length text)) (position_or_len is_exponent_mark text) i e in
    ap (λ b. if b then signed_of (drop (position_or_len is_exponent_mark text + 1) text) else Some (pos 0)) (list_any_is is_exponent_mark text ∙ place.0)
    ∙ ap (λ n. signed_of (drop (n + 1) text)) place.1

pub power_none : (text : List ℕ) → position is_exponent_mark text ≡ None → power_of text ≡ Some (pos 0)
power_none text e =
    ap (λ b. if b then signed_of (drop (position_or_len is_exponent_mark text + 1) text) else Some (pos 0))
    (list_any_is is_exponent_mark text ∙ no_place (ltb (position_or_len is_exponent_mark text) (length text)) (position_or_len is_exponent_mark text) e)
