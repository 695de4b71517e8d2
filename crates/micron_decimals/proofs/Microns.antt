-- The nearest micrometre of a text, told by the one that is computed.
use Rattle.std.proofs.Common.{arith, ◌≡◌, ℕ, ◌<◌, ◌≤◌, List, ℤ, Some, None, Option, refl, sym, ap, ◌∙◌}
use Rattle.std.specs.Prelude.{unsigned_abs}
use Rattle.std.specs.Option.{option_map}
use Rattle.nest_base.specs.Range.{widest}
use Rattle.micron_decimals.specs.Decimals.{decimal_of, nearest_micron, micron_of, micron_text, IsMicronBeyond}
use Rattle.micron_decimals.specs.Places.{clamped}
use Rattle.micron_decimals.proofs.Nearest.{micron_is_nearest, nearest_is_computed}
use Rattle.micron_decimals.proofs.WrittenNumbers.{written_number}

none_mapped : {X Y : Type 0} (f : X → Y) (o : Option X) → None ≡ option_map f o → o ≡ None
none_mapped f None e = refl
none_mapped f (Some x) e = absurd (cc)

-- a text of which nothing is read is no decimal
pub no_decimal : (text : List ℕ) → None ≡ option_map clamped (micron_of text) → decimal_of text ≡ None
no_decimal text e = none_mapped nearest_micron (decimal_of text) (sym (none_mapped clamped (micron_of text) e))

pub some_decimal : (text : List ℕ) (n : ℤ) → micron_of text ≡ Some n → decimal_of text ≡ None → ⊥
some_decimal text n e none = absurd (by (sym e ∙ ap (λ o. option_map nearest_micron o) none))
  where
    by : Some n ≡ None → ⊥
    by e = cc

-- the micrometre lies within the limit, or beyond it
pub not_beyond : (text : List ℕ) (limit n : ℤ) → micron_of text ≡ Some n → unsigned_abs n ≤ unsigned_abs limit → IsMicronBeyond text limit → ⊥
not_beyond text limit n e h beyond = omega (arith, h, beyond.2, ap unsigned_abs one)
  where
    same : Some n ≡ Some (beyond.0) → n ≡ beyond.0
    same e = cc

    one : n ≡ beyond.0
    one = same (sym e ∙ nearest_is_computed text beyond.0 beyond.1)

pub beyond_from : (text : List ℕ) (limit n : ℤ) → micron_of text ≡ Some n → unsigned_abs limit < unsigned_abs n → IsMicronBeyond text limit
beyond_from text limit n e h = (n, micron_is_nearest text n e, h)

-- what was written for a number is read as this number
pub written_is_read : (text : List ℕ) (limit n : ℤ) → unsigned_abs limit ≤ widest → unsigned_abs n ≤ unsigned_abs limit → text ≡ micron_text n → micron_of text ≡ Some n
written_is_read text limit n small h e = ap (λ t. micron_of t) e ∙ (written_number n (omega (arith, small, h))).read

pub one_some : (x y : ℤ) → Some x ≡ Some y → x ≡ y
one_some x y e = cc
