-- Coordinates that are no places in code.
use Rattle.std.proofs.Common.{◌≡◌, ℕ, List, pos, None, false, refl, sym, ap, ◌∙◌}
use Rattle.std.specs.Prelude.{if◌then◌else◌}
use Rattle.std.specs.Option.{option_map}
use Rattle.std.proofs.lemmas.Bool.{lt-leb}
use Rattle.micron_decimals.specs.declared.read.NumberError.{NumberError}
use Rattle.micron_decimals.specs.declared.read.NumberError.TheVariants.{NotANumber, TooFar as IsTooFar}
use Rattle.micron_decimals.specs.Decimals.{decimal_of, micron_of, nearest_micron, IsMicronBeyond}
use Rattle.micron_decimals.proofs.Nearest.{nearest_is_computed}
use Rattle.code_moves.specs.Meaning.{code_range, is_near}
use Rattle.ngc_meaning.specs.declared.number.Coordinate.TheVariants.{At, TooFar}
use Rattle.ngc_meaning.specs.Numbers.{coordinate_of}

-- a text that isn't a decimal
none_is_too_far : (text : List ℕ) → decimal_of text ≡ None → coordinate_of (micron_of text) ≡ TooFar
none_is_too_far text e = ap (λ d. coordinate_of (option_map nearest_micron d)) e

-- a decimal whose nearest micrometre lies beyond the range of places in code
beyond_is_too_far : (text : List ℕ) → IsMicronBeyond text (pos code_range) → coordinate_of (micron_of text) ≡ TooFar
beyond_is_too_far text h =
    ap coordinate_of (nearest_is_computed text h.0 h.1)
    ∙ ap (λ near. if near then At h.0 else TooFar) far
  where
    far : is_near h.0 ≡ false
    far = lt-leb _ _ h.2

-- a text that isn't read, for either cause
pub unread_is_too_far : (text : List ℕ) (cause : NumberError) → ((cause ≡ NotANumber) → decimal_of text ≡ None) → ((cause ≡ IsTooFar) → IsMicronBeyond text (pos code_range)) →
    TooFar ≡ coordinate_of (micron_of text)
unread_is_too_far text NotANumber h k = sym (none_is_too_far text (h refl))
unread_is_too_far text IsTooFar h k = sym (beyond_is_too_far text (k refl))
