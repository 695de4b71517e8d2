-- Coordinates beyond the range.
use Rattle.std.proofs.Common.{◌≡◌, ℕ, ◌<◌, List, ℤ, pos, Some, arith, sym, ap, ◌∙◌}
use Rattle.std.specs.Prelude.{unsigned_abs}
use Rattle.std.proofs.lemmas.Bool.Decides.{nat_tests}
use Rattle.micron_decimals.specs.Decimals.{micron_of, IsMicronBeyond}
use Rattle.micron_decimals.proofs.Nearest.{nearest_is_computed}
use Rattle.dxf_entities.specs.declared.fault.Fault.TheVariants.{TooFar}
use Rattle.nest_base.specs.Range.{range}
use Rattle.dxf_entities.specs.Refusals.{unless_near}

far : (n : ℤ) (line : ℕ) → range < unsigned_abs n → Some (TooFar line) ≡ unless_near (Some n) line
far n line h = grind (arith, nat_tests)

-- a text whose micrometre lies beyond the range
pub far_off : (text : List ℕ) (line : ℕ) → IsMicronBeyond text (pos range) → Some (TooFar line) ≡ unless_near (micron_of text) line
far_off text line beyond = far beyond.0 line beyond.2 ∙ ap (λ o. unless_near o line) (sym (nearest_is_computed text beyond.0 beyond.1))
