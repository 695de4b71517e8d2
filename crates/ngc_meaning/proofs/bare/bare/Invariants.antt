use Rattle.std.proofs.Common.{◌≡◌, ◌≤◌, drop, ◌++◌, List, ℕ}
use Rattle.std.specs.Prelude.{option_map, length}
use Rattle.ngc_meaning.specs.Bare.{left_of}
use Rattle.ngc_meaning.proofs.Uncommented.{left_from}
use Rattle.ngc_meaning.proofs.bare.bare.Given as goal

-- what is kept so far, before what is left of the other bytes, is what is left of the line
abbrev pub invariant-bytes : goal.invariant-bytes
invariant-bytes l = record {
  room : length l.text.items ≤ l.byte-index;
  left : option_map (λ (t : List ℕ). l.text.items ++ t) (left_from l.is_comment (drop l.byte-index l.line)) ≡ left_of l.line;
}
