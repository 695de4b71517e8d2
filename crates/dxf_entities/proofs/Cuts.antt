-- The front of a text, copied.
use Rattle.std.proofs.Common.{◌≡◌, ℕ, List, ◌++◌, length, take, arith, ap, sym, ◌∙◌}
use Rattle.std.specs.Prelude.{min}
use Rattle.std.proofs.Math.Seq.{take-append_seam}
use Rattle.std.proofs.lemmas.List.{length-take, take_min}

-- so much of it, with other bytes behind
pub front_copied : (name front rest : List ℕ) (count : ℕ) → count ≡ min 32 (length name) → front ≡ take count name → take count (front ++ rest) ≡ take 32 name
front_copied name front rest count n e =
    let long : length front ≡ count = omega (arith, n, ap length e, length-take count name) in
    ap (λ k. take k (front ++ rest)) (sym long) ∙ take-append_seam front rest ∙ e ∙ ap (λ k. take k name) n ∙ take_min 32 name
