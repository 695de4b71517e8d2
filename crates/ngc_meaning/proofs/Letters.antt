-- Where letters stand in a text.
use Rattle.std.proofs.Common.{arith, ◌≡◌, ℕ, Bool, true, false, List, length, None, Some, ltb, cond, refl}
use Rattle.std.specs.Prelude.{position, not}
use Rattle.std.specs.List.{position_or_len}
use Rattle.std.proofs.lemmas.Bool.{ltb-false}
use Rattle.std.proofs.lemmas.List.Sums.{prefix_len-le-length}

fails : {X : Type 0} (b : Bool) (x : X) → None ≡ cond b (Some x) None → b ≡ false
fails true x e = absurd (cc)
fails false x e = refl

-- where no byte passes, the first one that does counts as the end
pub none_passes : (p : ℕ → Bool) (text : List ℕ) → None ≡ position p text → length text ≡ position_or_len p text
none_passes p text e =
    let i = position_or_len p text in
    omega (arith, ltb-false i (length text) (fails (ltb i (length text)) i e), prefix_len-le-length (λ b. not (p b)) text)
