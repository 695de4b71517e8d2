-- Moves that follow one another, by place.
use Rattle.std.proofs.Common.{◌≡◌, ℕ, zero, suc, List, [], ◌∷◌, subst}
use Rattle.std.specs.Prelude.{slice_get, Some}
use Rattle.std.proofs.lemmas.Option.{none-some, same_Some}
use Rattle.code_moves.specs.declared.moves.Move.{Move}
use Rattle.ngc_meaning.specs.CodeMoves.{Follows, EachFollows}

-- the move behind another can follow it
pub next_follows : (before : Move) (moves : List Move) (i : ℕ) (m n : Move) → EachFollows before moves → slice_get moves i ≡ Some m → slice_get moves (suc i) ≡ Some n → Follows m n
next_follows before [] i m n each at next = absurd (none-some m at)
next_follows before (x ∷ []) zero m n each at next = absurd (none-some n next)
next_follows before (x ∷ y ∷ moves) zero m n each at next = subst (λ z. Follows z n) (same_Some x m at) (subst (λ z. Follows x z) (same_Some y n next) each.1.0)
next_follows before (x ∷ moves) (suc i) m n each at next = next_follows x moves i m n each.1 at next
