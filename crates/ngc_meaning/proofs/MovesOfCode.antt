-- The moves of every code without a fault are such as code gives.
use Rattle.std.proofs.Common.{◌≡◌, ℕ, ◌^◌, ◌≤◌, List, length, None}
use Rattle.code_moves.specs.Meaning.{code_refusal_of, moves_of}
use Rattle.ngc_meaning.specs.CodeMoves.{AreCodeMoves}
use Rattle.ngc_meaning.proofs.EachMove.{each}
use Rattle.ngc_meaning.proofs.InOrder.{in_order}
use Rattle.ngc_meaning.proofs.Few.{few}

pub code_moves : (bytes : List ℕ) → length bytes ≤ 2 ^ 26 → code_refusal_of bytes ≡ None → AreCodeMoves (moves_of bytes)
code_moves bytes short accepted = record { each = each bytes accepted; in_order = in_order bytes; few = few bytes short }
