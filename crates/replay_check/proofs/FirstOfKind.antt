-- The first move of a kind, found among kinds.
use Rattle.std.proofs.Common.{◌≡◌, ◌<◌, ℕ, ◌+◌, List, take, drop, refl, subst, sym, ◌∙◌}
use Rattle.std.specs.Prelude.{Contains, Some, None, slice_get}
use Rattle.std.specs.List.{AllZip}
use Rattle.std.proofs.lemmas.Option.{none-some}
use Rattle.nest_base.specs.declared.places.Edge.{Edge}
use Rattle.nest_base.proofs.ListReads.{one_read, Contains-from_read}
use Rattle.face_nesting.proofs.Zips.{zip_first, zip_second}
use Rattle.code_moves.specs.declared.moves.Move.{Move}
use Rattle.replay_check.specs.declared.kinds.Kind.{Kind}
use Rattle.replay_check.specs.declared.kinds.Kind.TheVariants.{Along, Off}
use Rattle.replay_check.specs.Kinds.{IsKind}
use Rattle.replay_check.specs.Verdicts.{HoldsAt, HoldsNowhere, IsFirst, StraysOff, BurnsPart}
use Rattle.replay_check.proofs.KindsApart.{off_kind, along_kind}

-- of the moves of this kind P holds, and of no others
pub record TellsKind (edges : List Edge) (kind : Kind) (P : List Move → Move → List Move → Type 0) : Type 0 where
  pub holds : (before : List Move) (m : Move) (after : List Move) → IsKind edges m kind → P before m after
  pub alone : (before : List Move) (m : Move) (after : List Move) (k : Kind) → IsKind edges m k → P before m after → k ≡ kind

module _ (edges : List Edge) (P : List Move → Move → List Move → Type 0) (kind : Kind) (moves : List Move) (kinds : List Kind)
    (tells : TellsKind edges kind P) (zip : AllZip (IsKind edges) moves kinds) where
  -- where it holds, this kind stands
  kind_there : (i : ℕ) (m : Move) → HoldsAt P moves i m → slice_get kinds i ≡ Some kind
  kind_there i m (at, holds) =
      let k = zip_second (IsKind edges) moves kinds i m zip at in
      subst (λ l. slice_get kinds i ≡ Some l) (tells.alone (take i moves) m (drop (i + 1) moves) k.0 k.2 holds) k.1

  -- so it holds nowhere where no move is of this kind
  pub nowhere : (Contains kinds kind → ⊥) → HoldsNowhere P moves
  nowhere none i m holds = none (Contains-from_read kinds i kind (kind_there i m holds))

  -- and first at the first one
  pub first_at : (i : ℕ) (m : Move) → slice_get kinds i ≡ Some kind → ((j : ℕ) → j < i → slice_get kinds j ≡ Some kind → ⊥) → slice_get moves i ≡ Some m →
      IsFirst P moves m.line
  first_at i m at first at_move =
      let found = zip_first (IsKind edges) moves kinds i kind zip at in
      let is = subst (λ n. IsKind edges n kind) (one_read moves i found.0 m found.1 at_move) found.2 in
      record {
        place = i;
        move = m;
        holds = (at_move, tells.holds (take i moves) m (drop (i + 1) moves) is);
        line_is = refl;
        none_before = λ j n before holds. first j before (kind_there j n holds);
      }

  -- there are as many moves as kinds
  pub move_there : (i : ℕ) → slice_get kinds i ≡ Some kind → slice_get moves i ≡ None → ⊥
  move_there i at none = let found = zip_first (IsKind edges) moves kinds i kind zip at in none-some found.0 (sym none ∙ found.1)

-- so Off tells what strays off the drawing, and Along what burns a part of an edge
pub off_tells : (edges : List Edge) → TellsKind edges Off (StraysOff edges)
off_tells edges = record { holds = λ before m after is. is; alone = λ before m after k is off. off_kind edges m k is off }

pub along_tells : (edges : List Edge) → TellsKind edges Along (BurnsPart edges)
along_tells edges = record { holds = λ before m after is. is; alone = λ before m after k is along. along_kind edges m k is along }
