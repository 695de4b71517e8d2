-- What edge moves burn, found out move by move.
use Rattle.std.proofs.Common.{◌≡◌, ◌<◌, ℕ, ◌+◌, List, [], ◌∷◌, ◌++◌, length, take, get_or, refl, subst, arith, min}
use Rattle.std.specs.Prelude.{Some, slice_get}
use Rattle.std.specs.List.{AllZip}
use Rattle.std.proofs.lemmas.List.{take_all}
use Rattle.std.proofs.lemmas.Option.{slice_get_read}
use Rattle.std.proofs.lemmas.Slice.Zip.{AllZip-long, all_zipped_more}
use Rattle.nest_base.specs.declared.places.Edge.{Edge}
use Rattle.nest_base.specs.declared.numbers.Side.{Side}
use Rattle.nest_base.specs.Selection.Selects.{none}
use Rattle.nest_base.proofs.ListReads.{one_read}
use Rattle.face_nesting.proofs.Zips.{zip_second}
use Rattle.face_nesting.proofs.Prefixes.{take_read}
use Rattle.sound_code.specs.Sound.{IsEdgeMove}
use Rattle.code_moves.specs.declared.moves.Move.{Move}
use Rattle.replay_check.specs.declared.burns.Burn.{Burn}
use Rattle.replay_check.specs.declared.kinds.Kind.{Kind}
use Rattle.replay_check.specs.declared.kinds.Kind.TheVariants.{OnEdge}
use Rattle.replay_check.specs.Kinds.{IsKind}
use Rattle.replay_check.specs.Burning.{AreBurnt, IsBurn}
use Rattle.replay_check.proofs.KindsApart.{kind_is_edge_move, edge_kind}
use Rattle.replay_check.proofs.Selecting.{selects_last, passes_last}

-- no move burns nothing
pub none_burnt : (edges : List Edge) (burns : List Burn) → burns ≡ [] → AreBurnt edges [] burns
none_burnt edges burns empty = rw empty (record { edge_moves = []; all = none; each = tt })

module _ (edges : List Edge) (moves : List Move) (kinds : List Kind) (zip : AllZip (IsKind edges) moves kinds) (i : ℕ) (m : Move) (kind : Kind)
    (within : i < length moves) (at : m ≡ get_or moves i m) (within_kinds : i < length kinds) (at_kind : kind ≡ get_or kinds i kind) where
  read : slice_get moves i ≡ Some m
  read = slice_get_read moves (length moves) i m refl within at

  is_kind : IsKind edges m kind
  is_kind =
      let found = zip_second (IsKind edges) moves kinds i m zip read in
      subst (IsKind edges m) (one_read kinds i found.0 kind found.1 (slice_get_read kinds (length kinds) i kind refl within_kinds at_kind)) found.2

  -- an edge move burns its edge
  pub burns_more : (s : Side) (burns more : List Burn) → kind ≡ OnEdge s → more ≡ burns ++ record { side = s; line = m.line } ∷ [] →
      AreBurnt edges (take i moves) burns → AreBurnt edges (take (i + 1) moves) more
  burns_more s burns more on pushed so_far =
      let is = subst (IsKind edges m) on is_kind in
      rw (take_read moves i m read, pushed) (record {
        edge_moves = so_far.edge_moves ++ m ∷ [];
        all = selects_last (IsEdgeMove edges) m (kind_is_edge_move edges m s is) so_far.all;
        each = all_zipped_more (IsBurn edges) so_far.edge_moves burns m (record { side = s; line = m.line }) so_far.each (is.1, refl);
      })

  -- another burns none
  pub burns_no_more : (burns : List Burn) → ((s : Side) → kind ≡ OnEdge s → ⊥) → AreBurnt edges (take i moves) burns →
      AreBurnt edges (take (i + 1) moves) burns
  burns_no_more burns other so_far = rw (take_read moves i m read) (record {
    edge_moves = so_far.edge_moves;
    all = passes_last (IsEdgeMove edges) m (λ edge. let on = edge_kind edges m kind is_kind edge in other on.0 on.1) so_far.all;
    each = so_far.each;
  })

-- at the end all moves are found out
pub all_burnt : (edges : List Edge) (moves : List Move) (kinds : List Kind) (n : ℕ) (burns : List Burn) → AllZip (IsKind edges) moves kinds →
    n ≡ min (length moves) (length kinds) → AreBurnt edges (take n moves) burns → AreBurnt edges moves burns
all_burnt edges moves kinds n burns zip end so_far =
    subst (λ (ms : List Move). AreBurnt edges ms burns) (take_all n moves (omega (arith, end, AllZip-long (IsKind edges) moves kinds zip))) so_far
