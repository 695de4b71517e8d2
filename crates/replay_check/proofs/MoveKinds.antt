-- The kinds of moves, read one by one.
use Rattle.std.proofs.Common.{arith, ◌≡◌, ◌⊎◌, inl, inr, ℕ, ◌<◌, List, length, get_or, subst, subst₂}
use Rattle.std.specs.Prelude.{Some, slice_get, MatchOption, IsSomeAnd}
use Rattle.std.specs.List.{AllZip}
use Rattle.std.proofs.lemmas.Bool.{both_ways}
use Rattle.std.proofs.lemmas.Option.{slice_get_within, slice_get-get_or}
use Rattle.std.proofs.lemmas.Slice.Zip.{AllZip-left, AllZip-long}
use Rattle.nest_base.specs.declared.places.Edge.{Edge}
use Rattle.nest_base.specs.declared.numbers.Side.{Side}
use Rattle.nest_base.proofs.ListReads.{read_below}
use Rattle.code_moves.specs.declared.moves.Move.{Move}
use Rattle.sound_code.specs.Sound.{IsLitOffEdges}
use Rattle.replay_check.specs.declared.kinds.Kind.{Kind}
use Rattle.replay_check.specs.declared.kinds.Kind.TheVariants.{Unlit, OnEdge, Along, Off}
use Rattle.replay_check.specs.Kinds.{IsKind, IsAlongEdge, MayLeadIn, IsOffDrawing}
use Rattle.replay_check.proofs.KindsApart.{kind_is_edge_move}

module _ (edges : List Edge) (moves : List Move) (kinds : List Kind) (are : AllZip (IsKind edges) moves kinds) (i : ℕ) where
  -- a move and a kind at one place go together
  pub kind_at : (m : Move) (kind : Kind) → slice_get moves i ≡ Some m → slice_get kinds i ≡ Some kind → IsKind edges m kind
  kind_at m kind at_m at_kind =
      subst₂ (λ a b. MatchOption a (Unit {0}) (λ z. IsSomeAnd b (IsKind edges z))) at_m at_kind (AllZip-left (IsKind edges) moves kinds are i)

  -- there are as many kinds as moves
  pub kind_below : i < length moves → i < length kinds
  kind_below below = omega (arith, below, AllZip-long (IsKind edges) moves kinds are)

  -- so each move has a kind
  pub has_kind : (m : Move) → slice_get moves i ≡ Some m → (kind : Kind) × (slice_get kinds i ≡ Some kind)
  has_kind m at = read_below kinds i (kind_below (slice_get_within moves i m at))

  -- as code reads them
  pub kind_here : (d : Move) (e : Kind) → i < length moves → IsKind edges (get_or moves i d) (get_or kinds i e)
  kind_here d e below = kind_at (get_or moves i d) (get_or kinds i e) (slice_get-get_or moves i d below) (slice_get-get_or kinds i e (kind_below below))

module _ (edges : List Edge) (m : Move) where
  -- these two kinds aren't lit off edges
  pub not_off_edges : (kind : Kind) → (kind ≡ Unlit) ⊎ ((s : Side) × (kind ≡ OnEdge s)) → IsKind edges m kind → IsLitOffEdges edges m → ⊥
  not_off_edges kind (inl same) is off = both_ways m.lit (subst (IsKind edges m) same is) off.0
  not_off_edges kind (inr (s, same)) is off = off.1 (kind_is_edge_move edges m s (subst (IsKind edges m) same is)).1

  -- but these two are, and can't be lead-ins
  pub off_edges_alone : (kind : Kind) → (kind ≡ Along) ⊎ (kind ≡ Off) → IsKind edges m kind → IsLitOffEdges edges m × (MayLeadIn edges m → ⊥)
  off_edges_alone kind (inl same) is =
      let along : IsAlongEdge edges m = subst (IsKind edges m) same is in
      (along.off_edges, λ may. may.not_along along)
  off_edges_alone kind (inr same) is =
      let off : IsOffDrawing edges m = subst (IsKind edges m) same is in
      (off.off_edges, off.no_lead_in)
