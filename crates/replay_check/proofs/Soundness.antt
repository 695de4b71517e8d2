-- Moves without a fault are sound.
use Rattle.std.proofs.Common.{◌≡◌, ℕ, ◌+◌, false, true, List, ◌∷◌, length, take, drop, sym, ap, ◌∙◌, subst}
use Rattle.std.specs.Prelude.{slice_get, Some}
use Rattle.std.specs.List.{AllZip}
use Rattle.std.proofs.Math.Seq.{take-append_seam, drop-append-add}
use Rattle.nest_base.specs.declared.places.Point.{Point}
use Rattle.nest_base.specs.declared.places.Edge.{Edge}
use Rattle.half_edges.proofs.Numbers.{side_is_half_edge}
use Rattle.code_moves.specs.declared.moves.Move.{Move}
use Rattle.code_moves.specs.Moves.{way}
use Rattle.sound_code.specs.Sound.{IsLitOffEdges, IsLeadIn, AreLeadIns}
use Rattle.replay_check.specs.declared.kinds.Kind.{Kind}
use Rattle.replay_check.specs.declared.kinds.Kind.TheVariants.{Unlit, OnEdge, Along, LeadIn, Blocked, Off}
use Rattle.replay_check.specs.Kinds.{IsKind}
use Rattle.replay_check.specs.Leads.{LeadInsHold}
use Rattle.replay_check.specs.Verdicts.{HoldsNowhere, StraysOff, BurnsPart, LeadsBadly}
use Rattle.replay_check.proofs.Placing.{read_second}
use Rattle.replay_check.proofs.Selecting.{split_is_there}

-- no move that may be a lead-in is none
pub hold_is_none_badly : (edges : List Edge) (names : List Point) (moves : List Move) → LeadInsHold edges names moves → HoldsNowhere (LeadsBadly edges names) moves
hold_is_none_badly edges names moves hold i m (at, badly) = badly.bad (hold i m at badly.lead)

module _ (edges : List Edge) (names : List Point) (moves : List Move) (kinds : List Kind) (are : AllZip (IsKind edges) moves kinds)
    (none_off : HoldsNowhere (StraysOff edges) moves) (none_along : HoldsNowhere (BurnsPart edges) moves) (hold : LeadInsHold edges names moves) where
  lead_in_at : (i : ℕ) (m : Move) → slice_get moves i ≡ Some m → IsLitOffEdges edges m → (kind : Kind) → IsKind edges m kind → IsLeadIn edges names (take i moves) m (drop (i + 1) moves)
  lead_in_at i m at off Unlit is = absurd (lit_or_not (sym is ∙ off.0))
    where
      lit_or_not : (false ≡ true) → ⊥
      lit_or_not e = cc
  lead_in_at i m at off (OnEdge s) is = absurd (off.1 (side_is_half_edge edges s.0 (way m) is.1))
  lead_in_at i m at off Along is = absurd (none_along i m (at, is))
  lead_in_at i m at off LeadIn is = hold i m at is.0
  lead_in_at i m at off Blocked is = hold i m at is.0
  lead_in_at i m at off Off is = absurd (none_off i m (at, is))

  pub are_lead_ins : AreLeadIns edges names moves
  are_lead_ins before m after split off =
      let at : slice_get moves (length before) ≡ Some m = ap (λ l. slice_get l (length before)) split ∙ split_is_there before m after in
      let (kind, kind_at, is) = read_second (IsKind edges) moves kinds are (length before) m at in
      let front : take (length before) moves ≡ before = ap (take (length before)) split ∙ take-append_seam before (m ∷ after) in
      let back : drop (length before + 1) moves ≡ after = ap (drop (length before + 1)) split ∙ drop-append-add before (m ∷ after) 1 in
      subst (λ l. IsLeadIn edges names before m l) back (subst (λ l. IsLeadIn edges names l m (drop (length before + 1) moves)) front (lead_in_at (length before) m at off kind is))
