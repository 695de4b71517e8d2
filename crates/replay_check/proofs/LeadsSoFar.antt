-- Lead-ins among the first moves, and one move more.
use Rattle.std.proofs.Common.{arith, ◌≡◌, inl, inr, ◌<◌, ◌≤◌, ◌+◌, ℕ, List, [], ◌∷◌, ◌++◌, length, take, drop, refl, sym, ap, subst₂, ◌∙◌}
use Rattle.std.specs.Prelude.{Some, slice_get}
use Rattle.std.proofs.lemmas.List.{map_push}
use Rattle.std.proofs.lemmas.Bool.{cases_lt}
use Rattle.std.proofs.lemmas.Option.{slice_get_within}
use Rattle.nest_base.specs.declared.places.Point.{Point}
use Rattle.nest_base.specs.declared.places.Edge.{Edge}
use Rattle.nest_base.specs.Selection.Selects.{none}
use Rattle.nest_base.proofs.ListReads.{one_read}
use Rattle.plate_parts.specs.declared.leads.Lead.{Lead}
use Rattle.code_moves.specs.declared.moves.Move.{Move}
use Rattle.sound_code.specs.Sound.{IsLitOffEdges, IsLeadIn, lead_of}
use Rattle.replay_check.specs.Kinds.{MayLeadIn}
use Rattle.replay_check.specs.Verdicts.{IsFirst, LeadsBadly}
use Rattle.replay_check.specs.Leads.{LeadInsHold, AreLeadsBefore}
use Rattle.replay_check.proofs.SelectedSoFar.{one_more_selected, one_more_passed}

-- each of the first n moves that may be a lead-in is one
abbrev pub HoldBefore : List Edge → List Point → List Move → ℕ → Type 0
HoldBefore edges names moves n =
    (k : ℕ) (m : Move) → k < n → slice_get moves k ≡ Some m → MayLeadIn edges m → IsLeadIn edges names (take k moves) m (drop (k + 1) moves)

-- before the first move there are none
pub none_yet : (edges : List Edge) (moves : List Move) (leads : List Lead) → leads ≡ [] → AreLeadsBefore edges moves 0 leads
none_yet edges moves leads is = ([], none, is)

module _ (edges : List Edge) (moves : List Move) (i : ℕ) (m : Move) (at : slice_get moves i ≡ Some m) where
  -- the next move isn't lit off edges
  pub lead_passed : (leads more : List Lead) → AreLeadsBefore edges moves i leads → (IsLitOffEdges edges m → ⊥) → more ≡ leads →
      AreLeadsBefore edges moves (i + 1) more
  lead_passed leads more before not_off same =
      (before.0, one_more_passed (IsLitOffEdges edges) moves before.0 i m at before.1 not_off, same ∙ before.2)

  -- or is
  pub lead_added : (leads more : List Lead) (l : Lead) → AreLeadsBefore edges moves i leads → IsLitOffEdges edges m →
      more ≡ leads ++ l ∷ [] → l ≡ lead_of m → AreLeadsBefore edges moves (i + 1) more
  lead_added leads more l before off pushed is = (
    before.0 ++ m ∷ [],
    one_more_selected (IsLitOffEdges edges) moves before.0 i m at before.1 off,
    pushed ∙ ap (λ k. leads ++ k ∷ []) is ∙ ap (λ ks. ks ++ lead_of m ∷ []) before.2 ∙ sym (map_push lead_of before.0 m),
  )

  module _ (names : List Point) (before : HoldBefore edges names moves i) where
    -- the next move is a lead-in where it may be one
    pub holds_of_next : (MayLeadIn edges m → IsLeadIn edges names (take i moves) m (drop (i + 1) moves)) → HoldBefore edges names moves (i + 1)
    holds_of_next here k n below at_n = elim (cases_lt k i) [
      | inl less ↦ before k n less at_n
      | inr least ↦
          let same : i ≡ k = omega (arith, below, least) in
          subst₂ (λ j l. MayLeadIn edges l → IsLeadIn edges names (take j moves) l (drop (j + 1) moves)) same
          (one_read moves i m n at (ap (slice_get moves) same ∙ at_n)) here
    ]

    -- or it's the first bad one
    pub first_bad : MayLeadIn edges m → (IsLeadIn edges names (take i moves) m (drop (i + 1) moves) → ⊥) →
        IsFirst (LeadsBadly edges names) moves m.line
    first_bad may bad = record {
      place = i;
      move = m;
      holds = (at, record { lead = may; bad = bad });
      line_is = refl;
      none_before = λ k n below holds. holds.1.bad (before k n below holds.0 holds.1.lead);
    }

-- all moves are told
pub all_hold : (edges : List Edge) (names : List Point) (moves : List Move) (i : ℕ) → length moves ≤ i → HoldBefore edges names moves i →
    LeadInsHold edges names moves
all_hold edges names moves i end before k m at = before k m (omega (arith, slice_get_within moves k m at)) at
