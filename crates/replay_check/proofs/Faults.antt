-- Code with a fault isn't sound.
use Rattle.std.proofs.Common.{◌≡◌, ℕ, ◌+◌, List, ◌∷◌, ◌++◌, take, drop, inl, inr, refl, sym, ap, ◌∙◌, subst}
use Rattle.std.specs.Prelude.{Contains, slice_get, Some, map}
use Rattle.std.proofs.lemmas.List.Elements.{All-contains}
use Rattle.std.proofs.lemmas.List.{map-append}
use Rattle.nest_base.specs.declared.places.Point.{Point}
use Rattle.nest_base.specs.declared.places.Edge.{Edge}
use Rattle.nest_base.specs.Plane.{twin}
use Rattle.nest_base.specs.Selection.{Selects, HasCount}
use Rattle.nest_base.proofs.Selections.{same_selection}
use Rattle.plate_sides.specs.Reach.{Reaches}
use Rattle.code_moves.specs.declared.moves.Move.{Move}
use Rattle.code_moves.specs.Moves.{way}
use Rattle.sound_code.specs.Sound.{IsEdgeMove, IsMoveAlong, IsLitOffEdges, IsLeadIn, IsSoundCode}
use Rattle.sound_code.proofs.FreeLeadIns.{free_is_apart}
use Rattle.ngc_meaning.specs.CodeMoves.{EachFollows, before_the_code}
use Rattle.replay_check.specs.Verdicts.{HoldsAt, StraysOff, BurnsPart, BurnsAgain, LeadsBadly, BurnsDetached, IsMissed}
use Rattle.replay_check.specs.declared.verdict.Verdict.TheVariants.{Sound, OffDrawing, PartEdge, Twice, BadLead, Missed, Detached}
use Rattle.replay_check.specs.Laws.{FaultyCodeIsUnsound}
use Rattle.replay_check.proofs.Selecting.{split_there, split_selection, first_taken, none_earlier, some_selected}
use Rattle.replay_check.proofs.OffEdges.{off_edges_not_along, next_begins_there, lead_in_is_off}

-- a lit move of sound code that goes along no edge leads from another place to a vertex
module _ (edges : List Edge) (names : List Point) (moves : List Move) (follows : EachFollows before_the_code moves) (sound : IsSoundCode edges names moves) where
  record Leads (i : ℕ) (m : Move) : Type 0 where
    is_lead_in : IsLeadIn edges names (take i moves) m (drop (i + 1) moves)
    begins_there : is_lead_in.next.from ≡ m.to

  lead_at : (i : ℕ) (m : Move) → slice_get moves i ≡ Some m → IsLitOffEdges edges m → Leads i m
  lead_at i m at off = record { is_lead_in = lead; begins_there = next_begins_there moves follows i m at edges names lead }
    where
      lead : IsLeadIn edges names (take i moves) m (drop (i + 1) moves)
      lead = sound.lead_ins (take i moves) m (drop (i + 1) moves) (split_there moves i m at) off

  none_strays : (i : ℕ) (m : Move) → HoldsAt (StraysOff edges) moves i m → ⊥
  none_strays i m (at, off) = off.no_lead_in (record {
    off_edges = off.off_edges;
    not_along = off.not_along;
    fresh = leads.is_lead_in.fresh;
    leads_on = λ same. free_is_apart edges names _ (way leads.is_lead_in.next) m.from leads.is_lead_in.free (same ∙ sym leads.begins_there);
    to_vertex = (way leads.is_lead_in.next, (leads.is_lead_in.on_edge.1, leads.begins_there));
  })
    where
      leads : Leads i m
      leads = lead_at i m at off.off_edges

  none_along : (i : ℕ) (m : Move) → HoldsAt (BurnsPart edges) moves i m → ⊥
  none_along i m (at, along) =
      off_edges_not_along edges m (lead_in_is_off moves follows i m at edges names (lead_at i m at along.off_edges).is_lead_in) along

  counted : (e : Edge) → Contains edges e → HasCount (IsMoveAlong e) moves 1
  counted e among = All-contains (λ (f : Edge). HasCount (IsMoveAlong f) moves 1) edges e sound.each_edge_once among

  none_again : (i : ℕ) (m : Move) → HoldsAt (BurnsAgain edges) moves i m → ⊥
  none_again i m (at, again) = none_earlier (IsMoveAlong again.edge) (take i moves) m (drop (i + 1) moves)
      (subst (λ l. HasCount (IsMoveAlong again.edge) l 1) (split_there moves i m at) (counted again.edge again.among)) again.along again.earlier again.came_before again.along_too

  none_badly : (i : ℕ) (m : Move) → HoldsAt (LeadsBadly edges names) moves i m → ⊥
  none_badly i m (at, badly) = badly.bad (lead_at i m at badly.lead.off_edges).is_lead_in

  none_missed : (e : Edge) → IsMissed edges moves e → ⊥
  none_missed e (among, missed) = let r = some_selected (IsMoveAlong e) moves (counted e among) in missed r.0 r.1 r.2

  none_detached : (i : ℕ) (m : Move) → HoldsAt (BurnsDetached edges) moves i m → ⊥
  none_detached i m (at, detached) = elim detached.cut_off [ inl cut ↦ cut reach.0 | inr cut ↦ cut reach.1 ]
    where
      reach : Reaches edges detached.burnt (way m) × Reaches edges detached.burnt (twin (way m))
      reach =
          let (burns, (edge_moves, selects, are), enclosing) = sound.order_enclosing in
          let split = split_selection (IsEdgeMove edges) (take i moves) (m ∷ drop (i + 1) moves) (subst (λ l. Selects (IsEdgeMove edges) l edge_moves) (split_there moves i m at) selects) in
          let (rest, back) = first_taken (IsEdgeMove edges) m (drop (i + 1) moves) detached.on_edge split.of_back in
          let (earlier, all_earlier, burnt_are) = detached.earlier in
          let same : earlier ≡ split.front = same_selection (IsEdgeMove edges) all_earlier split.of_front in
          let order : burns ≡ detached.burnt ++ way m ∷ map way rest = are ∙ ap (map way) (split.joined ∙ ap (λ l. split.front ++ l) back) ∙ map-append way split.front (m ∷ rest)
          ∙ ap (λ l. l ++ way m ∷ map way rest) (ap (map way) (sym same) ∙ sym burnt_are) in
          enclosing detached.burnt (way m) (map way rest) order

pub unsound : FaultyCodeIsUnsound
unsound edges names moves (Sound pierces) follows is tells sound = tells pierces refl
unsound edges names moves (OffDrawing line) follows is tells sound = none_strays edges names moves follows sound is.place is.move is.holds
unsound edges names moves (PartEdge line) follows (none, is) tells sound = none_along edges names moves follows sound is.place is.move is.holds
unsound edges names moves (Twice line) follows (none, is) tells sound = none_again edges names moves follows sound is.place is.move is.holds
unsound edges names moves (BadLead line) follows (none, is) tells sound = none_badly edges names moves follows sound is.place is.move is.holds
unsound edges names moves (Missed low high) follows (none, is) tells sound = none_missed edges names moves follows sound (record { low = low; high = high }) is.missed
unsound edges names moves (Detached line) follows (none, is) tells sound = none_detached edges names moves follows sound is.place is.move is.holds
