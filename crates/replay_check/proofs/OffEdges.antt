-- Lead-ins touch no edge before their end.
use Rattle.std.proofs.Common.{arith, ◌≡◌, ℕ, suc, ◌+◌, List, take, drop, inl, inr, refl, sym, ◌∙◌, subst}
use Rattle.std.specs.Prelude.{slice_get, Some}
use Rattle.nest_base.specs.declared.places.Point.{Point}
use Rattle.nest_base.specs.declared.places.Edge.{Edge}
use Rattle.nest_base.specs.Plane.{HalfEdge}
use Rattle.nest_base.proofs.ListReads.{read-drop}
use Rattle.plate_parts.specs.declared.leads.Lead.{Lead}
use Rattle.plate_parts.specs.LeadIns.{IsFreeLeadIn, TouchesAtMostAt}
use Rattle.lead_ins.specs.Corners.{IsOffEdges}
use Rattle.code_moves.specs.declared.moves.Move.{Move}
use Rattle.code_moves.specs.Moves.{way}
use Rattle.sound_code.specs.Sound.{IsLeadIn}
use Rattle.ngc_meaning.specs.CodeMoves.{EachFollows, before_the_code}
use Rattle.replay_check.specs.Kinds.{IsAlongEdge}
use Rattle.replay_check.proofs.Following.{next_follows}
use Rattle.replay_check.proofs.SharedPoints.{at_one_place}

-- a free lead-in touches an edge at most at the vertex that it leads to
free_is_off : (edges : List Edge) (names : List Point) (earlier : List Lead) (s : HalfEdge) (q : Point) → IsFreeLeadIn edges names earlier s q →
    IsOffEdges edges s.from q
free_is_off edges names earlier s q (inl (a, b, corner, fits)) e among = subst (λ (h : HalfEdge). TouchesAtMostAt h.from q e.low e.high) corner.0 (fits.off_edges e among)
free_is_off edges names earlier s q (inr (a, b, corner, fits)) e among = subst (λ (v : Point). TouchesAtMostAt v q e.low e.high) (sym corner.1.other.1) (fits.off_edges e among)

-- what touches edges at most at its end goes along none
pub off_edges_not_along : (edges : List Edge) (m : Move) → IsOffEdges edges m.to m.from → IsAlongEdge edges m → ⊥
off_edges_not_along edges m off along =
    let touches = off along.edge along.among in
    along.shares.apart (at_one_place along.shares.one along.shares.other m.to
    (touches along.shares.one along.shares.one_first along.shares.one_second) (touches along.shares.other along.shares.other_first along.shares.other_second))

-- among moves that follow one another
module _ (moves : List Move) (follows : EachFollows before_the_code moves) (i : ℕ) (m : Move) (at : slice_get moves i ≡ Some m) where
  -- the next move begins where this one ends
  pub begins_there : (n : Move) → slice_get moves (i + 1) ≡ Some n → n.from ≡ m.to
  begins_there n at_next =
      let next : i + 1 ≡ suc i = omega arith in
      (next_follows before_the_code moves i m n follows at (subst (λ k. slice_get moves k ≡ Some n) next at_next)).joined

  -- and a lead-in touches no edge before its end
  module _ (edges : List Edge) (names : List Point) (is : IsLeadIn edges names (take i moves) m (drop (i + 1) moves)) where
    pub next_begins_there : is.next.from ≡ m.to
    next_begins_there =
        let front : slice_get (drop (i + 1) moves) 0 ≡ Some is.next = subst (λ l. slice_get l 0 ≡ Some is.next) (sym is.follows) refl in
        let behind : i + 1 + 0 ≡ i + 1 = omega arith in
        begins_there is.next (subst (λ k. slice_get moves k ≡ Some is.next) behind (sym (read-drop (i + 1) moves 0) ∙ front))

    pub lead_in_is_off : IsOffEdges edges m.to m.from
    lead_in_is_off = subst (λ v. IsOffEdges edges v m.from) next_begins_there (free_is_off edges names _ (way is.next) m.from is.free)
