-- Lead-ins among moves: what they are before the move behind them.
use Rattle.std.proofs.Common.{arith, ◌≡◌, ◌<◌, ◌+◌, ◌↔◌, ℕ, Bool, List, ◌∷◌, length, map, take, drop, sym, ap, subst, subst₂, ◌∙◌}
use Rattle.std.specs.Prelude.{All, Some, slice_get, IsTrue}
use Rattle.std.specs.List.{AllZip}
use Rattle.std.proofs.lemmas.List.{drop_more}
use Rattle.std.proofs.lemmas.List.Elements.{All-map, All-take, All-weaker}
use Rattle.std.proofs.lemmas.Option.{slice_get_within, get_or_from_slice_get}
use Rattle.nest_base.specs.declared.places.Point.{Point}
use Rattle.nest_base.specs.declared.places.Edge.{Edge}
use Rattle.nest_base.specs.declared.numbers.Side.{Side}
use Rattle.nest_base.specs.Plane.{HalfEdge}
use Rattle.nest_base.specs.Range.{widest}
use Rattle.nest_base.proofs.ListReads.{one_read, read-drop}
use Rattle.nest_base.proofs.Selections.{same_selection}
use Rattle.half_edges.specs.Numbers.{half_edges_of}
use Rattle.half_edges.specs.Graph.{Graph}
use Rattle.plate_parts.specs.declared.leads.Lead.{Lead}
use Rattle.plate_parts.specs.LeadIns.{IsFreeLeadIn}
use Rattle.cover_plan.specs.Trails.{half_edge_of}
use Rattle.cover_plan.proofs.GraphHalves.{half_is}
use Rattle.lead_ins.specs.Corners.{IsLeadWithin, IsOffEdges}
use Rattle.lead_ins.proofs.Tried.{wider}
use Rattle.code_moves.specs.declared.moves.Move.{Move}
use Rattle.code_moves.specs.Meaning.{code_range}
use Rattle.code_moves.specs.Moves.{way}
use Rattle.ngc_meaning.specs.CodeMoves.{IsCodeMove, EachFollows, before_the_code}
use Rattle.sound_code.specs.Sound.{IsLitOffEdges, IsLeadIn, lead_of}
use Rattle.replay_check.specs.declared.kinds.Kind.{Kind}
use Rattle.replay_check.specs.declared.kinds.Kind.TheVariants.{OnEdge, LeadIn}
use Rattle.replay_check.specs.Kinds.{IsKind}
use Rattle.replay_check.specs.Leads.{GoesOnAlong, AreLeadsBefore}
use Rattle.replay_check.proofs.KindsApart.{kind_is_edge_move, edge_kind}
use Rattle.replay_check.proofs.MoveKinds.{kind_at, has_kind}
use Rattle.replay_check.proofs.OffEdges.{begins_there}
use Rattle.replay_check.proofs.SelectedSoFar.{All-selected}

-- a list from a place on begins with what stands there
drop_read : {X : Type 0} (xs : List X) (k : ℕ) (x : X) → slice_get xs k ≡ Some x → drop k xs ≡ x ∷ drop (k + 1) xs
drop_read xs k x at = drop_more xs k x (slice_get_within xs k x at) ∙ ap (λ y. y ∷ drop (k + 1) xs) (get_or_from_slice_get xs k x x at)

read_of_drop : {X : Type 0} (xs : List X) (k : ℕ) (x : X) (rest : List X) → drop k xs ≡ x ∷ rest → slice_get xs k ≡ Some x
read_of_drop xs k x rest is =
    let here : k + 0 ≡ k = omega arith in
    ap (slice_get xs) (sym here) ∙ sym (read-drop k xs 0) ∙ ap (λ l. slice_get l 0) is

-- the ends of code's moves lie within the range of exact predicates
move_within : (m : Move) → IsCodeMove m → IsLeadWithin widest (lead_of m)
move_within m is = record { from = wider code_range widest m.from (omega arith) is.from_within; to = wider code_range widest m.to (omega arith) is.to_within }

-- so lead-ins among them do
pub leads_within : (edges : List Edge) (moves : List Move) (i : ℕ) (leads : List Lead) → All IsCodeMove moves → AreLeadsBefore edges moves i leads →
    All (IsLeadWithin widest) leads
leads_within edges moves i leads code (earlier, selected, are) =
    subst (All (IsLeadWithin widest)) (sym are) (All-map (IsLeadWithin widest) lead_of earlier
    (All-weaker IsCodeMove (λ m. IsLeadWithin widest (lead_of m)) move_within earlier
    (All-selected (IsLitOffEdges edges) IsCodeMove selected (All-take IsCodeMove i moves code))))

module _ (graph : Graph) (moves : List Move) (kinds : List Kind) (are : AllZip (IsKind graph.edges) moves kinds) where
  -- the next move's kind tells the number of its half-edge
  goes_along : (i : ℕ) (side : Side) (on : GoesOnAlong moves kinds i side) → IsKind graph.edges on.move (OnEdge side)
  goes_along i side on = kind_at graph.edges moves kinds are i on.move (OnEdge side) on.at on.kind

  -- which is one of the graph
  pub side_below : (i : ℕ) (side : Side) → GoesOnAlong moves kinds i side → side.0 < length (half_edges_of graph.edges)
  side_below i side on = slice_get_within (half_edges_of graph.edges) side.0 (way on.move) (goes_along i side on).1

  -- and the half-edge itself
  way_is : (i : ℕ) (side : Side) (on : GoesOnAlong moves kinds i side) → half_edge_of graph side.0 ≡ way on.move
  way_is i side on = half_is graph side.0 (way on.move) (goes_along i side on).1

  module _ (names : List Point) (i : ℕ) (m : Move) (at : slice_get moves i ≡ Some m) where
    -- behind a lead-in comes a move along an edge
    pub goes_on : IsLeadIn graph.edges names (take i moves) m (drop (i + 1) moves) → (side : Side) × GoesOnAlong moves kinds (i + 1) side
    goes_on is =
        let at_next = read_of_drop moves (i + 1) is.next is.rest is.follows in
        let kind = has_kind graph.edges moves kinds are (i + 1) is.next at_next in
        let side = edge_kind graph.edges is.next kind.0 (kind_at graph.edges moves kinds are (i + 1) is.next kind.0 at_next kind.1) is.on_edge in
        (side.0, record { move = is.next; at = at_next; not_fresh = is.not_fresh; kind = kind.1 ∙ ap Some side.1 })

    module _ (leads : List Lead) (earlier : AreLeadsBefore graph.edges moves i leads) (side : Side) (on : GoesOnAlong moves kinds (i + 1) side) where
      -- a move that may be a lead-in is one where it's free before the half-edge of the next
      leads_in_where_free : slice_get kinds i ≡ Some LeadIn → IsFreeLeadIn graph.edges names leads (half_edge_of graph side.0) m.from →
          IsLeadIn graph.edges names (take i moves) m (drop (i + 1) moves)
      leads_in_where_free lead free = record {
        fresh = (kind_at graph.edges moves kinds are i m LeadIn at lead).0.fresh;
        next = on.move;
        rest = drop (i + 1 + 1) moves;
        follows = drop_read moves (i + 1) on.move on.at;
        on_edge = kind_is_edge_move graph.edges on.move side (goes_along (i + 1) side on);
        not_fresh = on.not_fresh;
        earlier = earlier.0;
        all_earlier = earlier.1;
        free = subst₂ (λ ls h. IsFreeLeadIn graph.edges names ls h m.from) earlier.2 (way_is (i + 1) side on) free;
      }

      -- and since that begins where the move ends, no edge needs to be looked at again
      pub off_before_next : EachFollows before_the_code moves → slice_get kinds i ≡ Some LeadIn → IsOffEdges graph.edges (half_edge_of graph side.0).from m.from
      off_before_next follows lead =
          subst (λ v. IsOffEdges graph.edges v m.from)
          (sym (ap (λ (h : HalfEdge). h.from) (way_is (i + 1) side on) ∙ begins_there moves follows i m at on.move on.at))
          (kind_at graph.edges moves kinds are i m LeadIn at lead).1

      -- and there alone
      free_where_leads_in : IsLeadIn graph.edges names (take i moves) m (drop (i + 1) moves) →
          IsFreeLeadIn graph.edges names leads (half_edge_of graph side.0) m.from
      free_where_leads_in is =
          let next : is.next ≡ on.move = one_read moves (i + 1) is.next on.move (read_of_drop moves (i + 1) is.next is.rest is.follows) on.at in
          let before : map lead_of is.earlier ≡ leads =
          ap (map lead_of) (same_selection (IsLitOffEdges graph.edges) is.all_earlier earlier.1) ∙ sym earlier.2 in
          subst₂ (λ ls h. IsFreeLeadIn graph.edges names ls h m.from) before (ap way next ∙ sym (way_is (i + 1) side on)) is.free

      -- so a test whether it's free there tells whether it is one
      pub told_by_freedom : (answer : Bool) (from : Point) → m.from ≡ from → slice_get kinds i ≡ Some LeadIn →
          IsTrue answer ↔ IsFreeLeadIn graph.edges names leads (half_edge_of graph side.0) from →
          IsTrue answer ↔ IsLeadIn graph.edges names (take i moves) m (drop (i + 1) moves)
      told_by_freedom answer from begins lead test = (
        λ is. leads_in_where_free lead (subst (IsFreeLeadIn graph.edges names leads (half_edge_of graph side.0)) (sym begins) (test.0 is)),
        λ is. test.1 (subst (IsFreeLeadIn graph.edges names leads (half_edge_of graph side.0)) begins (free_where_leads_in is)),
      )
