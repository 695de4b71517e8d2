-- Edges that burn again: by numbers, and by moves.
use Rattle.std.proofs.Common.{arith, ◌≡◌, ℕ, ◌+◌, ◌⊎◌, inl, inr, List, take, drop, refl, sym, ◌∙◌, subst}
use Rattle.std.specs.Prelude.{slice_get, Some, Contains, AllPairs}
use Rattle.std.specs.List.{AllZip}
use Rattle.std.proofs.lemmas.List.{take-map}
use Rattle.nest_base.specs.declared.places.Edge.{Edge}
use Rattle.nest_base.specs.Plane.{HalfEdge, twin}
use Rattle.nest_base.specs.Selection.{Selects}
use Rattle.nest_base.proofs.ListReads.{read-map, read_of_map, read-take, Contains-from_read, AllPairs-reads}
use Rattle.nest_base.proofs.Selections.{Selects-contains, Selects-origin}
use Rattle.plate_sides.specs.HalfEdges.{IsHalfEdgeOf}
use Rattle.plate_sides.proofs.HalfEdges.{twin_is_half_edge_of}
use Rattle.rotation_systems.specs.Twins.{twin_number}
use Rattle.half_edges.specs.Numbers.{IsSide}
use Rattle.half_edges.specs.Graph.{Graph}
use Rattle.half_edges.specs.PlaneGraphs.{IsPlaneGraph}
use Rattle.half_edges.specs.Burns.{AreOfTwoEdges}
use Rattle.half_edges.proofs.Numbers.{one_side}
use Rattle.half_edges.proofs.Twins.{IsSide-twin}
use Rattle.code_moves.specs.declared.moves.Move.{Move}
use Rattle.code_moves.specs.Moves.{way}
use Rattle.sound_code.specs.Sound.{IsEdgeMove, IsMoveAlong}
use Rattle.replay_check.specs.declared.burns.Burn.{Burn}
use Rattle.replay_check.specs.Burning.{burnt_sides, IsBurn, AreBurnt, IsFirstAgain}
use Rattle.replay_check.specs.Verdicts.{HoldsNowhere, IsFirst, BurnsAgain}
use Rattle.replay_check.proofs.Placing.{IsPlaced, placed_in, placed_at, read_first, read_second, take_zip, take_less, read_in_front}
use Rattle.replay_check.proofs.OneEdge.{not_of_two}

-- a move along an edge of the drawing is an edge move
pub along_is_edge_move : (edges : List Edge) (e : Edge) (m : Move) → Contains edges e → IsMoveAlong e m → IsEdgeMove edges m
along_is_edge_move edges e m among along = (along.0, (e, among, along.1))

module _ {graph : Graph} (known : IsPlaneGraph graph) where
  -- where the half-edges are of different edges, no move burns one again
  none_again : (moves edge_moves : List Move) (burns : List Burn) → Selects (IsEdgeMove graph.edges) moves edge_moves → AllZip (IsBurn graph.edges) edge_moves burns →
      AllPairs AreOfTwoEdges (burnt_sides burns) → (j : ℕ) (m : Move) (after : List Move) → slice_get moves j ≡ Some m → BurnsAgain graph.edges (take j moves) m after → ⊥
  none_again moves edge_moves burns all each once j m after at again =
      let (n, placed) = placed_at (IsEdgeMove graph.edges) all j m at (along_is_edge_move graph.edges again.edge m again.among again.along) in
      let early = Selects-contains (IsEdgeMove graph.edges) placed.front again.earlier again.came_before (along_is_edge_move graph.edges again.edge again.earlier again.among again.along_too) in
      let (p, before, early_there) = read_in_front n edge_moves again.earlier early in
      let (b, b_at, b_is) = read_second (IsBurn graph.edges) edge_moves burns each n m placed.selected in
      let (c, c_at, c_is) = read_second (IsBurn graph.edges) edge_moves burns each p again.earlier early_there in
      not_of_two known again.edge c.side.0 b.side.0 (way again.earlier) (way m) again.along_too.1 again.along.1 c_is.0 b_is.0
      (AllPairs-reads AreOfTwoEdges (burnt_sides burns) p n c.side.0 b.side.0 once before (read-map (λ (b : Burn). b.side.0) burns p c c_at) (read-map (λ (b : Burn). b.side.0) burns n b b_at))

  pub once_is_never_again : (moves : List Move) (burns : List Burn) → AreBurnt graph.edges moves burns → AllPairs AreOfTwoEdges (burnt_sides burns) → HoldsNowhere (BurnsAgain graph.edges) moves
  once_is_never_again moves burns are once j m (at, again) = none_again moves are.edge_moves burns are.all are.each once j m (drop (j + 1) moves) at again

  pub of_same_edge : (e : Edge) (t s : ℕ) (g h : HalfEdge) → IsSide graph.edges t g → IsSide graph.edges s h → (t ≡ s) ⊎ (t ≡ twin_number s) → IsHalfEdgeOf e h → IsHalfEdgeOf e g
  of_same_edge e t s g h is_g is_h (inl same) of_e = subst (IsHalfEdgeOf e) (one_side graph.edges s h g is_h (subst (λ n. IsSide graph.edges n g) same is_g)) of_e
  of_same_edge e t s g h is_g is_h (inr back) of_e =
      subst (IsHalfEdgeOf e) (one_side graph.edges (twin_number s) (twin h) g (IsSide-twin graph.edges s h is_h) (subst (λ n. IsSide graph.edges n g) back is_g)) (twin_is_half_edge_of e h of_e)

  -- the half-edge at place p was burnt before place q, by a move along its edge
  earlier_burn : (moves edge_moves : List Move) (burns : List Burn) (i q : ℕ) (m : Move) (b : Burn) → IsPlaced (IsEdgeMove graph.edges) moves edge_moves i q m →
      AllZip (IsBurn graph.edges) edge_moves burns → IsSide graph.edges b.side.0 (way m) → (t : ℕ) → Contains (take q (burnt_sides burns)) t → (t ≡ b.side.0) ⊎ (t ≡ twin_number b.side.0) →
      BurnsAgain graph.edges (take i moves) m (drop (i + 1) moves)
  earlier_burn moves edge_moves burns i q m b placed each is t stands same =
      let (lit, (e, among, of_e)) = placed.has in
      let (p, before, t_at) = read_in_front q (burnt_sides burns) t stands in
      let (c, c_at, c_is) = read_of_map (λ (b : Burn). b.side.0) burns p t t_at in
      let (n, n_at, n_is) = read_first (IsBurn graph.edges) edge_moves burns each p c c_at in
      let (came_before, on_edge) = Selects-origin (IsEdgeMove graph.edges) placed.front n (Contains-from_read (take q edge_moves) p n (read-take q edge_moves p before ∙ n_at)) in
      let n_side : IsSide graph.edges t (way n) = subst (λ s. IsSide graph.edges s (way n)) c_is n_is.0 in
      record {
        edge = e;
        among = among;
        along = (lit, of_e);
        earlier = n;
        came_before = came_before;
        along_too = (on_edge.0, of_same_edge e t b.side.0 (way n) (way m) n_side is same of_e);
      }

  pub first_again : (moves : List Move) (burns : List Burn) (line : ℕ) → AreBurnt graph.edges moves burns → IsFirstAgain burns line → IsFirst (BurnsAgain graph.edges) moves line
  first_again moves burns line are first =
      let (m, m_at, m_is) = read_first (IsBurn graph.edges) are.edge_moves burns are.each first.place first.burn first.at in
      let (i, placed) = placed_in (IsEdgeMove graph.edges) are.all first.place m m_at in
      record {
        place = i;
        move = m;
        holds = (
          placed.in_all,
          elim first.again [
            | inl same ↦ earlier_burn moves are.edge_moves burns i first.place m first.burn placed are.each m_is.0 first.burn.side.0 same (inl refl)
            | inr back ↦ earlier_burn moves are.edge_moves burns i first.place m first.burn placed are.each m_is.0 (twin_number first.burn.side.0) back (inr refl)
          ],
        );
        line_is = sym m_is.1 ∙ first.line_is;
        none_before = λ j n less holds. none_again (take i moves) (take first.place are.edge_moves) (take first.place burns) placed.front
            (take_zip (IsBurn graph.edges) first.place are.edge_moves burns are.each)
            (subst (AllPairs AreOfTwoEdges) (take-map (λ (b : Burn). b.side.0) first.place burns) first.once_before)
            j n (drop (j + 1) moves) (read-take i moves j less ∙ holds.0)
            (subst (λ l. BurnsAgain graph.edges l n (drop (j + 1) moves)) (sym (take_less j i moves (omega (arith, less)))) holds.1);
      }
