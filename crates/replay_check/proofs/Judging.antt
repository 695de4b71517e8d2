-- What the parts of a verdict give together.
use Rattle.std.proofs.Common.{arith, ◌≡◌, ℕ, ◌*◌, ◌<◌, ◌≤◌, Bool, List, [], ◌∷◌, length, take, map}
use Rattle.std.specs.Prelude.{All, slice_get, Some}
use Rattle.std.specs.List.{AllZip}
use Rattle.std.proofs.lemmas.List.{length-map}
use Rattle.nest_base.specs.declared.places.Point.{Point}
use Rattle.nest_base.specs.declared.places.Edge.{Edge}
use Rattle.nest_base.specs.Plane.{HalfEdge, twin}
use Rattle.nest_base.specs.Selection.{HasCount}
use Rattle.nest_base.proofs.ListReads.{All-from_reads, read_of_map}
use Rattle.plate_sides.specs.Reach.{Reaches}
use Rattle.half_edges.specs.Numbers.{IsSide}
use Rattle.half_edges.specs.Graph.{Graph}
use Rattle.half_edges.specs.PlaneGraphs.{IsPlaneGraph}
use Rattle.half_edges.specs.Burns.{AreFlagsOf}
use Rattle.half_edges.proofs.Numbers.{side_within}
use Rattle.face_nesting.specs.Nesting.{AreFaces}
use Rattle.code_moves.specs.declared.moves.Move.{Move}
use Rattle.code_moves.specs.Moves.{way}
use Rattle.sound_code.specs.Sound.{IsMoveAlong, AreLeadIns, IsSoundCode}
use Rattle.replay_check.specs.declared.burns.Burn.{Burn}
use Rattle.replay_check.specs.Burning.{burnt_sides, IsBurn, AreBurnt, GrowsAt, GrowsThroughout, IsLastCut, IsUnburntAt}
use Rattle.replay_check.specs.Verdicts.{HoldsNowhere, IsLast, BurnsAgain, BurnsDetached}
use Rattle.replay_check.proofs.Placing.{read_first}
use Rattle.replay_check.proofs.MissedEdges.{each_is_burnt, is_burnt_once}
use Rattle.replay_check.proofs.Growth.{grows_reaches, stays_cut}
use Rattle.replay_check.proofs.CutMoves.{last_is_detached, order_encloses}

-- what is burnt are numbers of half-edges
pub burns_within : (edges : List Edge) (moves : List Move) (burns : List Burn) (n : ℕ) → n ≡ 2 * length edges → AreBurnt edges moves burns → All (λ s. s < n) (burnt_sides burns)
burns_within edges moves burns n twice are = All-from_reads (λ s. s < n) (burnt_sides burns) (λ k s at.
    let (b, b_at, b_is) = read_of_map (λ (b : Burn). b.side.0) burns k s at in
    let (m, m_at, m_is) = read_first (IsBurn edges) are.edge_moves burns are.each k b b_at in
    let below : b.side.0 < 2 * length edges = side_within edges b.side.0 (way m) m_is.0 in
    omega (arith, below, b_is, twice))

sides_of_moves : (edges : List Edge) (moves : List Move) (burns : List Burn) → AllZip (IsBurn edges) moves burns → AllZip (IsSide edges) (burnt_sides burns) (map way moves)
sides_of_moves edges [] [] zip = tt
sides_of_moves edges [] (b ∷ burns) zip = absurd zip
sides_of_moves edges (m ∷ moves) [] zip = absurd zip
sides_of_moves edges (m ∷ moves) (b ∷ burns) zip = (zip.0.0, sides_of_moves edges moves burns zip.1)

-- where each edge is burnt, and each once
module _ {graph : Graph} (known : IsPlaneGraph graph) (faces : List ℕ) (are_faces : AreFaces graph.edges faces) (moves : List Move) (burns : List Burn) (flags : List Bool)
    (are : AreBurnt graph.edges moves burns) (flagged : AreFlagsOf flags (burnt_sides burns)) (as_many : length flags ≡ length graph.edges)
    (none : (k : ℕ) (e : Edge) → IsUnburntAt graph.edges flags k e → ⊥) where
  zip : AllZip (IsSide graph.edges) (burnt_sides burns) (map way are.edge_moves)
  zip = sides_of_moves graph.edges are.edge_moves burns are.each

  grows : (k : ℕ) (s : HalfEdge) → ((j : ℕ) → k ≤ j → j < length burns → GrowsAt faces (burnt_sides burns) j) → slice_get (map way are.edge_moves) k ≡ Some s →
      Reaches graph.edges (take k (map way are.edge_moves)) s × Reaches graph.edges (take k (map way are.edge_moves)) (twin s)
  grows k s each at = grows_reaches known faces are_faces (burnt_sides burns) (map way are.edge_moves) zip flagged.once k s
      (λ j above below. each j above (omega (arith, below, length-map burns (λ (b : Burn). b.side.0)))) at

  cut : (k : ℕ) (s : HalfEdge) → (GrowsAt faces (burnt_sides burns) k → ⊥) → slice_get (map way are.edge_moves) k ≡ Some s → Reaches graph.edges (take k (map way are.edge_moves)) s → ⊥
  cut k s stays at walk = stays_cut known faces are_faces (burnt_sides burns) (map way are.edge_moves) zip flagged.once
      (each_is_burnt known moves burns flags are flagged as_many none) k stays s at walk

  -- the last that doesn't grow is the last that is detached
  pub cut_is_detached : (line : ℕ) → IsLastCut faces burns line → IsLast (BurnsDetached graph.edges) moves line
  cut_is_detached line last = last_is_detached graph.edges faces moves burns are grows cut line last

  -- behind lead-ins, in an order in which each edge grows, the moves are sound
  pub growing_is_sound : (names : List Point) → AreLeadIns graph.edges names moves → HoldsNowhere (BurnsAgain graph.edges) moves → GrowsThroughout faces burns →
      IsSoundCode graph.edges names moves
  growing_is_sound names lead_ins once throughout = record {
    lead_ins = lead_ins;
    each_edge_once = All-from_reads (λ (e : Edge). HasCount (IsMoveAlong e) moves 1) graph.edges (is_burnt_once known moves burns flags are flagged as_many none once);
    order_enclosing = order_encloses graph.edges faces moves burns are grows cut throughout;
  }
