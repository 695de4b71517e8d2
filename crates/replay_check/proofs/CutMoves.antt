-- Moves that burn what is cut off: by what grows, and by reach.
use Rattle.std.proofs.Common.{arith, ◌≡◌, ℕ, ◌<◌, ◌≤◌, inl, inr, List, ◌∷◌, length, take, map, refl, sym, ap, ◌∙◌, subst}
use Rattle.std.specs.Prelude.{slice_get, Some}
use Rattle.std.proofs.lemmas.List.{take-map, length-take-le}
use Rattle.std.proofs.lemmas.Option.{slice_get_within}
use Rattle.std.proofs.Math.Seq.{take-append_seam}
use Rattle.nest_base.specs.declared.places.Edge.{Edge}
use Rattle.nest_base.specs.Plane.{HalfEdge, twin}
use Rattle.nest_base.specs.Selection.{Selects}
use Rattle.nest_base.proofs.ListReads.{read-map, read-take}
use Rattle.nest_base.proofs.Selections.{same_selection}
use Rattle.plate_sides.specs.Reach.{Reaches}
use Rattle.plate_sides.specs.Enclosing.{IsOrderEnclosing}
use Rattle.code_moves.specs.declared.moves.Move.{Move}
use Rattle.code_moves.specs.Moves.{way}
use Rattle.sound_code.specs.Sound.{IsEdgeMove, AreBurns}
use Rattle.replay_check.specs.declared.burns.Burn.{Burn}
use Rattle.replay_check.specs.Burning.{burnt_sides, IsBurn, AreBurnt, GrowsAt, IsLastCut, GrowsThroughout}
use Rattle.replay_check.specs.Verdicts.{HoldsAt, IsLast, BurnsDetached}
use Rattle.replay_check.proofs.Placing.{IsPlaced, placed_in, placed_at, read_first, take_less, read_of_take}
use Rattle.replay_check.proofs.Selecting.{split_is_there}

-- of two placed elements the later one in the list is the later one of what is selected
placed_later : {X : Type 0} (P : X → Type 0) (xs ys : List X) (i j p q : ℕ) (x y : X) → IsPlaced P xs ys i p x → IsPlaced P xs ys j q y → i < j → p < q
placed_later P xs ys i j p q x y first second less =
    let (r, between) = placed_at P second.front i x (read-take j xs i less ∙ first.in_all) first.has in
    let (below, there) = read_of_take q ys r x between.selected in
    let front = subst (λ l. Selects P l (take r (take q ys))) (take_less i j xs (omega (arith, less))) between.front in
    let same : take r (take q ys) ≡ take p ys = same_selection P front first.front in
    let short : length (take r ys) ≡ length (take p ys) = ap length (sym (take_less r q ys (omega (arith, below))) ∙ same) in
    omega (arith, below, short, length-take-le r ys (omega (arith, slice_get_within ys r x there)), length-take-le p ys (omega (arith, slice_get_within ys p x first.selected)))

-- what is said of edges that grow, and of one that doesn't
module _ (edges : List Edge) (faces : List ℕ) (moves : List Move) (burns : List Burn) (are : AreBurnt edges moves burns)
    (grows : (k : ℕ) (s : HalfEdge) → ((j : ℕ) → k ≤ j → j < length burns → GrowsAt faces (burnt_sides burns) j) → slice_get (map way are.edge_moves) k ≡ Some s →
    Reaches edges (take k (map way are.edge_moves)) s × Reaches edges (take k (map way are.edge_moves)) (twin s))
    (cut : (k : ℕ) (s : HalfEdge) → (GrowsAt faces (burnt_sides burns) k → ⊥) → slice_get (map way are.edge_moves) k ≡ Some s →
    Reaches edges (take k (map way are.edge_moves)) s → ⊥) where
  pub last_is_detached : (line : ℕ) → IsLastCut faces burns line → IsLast (BurnsDetached edges) moves line
  last_is_detached line last =
      let (m, m_at, m_is) = read_first (IsBurn edges) are.edge_moves burns are.each last.place last.burn last.at in
      let (i, placed) = placed_in (IsEdgeMove edges) are.all last.place m m_at in
      record {
        place = i;
        move = m;
        holds = (
          placed.in_all,
          record {
            on_edge = placed.has;
            burnt = map way (take last.place are.edge_moves);
            earlier = (take last.place are.edge_moves, placed.front, refl);
            cut_off = inl (subst (λ l. Reaches edges l (way m) → ⊥) (take-map way last.place are.edge_moves) (cut last.place (way m) last.cut (read-map way are.edge_moves last.place m m_at)));
          },
        );
        line_is = sym m_is.1 ∙ last.line_is;
        none_after = λ j n less holds. none_after i m placed j n less holds;
      }
    where
      none_after : (i : ℕ) (m : Move) → IsPlaced (IsEdgeMove edges) moves are.edge_moves i last.place m → (j : ℕ) (n : Move) → i < j → HoldsAt (BurnsDetached edges) moves j n → ⊥
      none_after i m placed j n less (n_at, detached) =
          let (q, later) = placed_at (IsEdgeMove edges) are.all j n n_at detached.on_edge in
          let behind : last.place < q = placed_later (IsEdgeMove edges) moves are.edge_moves i j last.place q m n placed later less in
          let (earlier, selects, burnt_is) = detached.earlier in
          let same : take q (map way are.edge_moves) ≡ detached.burnt = take-map way q are.edge_moves ∙ ap (map way) (same_selection (IsEdgeMove edges) later.front selects) ∙ sym burnt_is in
          let reach = grows q (way n) (λ k above below. last.later k (omega (arith, behind, above)) below) (read-map way are.edge_moves q n later.selected) in
          elim detached.cut_off [
            | inl one ↦ one (subst (λ l. Reaches edges l (way n)) same reach.0)
            | inr other ↦ other (subst (λ l. Reaches edges l (twin (way n))) same reach.1)
          ]

  pub order_encloses : GrowsThroughout faces burns → (order : List HalfEdge) × AreBurns edges moves order × IsOrderEnclosing edges order
  order_encloses throughout = (
    map way are.edge_moves,
    (are.edge_moves, are.all, refl),
    λ burnt s later split.
        let at : slice_get (map way are.edge_moves) (length burnt) ≡ Some s = ap (λ l. slice_get l (length burnt)) split ∙ split_is_there burnt s later in
        let front : take (length burnt) (map way are.edge_moves) ≡ burnt = ap (take (length burnt)) split ∙ take-append_seam burnt (s ∷ later) in
        let reach = grows (length burnt) s (λ j above below. throughout j below) at in
        (subst (λ l. Reaches edges l s) front reach.0, subst (λ l. Reaches edges l (twin s)) front reach.1),
  )
