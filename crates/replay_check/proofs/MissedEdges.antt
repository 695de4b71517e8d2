-- Edges that nothing burns: by flags, and by moves.
use Rattle.std.proofs.Common.{arith, ◌≡◌, ℕ, ◌+◌, ◌*◌, ◌/◌, ◌<◌, ◌⊎◌, inl, inr, Bool, true, false, List, [], ◌∷◌, length, take, drop, refl, sym, ap, ◌∙◌, subst}
use Rattle.std.specs.Prelude.{slice_get, slice_index_or, Some, Contains, IsTrue}
use Rattle.std.proofs.lemmas.Option.{slice_get_within, get_or_from_slice_get}
use Rattle.nest_base.specs.declared.places.Edge.{Edge}
use Rattle.nest_base.specs.Plane.{HalfEdge}
use Rattle.nest_base.specs.Selection.{Selects, HasCount, taken}
use Rattle.nest_base.proofs.ListReads.{read_below, read-take, read-drop, read-map, read_of_map, read_from_Contains, Contains-from_read}
use Rattle.nest_base.proofs.Selections.{Selects-contains, Selects-origin, Selects-none}
use Rattle.plate_sides.specs.HalfEdges.{forth}
use Rattle.rotation_systems.specs.Twins.{twin_number}
use Rattle.rotation_systems.proofs.Twins.{twin_twice}
use Rattle.half_edges.specs.Numbers.{IsSide}
use Rattle.half_edges.specs.Graph.{Graph}
use Rattle.half_edges.specs.PlaneGraphs.{IsPlaneGraph}
use Rattle.half_edges.specs.Burns.{AreFlagsOf, HasEdgeOf}
use Rattle.half_edges.proofs.Numbers.{side_low, side_of, side_within}
use Rattle.code_moves.specs.declared.moves.Move.{Move}
use Rattle.code_moves.specs.Moves.{way}
use Rattle.sound_code.specs.Sound.{IsEdgeMove, IsMoveAlong}
use Rattle.replay_check.specs.declared.burns.Burn.{Burn}
use Rattle.replay_check.specs.Burning.{burnt_sides, IsBurn, AreBurnt, IsUnburntAt, IsLeastUnburnt}
use Rattle.replay_check.specs.Verdicts.{HoldsNowhere, BurnsAgain, IsMissed, IsLeastMissed}
use Rattle.replay_check.proofs.Placing.{read_first, read_second}
use Rattle.replay_check.proofs.Selecting.{split_there, joined_selection}
use Rattle.replay_check.proofs.OneEdge.{same_edge}
use Rattle.replay_check.proofs.Again.{along_is_edge_move, of_same_edge}

module _ {graph : Graph} (known : IsPlaneGraph graph) (moves : List Move) (burns : List Burn) (flags : List Bool) (are : AreBurnt graph.edges moves burns)
    (flagged : AreFlagsOf flags (burnt_sides burns)) (as_many : length flags ≡ length graph.edges) where
  -- the flag at a place, by the number of a half-edge
  flag_is : (k : ℕ) (f : Bool) → slice_get flags k ≡ Some f → slice_index_or flags ((2 * k) / 2) false ≡ f
  flag_is k f at =
      let half : (2 * k) / 2 ≡ k = omega (arith) in
      ap (λ n. slice_index_or flags n false) half ∙ get_or_from_slice_get flags k f false at

  within : (k : ℕ) (f : Bool) → slice_get flags k ≡ Some f → 2 * k < 2 * length flags
  within k f at = omega (arith, slice_get_within flags k f at)

  -- where a move goes along an edge, its flag stands
  flag_of_move : (k : ℕ) (e : Edge) (m : Move) → slice_get graph.edges k ≡ Some e → Contains moves m → IsMoveAlong e m → HasEdgeOf (burnt_sides burns) (2 * k)
  flag_of_move k e m e_at stands along =
      let on_edge = along_is_edge_move graph.edges e m (Contains-from_read graph.edges k e e_at) along in
      let (n, m_at) = read_from_Contains are.edge_moves m (Selects-contains (IsEdgeMove graph.edges) are.all m stands on_edge) in
      let (b, b_at, b_is) = read_second (IsBurn graph.edges) are.edge_moves burns are.each n m m_at in
      let burnt : Contains (burnt_sides burns) b.side.0 = Contains-from_read (burnt_sides burns) n b.side.0 (read-map (λ (b : Burn). b.side.0) burns n b b_at) in
      elim (same_edge known e (2 * k) b.side.0 (forth e) (way m) (inl refl) along.1 (side_low graph.edges k e e_at) b_is.0) [
        | inl same ↦ inl (subst (Contains (burnt_sides burns)) (sym same) burnt)
        | inr back ↦ inr (subst (Contains (burnt_sides burns)) (sym (ap twin_number back ∙ twin_twice b.side.0)) burnt)
      ]

  pub unburnt_is_missed : (k : ℕ) (e : Edge) → IsUnburntAt graph.edges flags k e → IsMissed graph.edges moves e
  unburnt_is_missed k e (e_at, flag_at) = (
    Contains-from_read graph.edges k e e_at,
    λ m stands along.
        let set : IsTrue (slice_index_or flags ((2 * k) / 2) false) = (flagged.flag (2 * k) (within k false flag_at)).1 (flag_of_move k e m e_at stands along) in
        false_is_not_true (sym (flag_is k false flag_at) ∙ set),
  )
    where
      false_is_not_true : false ≡ true → ⊥
      false_is_not_true e = cc

  -- where the flag of an edge stands, a move goes along it
  pub burnt_by : (k : ℕ) (e : Edge) → slice_get graph.edges k ≡ Some e → slice_get flags k ≡ Some true → (m : Move) × Contains moves m × IsMoveAlong e m
  burnt_by k e e_at flag_at = elim ((flagged.flag (2 * k) (within k true flag_at)).0 (flag_is k true flag_at)) [
    | inl burnt ↦ of (2 * k) burnt (inl refl)
    | inr burnt ↦ of (twin_number (2 * k)) burnt (inr refl)
  ]
    where
      of : (t : ℕ) → Contains (burnt_sides burns) t → (t ≡ 2 * k) ⊎ (t ≡ twin_number (2 * k)) → (m : Move) × Contains moves m × IsMoveAlong e m
      of t burnt same =
          let (n, t_at) = read_from_Contains (burnt_sides burns) t burnt in
          let (b, b_at, b_is) = read_of_map (λ (b : Burn). b.side.0) burns n t t_at in
          let (m, m_at, m_is) = read_first (IsBurn graph.edges) are.edge_moves burns are.each n b b_at in
          let (stands, on_edge) = Selects-origin (IsEdgeMove graph.edges) are.all m (Contains-from_read are.edge_moves n m m_at) in
          (m, stands, (on_edge.0, of_same_edge known e t (2 * k) (way m) (forth e) (subst (λ s. IsSide graph.edges s (way m)) b_is m_is.0) (side_low graph.edges k e e_at) same (inl refl)))

  pub missed_is_unburnt : (e : Edge) → IsMissed graph.edges moves e → (k : ℕ) × IsUnburntAt graph.edges flags k e
  missed_is_unburnt e (among, missed) =
      let (k, e_at) = read_from_Contains graph.edges e among in
      let (f, flag_at) = read_below flags k (omega (arith, as_many, slice_get_within graph.edges k e e_at)) in
      (k, (e_at, of k e_at f flag_at))
    where
      of : (k : ℕ) → slice_get graph.edges k ≡ Some e → (f : Bool) → slice_get flags k ≡ Some f → slice_get flags k ≡ Some false
      of k e_at false at = at
      of k e_at true at = let (m, stands, along) = burnt_by k e e_at at in absurd (missed m stands along)

  pub least_is_missed : (e : Edge) → IsLeastUnburnt graph.edges flags e → IsLeastMissed graph.edges moves e
  least_is_missed e least = record {
    missed = unburnt_is_missed least.place e least.unburnt;
    least = λ f missed. let (k, unburnt) = missed_is_unburnt f missed in least.least k f unburnt;
  }

  module _ (none : (k : ℕ) (e : Edge) → IsUnburntAt graph.edges flags k e → ⊥) where
    pub none_missed : (e : Edge) → IsMissed graph.edges moves e → ⊥
    none_missed e missed = let (k, unburnt) = missed_is_unburnt e missed in none k e unburnt

    -- a move goes along each edge
    pub is_burnt : (k : ℕ) (e : Edge) → slice_get graph.edges k ≡ Some e → (m : Move) × Contains moves m × IsMoveAlong e m
    is_burnt k e e_at =
        let (f, flag_at) = read_below flags k (omega (arith, as_many, slice_get_within graph.edges k e e_at)) in
        of f flag_at
      where
        of : (f : Bool) → slice_get flags k ≡ Some f → (m : Move) × Contains moves m × IsMoveAlong e m
        of true at = burnt_by k e e_at at
        of false at = absurd (none k e (e_at, at))

    -- so by number each edge is burnt
    pub each_is_burnt : (s : ℕ) (h : HalfEdge) → IsSide graph.edges s h → HasEdgeOf (burnt_sides burns) s
    each_is_burnt s h is =
        let (k, e, (e_at, number)) = side_of graph.edges s h is in
        let half : s / 2 ≡ k = elim number [ inl (low, same) ↦ omega (arith, low) | inr (high, same) ↦ omega (arith, high) ] in
        let (f, flag_at) = read_below flags k (omega (arith, as_many, slice_get_within graph.edges k e e_at)) in
        (flagged.flag s (omega (arith, as_many, side_within graph.edges s h is))).0 (ap (λ n. slice_index_or flags n false) half ∙ get_or_from_slice_get flags k f false flag_at ∙ of k e e_at f flag_at)
      where
        of : (k : ℕ) (e : Edge) → slice_get graph.edges k ≡ Some e → (f : Bool) → slice_get flags k ≡ Some f → f ≡ true
        of k e e_at true at = refl
        of k e e_at false at = absurd (none k e (e_at, at))

    -- and where none goes along one again, just one
    pub is_burnt_once : HoldsNowhere (BurnsAgain graph.edges) moves → (k : ℕ) (e : Edge) → slice_get graph.edges k ≡ Some e → HasCount (IsMoveAlong e) moves 1
    is_burnt_once once k e e_at =
        let (m, stands, along) = is_burnt k e e_at in
        let (i, m_at) = read_from_Contains moves m stands in (
          m ∷ [],
          subst (λ l. Selects (IsMoveAlong e) l (m ∷ [])) (sym (split_there moves i m m_at))
              (joined_selection (IsMoveAlong e) (Selects-none (IsMoveAlong e) (take i moves) (none_before i m m_at along))
              (taken along (Selects-none (IsMoveAlong e) (drop (i + 1) moves) (none_after i m m_at along)))),
          refl,
        )
      where
        among : Contains graph.edges e
        among = Contains-from_read graph.edges k e e_at

        none_before : (i : ℕ) (m : Move) → slice_get moves i ≡ Some m → IsMoveAlong e m → (n : Move) → Contains (take i moves) n → IsMoveAlong e n → ⊥
        none_before i m m_at along n stands too = once i m (m_at, record { edge = e; among = among; along = along; earlier = n; came_before = stands; along_too = too })

        none_after : (i : ℕ) (m : Move) → slice_get moves i ≡ Some m → IsMoveAlong e m → (n : Move) → Contains (drop (i + 1) moves) n → IsMoveAlong e n → ⊥
        none_after i m m_at along n stands too =
            let (p, n_at) = read_from_Contains (drop (i + 1) moves) n stands in
            let behind : slice_get moves (i + 1 + p) ≡ Some n = sym (read-drop (i + 1) moves p) ∙ n_at in
            let front : slice_get (take (i + 1 + p) moves) i ≡ Some m = read-take (i + 1 + p) moves i (omega (arith)) ∙ m_at in
            once (i + 1 + p) n (
              behind,
              record {
                edge = e;
                among = among;
                along = too;
                earlier = m;
                came_before = Contains-from_read (take (i + 1 + p) moves) i m front;
                along_too = along;
              },
            )
