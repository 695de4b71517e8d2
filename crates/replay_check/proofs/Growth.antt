-- Edges that grow from the plate, told from the end, are those whose faces reach Outer.
use Rattle.std.proofs.Common.{arith, ◌≡◌, ℕ, zero, suc, ◌+◌, ◌-◌, ◌<◌, ◌≤◌, ◌⊎◌, inl, inr, List, length, take, drop, refl, sym, ap, ◌∙◌, subst}
use Rattle.std.specs.Prelude.{⊤, slice_get, slice_index, Some, Contains, AllPairs}
use Rattle.std.specs.List.{AllZip}
use Rattle.std.proofs.lemmas.Bool.{cases_eq, cases_lt}
use Rattle.std.proofs.lemmas.Option.{slice_get_within}
use Rattle.nest_base.specs.Plane.{HalfEdge, twin}
use Rattle.nest_base.specs.Walks.{here, on, against}
use Rattle.nest_base.proofs.Walks.{Walk-then, Walk-map, Walk-keeps}
use Rattle.nest_base.proofs.ListReads.{read-drop, read-take, read_from_Contains, Contains-from_read, AllPairs-reads, one_read}
use Rattle.plate_sides.specs.HalfEdges.{IsHalfEdge}
use Rattle.plate_sides.specs.Links.{Node, Outer, At, IsLinked, along, sight}
use Rattle.plate_sides.specs.Reach.{SameFace, HasEdge, IsLinkedOver, within, across, Reaches}
use Rattle.rotation_systems.specs.Twins.{twin_number}
use Rattle.rotation_systems.proofs.Twins.{twin_twice}
use Rattle.half_edges.specs.Numbers.{IsSide}
use Rattle.half_edges.specs.Graph.{Graph}
use Rattle.half_edges.specs.PlaneGraphs.{IsPlaneGraph}
use Rattle.half_edges.specs.Burns.{AreOfTwoEdges, HasEdgeOf}
use Rattle.half_edges.proofs.Twins.{IsSide-twin}
use Rattle.half_edges.proofs.Numbers.{one_side, side_from_half_edge, side_is_half_edge}
use Rattle.face_nesting.specs.Nesting.{AreFaces}
use Rattle.face_nesting.specs.Numbering.{outer_face}
use Rattle.face_nesting.proofs.KnownGraph.{one_number}
use Rattle.replay_check.specs.Burning.{IsFaceReached, GrowsAt}
use Rattle.replay_check.proofs.Placing.{read_first, read_second, read_in_front}

-- f is the outer face, or that of an edge from place k on
abbrev Later : List ℕ → List ℕ → ℕ → ℕ → Type 0
Later faces sides k f =
    (f ≡ outer_face) ⊎ ((j : ℕ) × (s : ℕ) × (k ≤ j) × (slice_get sides j ≡ Some s) × ((slice_index faces s ≡ f) ⊎ (slice_index faces (twin_number s) ≡ f)))

later_of : (faces sides : List ℕ) (k f : ℕ) → IsFaceReached faces (drop k sides) f → Later faces sides k f
later_of faces sides k f (inl outer) = inl outer
later_of faces sides k f (inr (s, stands, face)) =
    let (i, at) = read_from_Contains (drop k sides) s stands in
    inr (k + i, s, omega (arith), sym (read-drop k sides i) ∙ at, face)

of_later : (faces sides : List ℕ) (k f : ℕ) → Later faces sides k f → IsFaceReached faces (drop k sides) f
of_later faces sides k f (inl outer) = inl outer
of_later faces sides k f (inr (j, s, above, at, face)) =
    let behind : j ≡ k + (j - k) = omega (arith, above) in
    inr (s, Contains-from_read (drop k sides) (j - k) s (read-drop k sides (j - k) ∙ subst (λ n. slice_get sides n ≡ Some s) behind at), face)

module _ {graph : Graph} (known : IsPlaneGraph graph) (faces : List ℕ) (are_faces : AreFaces graph.edges faces) (sides : List ℕ) (order : List HalfEdge)
    (zip : AllZip (IsSide graph.edges) sides order) (once : AllPairs AreOfTwoEdges sides) where
  -- before its edge burns, it isn't burnt
  unburnt_at : (k s : ℕ) (h : HalfEdge) → slice_get sides k ≡ Some s → IsSide graph.edges s h → HasEdge (take k order) h → ⊥
  unburnt_at k s h at is (inl stands) =
      let (j, before, h_at) = read_in_front k order h stands in
      let (t, t_at, t_is) = read_first (IsSide graph.edges) sides order zip j h h_at in
      (AllPairs-reads AreOfTwoEdges sides j k t s once before t_at at).0 (one_number known t s h t_is is)
  unburnt_at k s h at is (inr stands) =
      let (j, before, h_at) = read_in_front k order (twin h) stands in
      let (t, t_at, t_is) = read_first (IsSide graph.edges) sides order zip j (twin h) h_at in
      (AllPairs-reads AreOfTwoEdges sides j k t s once before t_at at).1 (one_number known t (twin_number s) (twin h) t_is (IsSide-twin graph.edges s h is))

  contains_more : (k : ℕ) (h : HalfEdge) → Contains (take k order) h → Contains (take (k + 1) order) h
  contains_more k h stands =
      let (j, before, at) = read_in_front k order h stands in
      Contains-from_read (take (k + 1) order) j h (read-take (k + 1) order j (omega (arith, before)) ∙ at)

  -- where less is burnt, what reached still does
  less_links : (k : ℕ) (a b : Node) → IsLinkedOver graph.edges (take (k + 1) order) a b → IsLinkedOver graph.edges (take k order) a b
  less_links k a b (within link) = within link
  less_links k a b (across {s} is unburnt) = across is (λ burnt. unburnt (more burnt))
    where
      more : HasEdge (take k order) s → HasEdge (take (k + 1) order) s
      more (inl stands) = inl (contains_more k s stands)
      more (inr stands) = inr (contains_more k (twin s) stands)

  reach_less : (k : ℕ) (h : HalfEdge) → Reaches graph.edges (take (k + 1) order) h → Reaches graph.edges (take k order) h
  reach_less k h walk = Walk-map (λ a. a) (less_links k) walk

  -- what lies in the face of what reaches does as well
  face_reaches : (burnt : List HalfEdge) (g h : HalfEdge) → SameFace graph.edges (At h) (At g) → Reaches graph.edges burnt g → Reaches graph.edges burnt h
  face_reaches burnt g h same walk = Walk-then (Walk-map (λ a. a) (λ a b link. within link) same) walk

  -- an edge that grows reaches by its other half-edge too
  edge_reaches : (k s : ℕ) (g : HalfEdge) → slice_get sides k ≡ Some s → IsSide graph.edges s g → GrowsAt faces sides k →
      ((t : ℕ) (h : HalfEdge) → IsSide graph.edges t h → Later faces sides (k + 1) (slice_index faces t) → Reaches graph.edges (take (k + 1) order) h) →
      Reaches graph.edges (take k order) g × Reaches graph.edges (take k order) (twin g)
  edge_reaches k s g at is (t, t_at, grows) later = of (subst Face (one_read sides k t s t_at at) grows)
    where
      Face : ℕ → Type 0
      Face n = IsFaceReached faces (drop (k + 1) sides) (slice_index faces n) ⊎ IsFaceReached faces (drop (k + 1) sides) (slice_index faces (twin_number n))

      link : IsLinkedOver graph.edges (take k order) (At g) (At (twin g))
      link = across (side_is_half_edge graph.edges s g is) (unburnt_at k s g at is)

      of : Face s → Reaches graph.edges (take k order) g × Reaches graph.edges (take k order) (twin g)
      of (inl one) =
          let reach = reach_less k g (later s g is (later_of faces sides (k + 1) (slice_index faces s) one)) in
          (reach, against link reach)
      of (inr other) =
          let reach = reach_less k (twin g) (later (twin_number s) (twin g) (IsSide-twin graph.edges s g is) (later_of faces sides (k + 1) (slice_index faces (twin_number s)) other)) in
          (on link reach, reach)

  -- the faces of edges from place k on reach, where these grow one after another
  reached : (fuel k : ℕ) → length sides ≤ k + fuel → ((j : ℕ) → k ≤ j → j < length sides → GrowsAt faces sides j) → (t : ℕ) (h : HalfEdge) → IsSide graph.edges t h →
      Later faces sides k (slice_index faces t) → Reaches graph.edges (take k order) h
  reached fuel k enough grows t h is (inl outer) = Walk-map (λ a. a) (λ a b link. within link) ((are_faces.outside t h is).0 outer)
  reached zero k enough grows t h is (inr (j, s, above, at, face)) = absurd (omega (arith, enough, above, slice_get_within sides j s at))
  reached (suc fuel) k enough grows t h is (inr (j, s, above, at, face)) = elim (cases_eq j k) [
    | inl same ↦ at_k (subst (λ n. slice_get sides n ≡ Some s) same at) face (λ n g n_is n_later.
        reached fuel (k + 1) (omega (arith, enough)) (λ i higher below. grows i (omega (arith, higher)) below) n g n_is n_later)
    | inr other ↦ reach_less k h (reached fuel (k + 1) (omega (arith, enough)) (λ i higher below. grows i (omega (arith, higher)) below) t h is
        (inr (j, s, omega (arith, above, other), at, face)))
  ]
    where
      at_k : slice_get sides k ≡ Some s → (slice_index faces s ≡ slice_index faces t) ⊎ (slice_index faces (twin_number s) ≡ slice_index faces t) →
          ((n : ℕ) (g : HalfEdge) → IsSide graph.edges n g → Later faces sides (k + 1) (slice_index faces n) → Reaches graph.edges (take (k + 1) order) g) →
          Reaches graph.edges (take k order) h
      at_k s_at face later =
          let (g, g_at, g_is) = read_second (IsSide graph.edges) sides order zip k s s_at in
          let reach = edge_reaches k s g s_at g_is (grows k (omega (arith)) (slice_get_within sides k s s_at)) later in
          elim face [
            | inl one ↦ face_reaches (take k order) g h ((are_faces.joined t s h g is g_is).0 (sym one)) reach.0
            | inr other ↦ face_reaches (take k order) (twin g) h ((are_faces.joined t (twin_number s) h (twin g) is (IsSide-twin graph.edges s g g_is)).0 (sym other)) reach.1
          ]

  -- where each edge from place k on grows, the one at k reaches by both its half-edges
  pub grows_reaches : (k : ℕ) (h : HalfEdge) → ((j : ℕ) → k ≤ j → j < length sides → GrowsAt faces sides j) → slice_get order k ≡ Some h →
      Reaches graph.edges (take k order) h × Reaches graph.edges (take k order) (twin h)
  grows_reaches k h grows at =
      let (s, s_at, s_is) = read_first (IsSide graph.edges) sides order zip k h at in
      edge_reaches k s h s_at s_is (grows k (omega (arith)) (slice_get_within sides k s s_at))
      (λ t g t_is later. reached (length sides) (k + 1) (omega (arith)) (λ i higher below. grows i (omega (arith, higher)) below) t g t_is later)

  -- where the edge at place k doesn't grow, no walk from it leads to the faces of later edges
  module _ (total : (s : ℕ) (h : HalfEdge) → IsSide graph.edges s h → HasEdgeOf sides s) (k : ℕ) (stays : GrowsAt faces sides k → ⊥) where
    abbrev Kept : Node → Type 0
    Kept Outer = ⊤
    Kept (At h) = (t : ℕ) → IsSide graph.edges t h → Later faces sides (k + 1) (slice_index faces t)

    same_kept : (h g : HalfEdge) → IsHalfEdge graph.edges h → SameFace graph.edges (At h) (At g) → Kept (At h) → Kept (At g)
    same_kept h g half same kept t t_is =
        let (s, s_is) = side_from_half_edge graph.edges h half in
        subst (Later faces sides (k + 1)) ((are_faces.joined s t h g s_is t_is).1 same) (kept s s_is)

    linked_kept : (a b : Node) → IsLinked graph.edges a b → (Kept a → Kept b) × (Kept b → Kept a)
    linked_kept (At h) (At g) (along link) =
        (same_kept h g link.0 (on (along link) here), same_kept g h link.1.one (against (along link) here))
    linked_kept (At h) (At g) (sight mark sees) =
        (same_kept h g mark.is_side (on (sight mark sees) here), same_kept g h sees.is_side (against (sight mark sees) here))
    linked_kept Outer b link = elim link [ ]
    linked_kept (At h) Outer (sight mark sees) =
        (λ kept. tt, λ kept t t_is. inl ((are_faces.outside t h t_is).1 (on (sight mark sees) here)))

    -- the half-edge t is h, whose number is n, or its twin
    module _ (h : HalfEdge) (n : ℕ) (n_is : IsSide graph.edges n h) (t : ℕ) where
      back_is : t ≡ twin_number n → twin_number t ≡ n
      back_is back = ap twin_number back ∙ twin_twice n

      burnt_before : (j : ℕ) → slice_get sides j ≡ Some t → j < k → (t ≡ n) ⊎ (t ≡ twin_number n) → HasEdge (take k order) h
      burnt_before j t_at before same =
          let (g, g_at, g_is) = read_second (IsSide graph.edges) sides order zip j t t_at in
          let stands : Contains (take k order) g = Contains-from_read (take k order) j g (read-take k order j before ∙ g_at) in
          elim same [
            | inl one ↦ inl (subst (Contains (take k order)) (one_side graph.edges n g h (subst (λ i. IsSide graph.edges i g) one g_is) n_is) stands)
            | inr back ↦ inr (subst (Contains (take k order)) (one_side graph.edges (twin_number n) g (twin h) (subst (λ i. IsSide graph.edges i g) back g_is) (IsSide-twin graph.edges n h n_is)) stands)
          ]

      later_one : (j : ℕ) → slice_get sides j ≡ Some t → k + 1 ≤ j → (t ≡ n) ⊎ (t ≡ twin_number n) → Later faces sides (k + 1) (slice_index faces n)
      later_one j t_at above (inl one) = inr (j, t, above, t_at, inl (ap (slice_index faces) one))
      later_one j t_at above (inr back) = inr (j, t, above, t_at, inr (ap (slice_index faces) (back_is back)))

      later_other : (j : ℕ) → slice_get sides j ≡ Some t → k + 1 ≤ j → (t ≡ n) ⊎ (t ≡ twin_number n) → Later faces sides (k + 1) (slice_index faces (twin_number n))
      later_other j t_at above (inl one) = inr (j, t, above, t_at, inr (ap (λ i. slice_index faces (twin_number i)) one))
      later_other j t_at above (inr back) = inr (j, t, above, t_at, inl (ap (slice_index faces) back))

      grows_by_one : slice_get sides k ≡ Some t → (t ≡ n) ⊎ (t ≡ twin_number n) → Later faces sides (k + 1) (slice_index faces n) → GrowsAt faces sides k
      grows_by_one t_at (inl one) later = (t, t_at, inl (of_later faces sides (k + 1) (slice_index faces t) (subst (Later faces sides (k + 1)) (ap (slice_index faces) (sym one)) later)))
      grows_by_one t_at (inr back) later =
          (t, t_at, inr (of_later faces sides (k + 1) (slice_index faces (twin_number t)) (subst (Later faces sides (k + 1)) (ap (slice_index faces) (sym (back_is back))) later)))

      grows_by_other : slice_get sides k ≡ Some t → (t ≡ n) ⊎ (t ≡ twin_number n) → Later faces sides (k + 1) (slice_index faces (twin_number n)) → GrowsAt faces sides k
      grows_by_other t_at (inl one) later =
          (t, t_at, inr (of_later faces sides (k + 1) (slice_index faces (twin_number t)) (subst (Later faces sides (k + 1)) (ap (λ i. slice_index faces (twin_number i)) (sym one)) later)))
      grows_by_other t_at (inr back) later = (t, t_at, inl (of_later faces sides (k + 1) (slice_index faces t) (subst (Later faces sides (k + 1)) (ap (slice_index faces) (sym back)) later)))

      number_kept : Later faces sides (k + 1) (slice_index faces n) → Kept (At h)
      number_kept later u u_is = subst (λ i. Later faces sides (k + 1) (slice_index faces i)) (one_number known n u h n_is u_is) later

      twin_kept : Later faces sides (k + 1) (slice_index faces (twin_number n)) → Kept (At (twin h))
      twin_kept later u u_is = subst (λ i. Later faces sides (k + 1) (slice_index faces i)) (one_number known (twin_number n) u (twin h) (IsSide-twin graph.edges n h n_is) u_is) later

      kept_by_place : (HasEdge (take k order) h → ⊥) → Contains sides t → (t ≡ n) ⊎ (t ≡ twin_number n) → (Kept (At h) → Kept (At (twin h))) × (Kept (At (twin h)) → Kept (At h))
      kept_by_place unburnt stands same =
          let (j, t_at) = read_from_Contains sides t stands in
          elim (cases_lt j k) [
            | inl before ↦ absurd (unburnt (burnt_before j t_at before same))
            | inr after ↦ elim (cases_eq j k) [
              | inl at_k ↦ (
                λ kept. absurd (stays (grows_by_one (subst (λ i. slice_get sides i ≡ Some t) at_k t_at) same (kept n n_is))),
                λ kept. absurd (stays (grows_by_other (subst (λ i. slice_get sides i ≡ Some t) at_k t_at) same (kept (twin_number n) (IsSide-twin graph.edges n h n_is)))),
              )
              | inr other ↦ (λ kept. twin_kept (later_other j t_at (omega (arith, after, other)) same), λ kept. number_kept (later_one j t_at (omega (arith, after, other)) same))
            ]
          ]

    across_kept : (h : HalfEdge) → IsHalfEdge graph.edges h → (HasEdge (take k order) h → ⊥) → (Kept (At h) → Kept (At (twin h))) × (Kept (At (twin h)) → Kept (At h))
    across_kept h half unburnt =
        let (n, n_is) = side_from_half_edge graph.edges h half in
        elim (total n h n_is) [
          | inl one ↦ kept_by_place h n n_is n unburnt one (inl refl)
          | inr other ↦ kept_by_place h n n_is (twin_number n) unburnt other (inr refl)
        ]

    links_keep : (a b : Node) → IsLinkedOver graph.edges (take k order) a b → (Kept a → Kept b) × (Kept b → Kept a)
    links_keep a b (within link) = linked_kept a b link
    links_keep (At h) (At g) (across is unburnt) = across_kept h is unburnt

    pub stays_cut : (h : HalfEdge) → slice_get order k ≡ Some h → Reaches graph.edges (take k order) h → ⊥
    stays_cut h at walk =
        let (s, s_at, s_is) = read_first (IsSide graph.edges) sides order zip k h at in
        let kept = Walk-keeps Kept links_keep walk tt in
        stays (s, s_at, inl (of_later faces sides (k + 1) (slice_index faces s) (kept s s_is)))
