-- The cycles of components on the plate: their outer sides, from the mark side on.
use Rattle.std.proofs.Common.{arith, ◌≡◌, ◌≢◌, inl, inr, ℕ, ◌+◌, ◌-◌, ◌<◌, List, [], ◌∷◌, ◌++◌, Option, length, length-append, map, take, drop, get_or, refl, sym, ap, subst, ◌∙◌}
use Rattle.std.specs.Prelude.{Contains, AllPairs, Some, slice_get, slice_index}
use Rattle.std.specs.List.{AllAdjacentBelow, AllZip}
use Rattle.std.proofs.lemmas.List.{length-map, map_push}
use Rattle.std.proofs.lemmas.Option.{slice_get_within, slice_get-get_or, get_or_from_slice_get}
use Rattle.nest_base.specs.declared.places.Point.{Point}
use Rattle.nest_base.specs.Plane.{HalfEdge}
use Rattle.nest_base.proofs.Lists.{Contains-head, Contains-later}
use Rattle.nest_base.proofs.Walks.{Walk-keeps}
use Rattle.plate_edges.proofs.Lists.{Contains-map, AllPairs-map}
use Rattle.plate_sides.specs.Links.{IsAlong, IsMarkSide, IsOuterSide}
use Rattle.plate_nesting.proofs.Alongs.{mark_side_is_one}
use Rattle.half_edges.specs.Numbers.{half_edges_of, IsSide}
use Rattle.half_edges.specs.Graph.{Graph, rotations_of}
use Rattle.rotation_systems.specs.RotationSystem.{along}
use Rattle.half_edges.specs.Runs.{side_at}
use Rattle.half_edges.proofs.AllSides.{side_at_is}
use Rattle.nest_base.proofs.ListReads.{one_read, read-map, read_of_pushed, AllPairs-reads, AllPairs-from_reads, Contains-from_read}
use Rattle.half_edges.proofs.Numbers.{side_from_half_edge}
use Rattle.face_nesting.specs.Cycles.{IsCycleFrom}
use Rattle.face_nesting.specs.Nesting.{AreOuterSides}
use Rattle.face_nesting.proofs.CycleSteps.{path_goes}
use Rattle.face_nesting.proofs.CycleMembers.{heads, member_at, side_within, along_within, along_from}
use Rattle.face_nesting.proofs.KnownGraph.{half_below, one_number, along_number, along_on_plate}
use Rattle.face_nesting.proofs.MarkSideComponents.{mark_side_of}
use Rattle.face_nesting.proofs.FoundCycles.{AreFound, mark_side_heads, mark_side_numbered}
use Rattle.face_nesting.proofs.CycleSlices.{slice_at, slice_is}

zip_image : {X Y : Type 0} (R : X → Y → Type 0) (f : X → Y) (xs : List X) → ((x : X) → Contains xs x → R x (f x)) → AllZip R xs (map f xs)
zip_image R f [] h = tt
zip_image R f (x ∷ xs) h = (h x (Contains-head x xs), zip_image R f xs (λ y stands. h y (Contains-later x y xs stands)))

module _ {graph : Graph} {mark_sides cycle_of sides starts : List ℕ} {sights : List (Option ℕ)} (found : AreFound graph mark_sides cycle_of sides starts sights) where
  -- the half-edge with this number
  abbrev half : ℕ → HalfEdge
  half s = side_at (half_edges_of graph.edges) s

  half_is : (s : ℕ) → s < length (half_edges_of graph.edges) → IsSide graph.edges s (half s)
  half_is s below =
      let h = half_below found.known s below in
      subst (IsSide graph.edges s) (sym (side_at_is graph.edges s h.0 h.1)) h.1

  -- the cycle of a component, with its first half-edge
  module _ (c first : ℕ) (cycle : List ℕ) (is_cycle : IsCycleFrom (rotations_of graph) first cycle) (there : slice_get found.are_cycles.are_cycles.cycles c ≡ Some cycle) where
    numbered : (s : ℕ) → Contains cycle s → slice_get cycle_of s ≡ Some c
    numbered s stands = found.are_cycles.are_cycles.numbered c s cycle there stands

    in_cycle : (s : ℕ) → slice_get cycle_of s ≡ Some c → Contains cycle s
    in_cycle s at =
        let member = member_at found.are_cycles s c at in
        subst (λ xs. Contains xs s) (one_read found.are_cycles.are_cycles.cycles c member.cycle cycle member.is_there there) member.stands

    member_is : (s : ℕ) → Contains cycle s → IsSide graph.edges s (half s)
    member_is s stands = half_is s (side_within found.are_cycles s c (numbered s stands))

    -- each half-edge goes along to the next
    goes_round : AllAdjacentBelow (IsAlong graph.edges) (map half cycle ++ half first ∷ []) (length (map half cycle) + 1)
    goes_round k d less =
        let path = cycle ++ first ∷ [] in
        let long = length-append cycle (first ∷ []) in
        let x = get_or path k 0 in
        let y = get_or path (k + 1) 0 in
        let within : k < length cycle = omega (arith, less, length-map cycle half) in
        let at_x = slice_get-get_or path k 0 (omega (arith, within, long)) in
        let at_y = slice_get-get_or path (k + 1) 0 (omega (arith, within, long)) in
        let goes = path_goes (rotations_of graph) cycle first k x y is_cycle.goes_round at_x at_y in
        let first_there : Contains cycle first = Contains-from_read cycle 0 first is_cycle.begins in
        let stands : Contains cycle x = elim (read_of_pushed cycle first k x at_x) [
          | inl old ↦ Contains-from_read cycle k x old
          | inr last ↦ subst (Contains cycle) last.1 first_there
        ] in
        let also : Contains cycle y = elim (read_of_pushed cycle first (k + 1) y at_y) [
          | inl old ↦ Contains-from_read cycle (k + 1) y old
          | inr last ↦ subst (Contains cycle) last.1 first_there
        ] in
        let link = along_on_plate found.known x (half x) (half y) (member_is x stands) (subst (λ n. IsSide graph.edges n (half y)) (sym goes) (member_is y also)) in
        rw (sym (map_push half cycle first), get_or_from_slice_get (map half path) k (half x) d (read-map half path k x at_x), get_or_from_slice_get (map half path) (k + 1) (half y) d (read-map half path (k + 1) y at_y)) link

    each_once : AllPairs (λ g h. g ≢ h) (map half cycle)
    each_once = AllPairs-map (λ g h. g ≢ h) half cycle (AllPairs-from_reads (λ s t. half s ≢ half t) cycle (λ i j s t less at_s at_t same.
        let is_t = subst (IsSide graph.edges t) (sym same) (member_is t (Contains-from_read cycle j t at_t)) in
        AllPairs-reads (λ a b. a ≢ b) cycle i j s t is_cycle.once less at_s at_t (one_number found.known s t (half s) (member_is s (Contains-from_read cycle i s at_s)) is_t)))

    -- what links along join to a half-edge of the cycle stands in it
    InCycle : HalfEdge → Type 0
    InCycle h = (s : ℕ) × IsSide graph.edges s h × (slice_get cycle_of s ≡ Some c)

    in_cycle_on : (a b : HalfEdge) → IsAlong graph.edges a b → InCycle a → InCycle b
    unfolding InCycle
    in_cycle_on a b link (s, is, at) = (along (rotations_of graph) s, along_number found.known s a b is link, along_within found.are_cycles s c at)

    in_cycle_from : (a b : HalfEdge) → IsAlong graph.edges a b → InCycle b → InCycle a
    unfolding InCycle
    in_cycle_from a b link (t, is, at) =
        let s = side_from_half_edge graph.edges a link.0 in
        let same = one_number found.known t (along (rotations_of graph) s.0) b is (along_number found.known s.0 a b s.1 link) in
        (s.0, s.1, along_from found.are_cycles s.0 c (slice_get_within (half_edges_of graph.edges) s.0 a s.1) (subst (λ n. slice_get cycle_of n ≡ Some c) same at))

    whole : (m : HalfEdge) → IsSide graph.edges first m → IsMarkSide graph.edges m → (h : HalfEdge) → IsOuterSide graph.edges m.from h → Contains (map half cycle) h
    unfolding InCycle
    whole m is_m is_mark h (n, is_side, leaves, walk) =
        let same = mark_side_is_one graph.edges found.known.ends_in_order found.known.apart m n is_mark is_side (sym leaves) in
        let begins : InCycle n = (first, subst (IsSide graph.edges first) same is_m, numbered first (Contains-from_read cycle 0 first is_cycle.begins)) in
        let reached : InCycle h = Walk-keeps InCycle (λ a b link. (in_cycle_on a b link, in_cycle_from a b link)) walk begins in
        subst (Contains (map half cycle)) (side_at_is graph.edges reached.0 h reached.1) (Contains-map half cycle reached.0 (in_cycle reached.0 reached.2))

    pub is_outer_cycle : (m : HalfEdge) → IsSide graph.edges first m → IsMarkSide graph.edges m → AreOuterSides graph.edges m.from cycle
    is_outer_cycle m is_m is_mark =
        let same = side_at_is graph.edges first m is_m in (
          map half cycle,
          zip_image (IsSide graph.edges) half cycle member_is,
          record {
            mark_side = m;
            begins = read-map half cycle 0 first is_cycle.begins ∙ ap Some same;
            is_mark_side = is_mark;
            leaves = refl;
            goes_round = subst (λ e. AllAdjacentBelow (IsAlong graph.edges) (map half cycle ++ e ∷ []) (length (map half cycle) + 1)) same goes_round;
            once = each_once;
            whole = whole m is_m is_mark;
          },
        )

  -- the slice of each component
  pub outer_cycle_at : (c : ℕ) (mark : Point) → slice_get graph.marks c ≡ Some mark →
      AreOuterSides graph.edges mark (take (slice_index starts (c + 1) - slice_index starts c) (drop (slice_index starts c) sides))
  outer_cycle_at c mark at =
      let side = mark_side_of found.known mark_sides found.are_mark_sides c mark at in
      let member = member_at found.are_cycles side.0 c (mark_side_numbered found c side.0 side.1) in
      let head = one_read (heads found.are_cycles) c member.head side.0 member.is_head (mark_side_heads found c side.0 side.1) in
      let is_cycle = subst (λ n. IsCycleFrom (rotations_of graph) n member.cycle) head member.is_cycle in
      let here = slice_is sides starts c member.cycle (slice_at sides starts found.are_cycles.are_cycles.cycles c member.cycle found.are_cycles.are_cycles.are_sides found.are_cycles.are_cycles.are_starts member.is_there) in
      rw here (subst (λ p. AreOuterSides graph.edges p member.cycle) side.2.3 (is_outer_cycle c side.0 member.cycle is_cycle member.is_there side.2.0 side.2.1 side.2.2))
