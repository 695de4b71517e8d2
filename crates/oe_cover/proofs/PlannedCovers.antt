-- The covers of the components that are planned, and one more.
use Rattle.std.proofs.Common.{arith, ◌≡◌, ◌≢◌, ◌⊎◌, inl, inr, ◌<◌, ◌+◌, ℕ, Bool, List, [], ◌∷◌, ◌++◌, Option, length, length-take, take, map, refl, sym, ap, subst, ◌∙◌}
use Rattle.std.specs.Prelude.{AllPairs, Contains, Some, slice_get}
use Rattle.std.proofs.lemmas.List.{append-nil, map-append}
use Rattle.std.proofs.lemmas.Grind.{flat_map-append}
use Rattle.std.proofs.lemmas.Option.{slice_get_within}
use Rattle.nest_base.specs.declared.places.Point.{Point}
use Rattle.nest_base.specs.Plane.{HalfEdge}
use Rattle.nest_base.proofs.Lists.{Contains-none}
use Rattle.plate_sides.specs.Nesting.{AreParents, HasMarkSides}
use Rattle.plate_sides.specs.ComponentCovers.{IsComponentCover, LastEndsAt}
use Rattle.plate_nesting.specs.Order.{IsBurningOrder}
use Rattle.plate_plans.specs.Plans.{IsPlan, all_trails}
use Rattle.plate_plans.proofs.Turns.{component_covers_are_plan}
use Rattle.half_edges.specs.Numbers.{half_edges_of}
use Rattle.rotation_systems.specs.Twins.{twin_number}
use Rattle.half_edges.specs.Runs.{side_at}
use Rattle.half_edges.specs.Graph.{Graph, rotations_of, component_of, origin_of}
use Rattle.half_edges.specs.Burns.{IsBurnt}
use Rattle.half_edges.specs.PlaneGraphs.{IsPlaneGraph}
use Rattle.nest_base.proofs.ListReads.{read_below, read_from_Contains, Contains-from_read, read-take, read_pushed, read_kept, read_of_pushed, AllPairs-reads}
use Rattle.face_nesting.specs.Nesting.{Nesting, cycle_at}
use Rattle.face_nesting.proofs.Prefixes.{take_read, AllZip-one_more}
use Rattle.cover_walks.specs.Orders.{Has}
use Rattle.cover_walks.specs.Chains.{chains_of}
use Rattle.cover_walks.proofs.Holdings.{Has-after}
use Rattle.component_route.specs.States.{IsUnburnt}
use Rattle.oe_cover.specs.declared.planner.Planner.{Planner}
use Rattle.oe_cover.specs.Cuts.{meets}
use Rattle.oe_cover.specs.Drafts.{chains_in}
use Rattle.oe_cover.specs.Trails.{trails_by}
use Rattle.oe_cover.specs.Starts.{IsFirstStart}
use Rattle.oe_cover.specs.Ends.{IsFirstOfStarts}
use Rattle.oe_cover.specs.Planning.{IsPlanning, HasAppended, HasPlanned, planned}
use Rattle.oe_cover.proofs.PlannedOrders.{Has-either, Has-before}
use Rattle.oe_cover.proofs.CoveredComponents.{chains_appended}
use Rattle.oe_cover.proofs.FirstEnds.{first_of_starts}
use Rattle.oe_cover.proofs.ComponentStarts.{HasStart, start_component, mark, half, component_cover, ends_there, has_all}

-- what stands at a place of a list without repeats stands at no earlier one
not_before : (order : List ℕ) (i c : ℕ) → AllPairs (λ a b. a ≢ b) order → slice_get order i ≡ Some c → Contains (take i order) c → ⊥
not_before order i c once at stands =
    let read = read_from_Contains (take i order) c stands in
    let less : read.0 < i = omega (arith, slice_get_within (take i order) read.0 c read.1, length-take i order) in
    AllPairs-reads (λ a b. a ≢ b) order read.0 i c c once less (sym (read-take i order read.0 less) ∙ read.1) at refl

stands_in_front : (order : List ℕ) (i c d : ℕ) → slice_get order i ≡ Some c → Contains (take i order) d → Contains (take (i + 1) order) d
stands_in_front order i c d at stands =
    let read = read_from_Contains (take i order) d stands in
    rw (take_read order i c at) (Contains-from_read (take i order ++ c ∷ []) read.0 d (read_kept (take i order) c read.0 d read.1))

stands_last : (order : List ℕ) (i c : ℕ) → slice_get order i ≡ Some c → Contains (take (i + 1) order) c
stands_last order i c at = rw (take_read order i c at) (Contains-from_read (take i order ++ c ∷ []) (length (take i order)) c (read_pushed (take i order) c))

stands_either : (order : List ℕ) (i c d : ℕ) → slice_get order i ≡ Some c → Contains (take (i + 1) order) d → Contains (take i order) d ⊎ (c ≡ d)
stands_either order i c d at stands =
    let read = read_from_Contains (take i order ++ c ∷ []) d (rw (take_read order i c at) at stands) in
    elim (read_of_pushed (take i order) c read.0 d read.1) [ inl old ↦ inl (Contains-from_read (take i order) read.0 d old) | inr last ↦ inr last.1 ]

trails_by-append : (o : Graph) (xs ys : List (List ℕ)) → trails_by o.edges (xs ++ ys) ≡ trails_by o.edges xs ++ trails_by o.edges ys
trails_by-append o xs ys = map-append (map (side_at (half_edges_of o.edges))) xs ys

-- the trails of one cover more
all_trails_more : (component_covers : List (List (List HalfEdge))) (own : List (List HalfEdge)) → all_trails (component_covers ++ own ∷ []) ≡ all_trails component_covers ++ own
all_trails_more component_covers own = flat_map-append (λ trails. trails) component_covers (own ∷ []) ∙ ap (λ trails. all_trails component_covers ++ trails) (append-nil own)

module _ {o : Graph} {faces : Nesting} (order : List ℕ) (i c start : ℕ) (at : slice_get order i ≡ Some c) (h : HasStart o faces c start) where
  -- no edge of the component is burnt yet
  pub not_burnt_yet : (x : Graph) (p : Planner) → IsPlanning o x p → HasPlanned o (take i order) p → o.burnt ≡ [] → AllPairs (λ a b. a ≢ b) order → IsUnburnt x start
  not_burnt_yet x p planning is none once = subst (λ graph. IsUnburnt graph start) (sym planning.graph)
      (λ s below component burnt. not_before order i c once at (subst (Contains (take i order)) (component ∙ start_component h) (is.inside s (was_planned s (subst (λ graph. IsBurnt graph s) (sym planning.graph) burnt)))))
    where
      was_planned : (s : ℕ) → IsBurnt x s → Has (rotations_of o) (planned p) s
      was_planned s burnt = elim ((planning.burnt s).0 burnt) [
        | inl (inl first) ↦ absurd (Contains-none s (subst (λ l. Contains l s) none first))
        | inl (inr first) ↦ absurd (Contains-none (twin_number s) (subst (λ l. Contains l (twin_number s)) none first))
        | inr has ↦ has
      ]

  module _ {answers_by : (ℕ → ℕ → Bool) → Type 0} (first : IsFirstStart o (cycle_at faces c) start) (before after : Planner) (is : HasPlanned o (take i order) before)
      (covered : HasAppended o start answers_by before after) (meeting : answers_by meets) where
    abbrev own : List (List HalfEdge)
    own = trails_by o.edges (chains_of (rotations_of o) covered.order)

    -- its cover is appended
    pub one_more : HasPlanned o (take (i + 1) order) after
    one_more = record {
      component_covers = is.component_covers ++ own ∷ [];
      are_component_covers = AllZip-one_more (λ n trails. (m : Point) × (slice_get o.marks n ≡ Some m) × IsComponentCover o.edges m trails) order is.component_covers i c own at is.are_component_covers
          ((mark h).0, (mark h).1, component_cover h covered.order covered.covers (mark h).0 (mark h).1);
      ends = AllZip-one_more (λ n trails. (m : Point) × (p : Point) × (slice_get o.marks n ≡ Some m) × IsFirstOfStarts o.edges m p × LastEndsAt trails p) order is.component_covers i c own at is.ends (
        (mark h).0,
        (half h).0.from,
        (mark h).1,
        first_of_starts faces h.plane h.cycles c (mark h).0 (mark h).1 start (half h).0 (half h).1 first,
        ends_there h covered.order covered.covers (half h).0 (half h).1,
      );
      trails = ap (trails_by o.edges) (chains_appended covered meeting) ∙ trails_by-append o (chains_in before.draft) (chains_of (rotations_of o) covered.order)
          ∙ ap (λ trails. trails ++ own) is.trails ∙ sym (all_trails_more is.component_covers own);
      inside = λ s has. elim (Has-either (rotations_of o) (planned before) covered.order s (subst (λ l. Has (rotations_of o) l s) covered.sides has)) [
        | inl old ↦ stands_in_front order i c (component_of o (origin_of o s)) at (is.inside s old)
        | inr new ↦ subst (Contains (take (i + 1) order)) (sym ((has_all h covered.order covered.covers s).0 new).1) (stands_last order i c at)
      ];
      whole = λ s below stands. subst (λ l. Has (rotations_of o) l s) (sym covered.sides) (elim (stands_either order i c (component_of o (origin_of o s)) at stands) [
        | inl old ↦ Has-before (rotations_of o) (planned before) covered.order s (is.whole s below old)
        | inr same ↦ Has-after (rotations_of o) (planned before) covered.order s ((has_all h covered.order covered.covers s).1 (below, sym same))
      ]);
    }

-- in the end all components are planned
module _ {o : Graph} {parents : List (Option ℕ)} {order : List ℕ} {p : Planner} (plane : IsPlaneGraph o) (are : AreParents o.edges o.marks parents)
    (burns : IsBurningOrder parents order) (is : HasPlanned o order p) where
  pub all_are_plan : HasMarkSides o.edges → IsPlan o.edges (trails_by o.edges (chains_in p.draft))
  all_are_plan mark_sides = subst (IsPlan o.edges) (sym is.trails)
      (component_covers_are_plan o.edges o.marks parents order is.component_covers
      (record { ends_in_order = plane.ends_in_order; apart = plane.apart; are_marks = plane.are_marks; round = plane.round; mark_sides = mark_sides })
      are burns is.are_component_covers)

  pub all_are_burnt : (x : Graph) → IsPlanning o x p → (s : ℕ) → s < length (half_edges_of o.edges) → IsBurnt x s
  all_are_burnt x planning s below =
      let h = read_below (half_edges_of o.edges) s below in
      let mark = plane.components s h.0 h.1 in
      let c = component_of o (origin_of o s) in
      let within : c < length parents = omega (arith, slice_get_within o.marks c mark.0 mark.1, are.as_many) in
      (planning.burnt s).1 (inr (is.whole s below (burns.all c within)))
