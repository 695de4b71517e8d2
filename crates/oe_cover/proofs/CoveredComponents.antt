-- One more component is covered.
use Rattle.std.proofs.Common.{arith, ◌≡◌, ◌⊎◌, inl, inr, ℕ, Bool, ◌+◌, ◌≤◌, ◌<◌, List, ◌++◌, length, length-append, sym, ap, subst, ◌∙◌}
use Rattle.std.specs.Prelude.{◌↔◌, All}
use Rattle.std.proofs.lemmas.List.Elements.{All-append}
use Rattle.half_edges.specs.Graph.{Graph, rotations_of, component_of, origin_of}
use Rattle.half_edges.specs.Burns.{IsBurnt, with_burnt}
use Rattle.half_edges.proofs.Numbers.{length-half_edges}
use Rattle.cover_walks.specs.Orders.{Has, Once}
use Rattle.cover_walks.specs.Chains.{chains_of}
use Rattle.cover_walks.specs.Covers.{IsCoverOrder}
use Rattle.cover_walks.proofs.Holdings.{has_inside, has_component, Has-after}
use Rattle.component_route.specs.States.{IsUnburnt}
use Rattle.oe_cover.specs.declared.planner.Planner.{Planner}
use Rattle.oe_cover.specs.Cuts.{meets}
use Rattle.oe_cover.specs.Drafts.{chains_in}
use Rattle.oe_cover.specs.Planning.{IsPlanning, HasAppended, NothingPlanned, planned}
use Rattle.oe_cover.proofs.Cuts.{chains_meeting}
use Rattle.oe_cover.proofs.PlannedOrders.{Has-either, Has-before, Once-both, all_few, all_within}

-- the component of start has been covered since x, by this order
pub record HasCovered (o x y : Graph) (p : Planner) (start : ℕ) (order : List ℕ) : Type 0 where
  pub planning : IsPlanning o x p
  pub unburnt : IsUnburnt x start
  pub covers : IsCoverOrder (rotations_of x) (component_of x) start order
  pub burnt : (s : ℕ) → IsBurnt y s ↔ (IsBurnt x s ⊎ Has (rotations_of x) order s)
  pub graph : y ≡ with_burnt x y.burnt

module _ {o x y : Graph} {p : Planner} {start : ℕ} {order : List ℕ} (h : HasCovered o x y p start order) where
  -- the graph is the one before, but for what is burnt
  pub as_before : y ≡ with_burnt o y.burnt
  as_before = h.graph ∙ ap (λ graph. with_burnt graph y.burnt) h.planning.graph

  pub covers_before : IsCoverOrder (rotations_of o) (component_of o) start order
  covers_before = subst (λ graph. IsCoverOrder (rotations_of graph) (component_of graph) start order) h.planning.graph h.covers

  pub has_before : (s : ℕ) → Has (rotations_of x) order s → Has (rotations_of o) order s
  has_before s = subst (λ graph. Has (rotations_of graph) order s) h.planning.graph

  has_since : (s : ℕ) → Has (rotations_of o) order s → Has (rotations_of x) order s
  has_since s = subst (λ graph. Has (rotations_of graph) order s) (sym h.planning.graph)

  -- its edges are none of those that were planned
  apart : (s : ℕ) → Has (rotations_of o) (planned p) s → Has (rotations_of o) order s → ⊥
  apart s has_p has =
      let plane = h.planning.plane in
      let component : component_of o (origin_of o s) ≡ component_of o (origin_of o start) = has_component (rotations_of o) plane.rotation (component_of o) (component_of o (origin_of o start)) plane.divides order s covers_before.inside has in
      let below : s < (rotations_of o).sides = has_inside (rotations_of o) plane.rotation (component_of o) (component_of o (origin_of o start)) order s covers_before.inside has in
      subst (λ graph. IsUnburnt graph start) h.planning.graph h.unburnt s below component (subst (λ graph. IsBurnt graph s) h.planning.graph ((h.planning.burnt s).1 (inr has_p)))

  pub once_after : Once (rotations_of o) (planned p ++ order)
  once_after = Once-both (rotations_of o) (planned p) order h.planning.once covers_before.once apart

  pub order_within : All (λ s. s < (rotations_of o).sides) order
  order_within = all_within (rotations_of o) (component_of o) (component_of o (origin_of o start)) order h.planning.plane.rotation covers_before.inside

  pub within_after : All (λ s. s < (rotations_of o).sides) (planned p ++ order)
  within_after = All-append (λ s. s < (rotations_of o).sides) (planned p) order h.planning.within order_within

  -- so there is room for it
  pub fits_after : length (planned p) + length order ≤ length o.edges
  fits_after = omega (arith, length-append (planned p) order, length-half_edges o.edges, all_few (rotations_of o) (planned p ++ order) h.planning.plane.rotation within_after once_after)

  pub burnt_after : (s : ℕ) → IsBurnt y s ↔ (IsBurnt o s ⊎ Has (rotations_of o) (planned p ++ order) s)
  burnt_after s = (
    λ burnt. elim ((h.burnt s).0 burnt) [
      | inl old ↦ elim ((h.planning.burnt s).0 old) [ inl first ↦ inl first | inr has ↦ inr (Has-before (rotations_of o) (planned p) order s has) ]
      | inr has ↦ inr (Has-after (rotations_of o) (planned p) order s (has_before s has))
    ],
    λ either. elim either [
      | inl first ↦ (h.burnt s).1 (inl ((h.planning.burnt s).1 (inl first)))
      | inr has ↦ elim (Has-either (rotations_of o) (planned p) order s has) [
        | inl old ↦ (h.burnt s).1 (inl ((h.planning.burnt s).1 (inr old)))
        | inr new ↦ (h.burnt s).1 (inr (has_since s new))
      ]
    ],
  )

-- where a chain goes on from the vertex to which it leads, the chains of its order are appended
pub chains_appended : {o : Graph} {start : ℕ} {answers_by : (ℕ → ℕ → Bool) → Type 0} {before after : Planner} (covered : HasAppended o start answers_by before after) → answers_by meets →
    chains_in after.draft ≡ chains_in before.draft ++ chains_of (rotations_of o) covered.order
chains_appended {o} {before = before} covered meeting = covered.chains meets meeting ∙ ap (λ chains. chains_in before.draft ++ chains) (chains_meeting (rotations_of o) covered.order)

-- and stand alone where nothing was planned before
pub chains_alone : {o : Graph} {start : ℕ} {answers_by : (ℕ → ℕ → Bool) → Type 0} {before after : Planner} (covered : HasAppended o start answers_by before after) → answers_by meets →
    NothingPlanned before → chains_in after.draft ≡ chains_of (rotations_of o) covered.order
chains_alone {o} covered meeting nothing = chains_appended covered meeting ∙ ap (λ chains. chains ++ chains_of (rotations_of o) covered.order) nothing.chains
