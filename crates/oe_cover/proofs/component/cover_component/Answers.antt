-- The chains are those of the order by which the component of the start is covered.
use Rattle.std.proofs.Common.{rules, ◌≡◌, ◌++◌, inl, inr, sym, ap, subst, ◌∙◌}
use Rattle.std.specs.Prelude.{◌↔◌, ◌⊎◌}
use Rattle.half_edges.specs.Graph.{rotations_of}
use Rattle.half_edges.specs.Burns.{IsBurnt}
use Rattle.cover_walks.specs.Orders.{Has}
use Rattle.plate_sides.specs.ComponentCovers.{IsComponentCover, LastEndsAt}
use Rattle.oe_cover.specs.Planning.{planned}
use Rattle.oe_cover.specs.Trails.{trails_by}
use Rattle.oe_cover.proofs.CoveredComponents.{chains_alone}
use Rattle.oe_cover.proofs.ComponentStarts.{HasStart, start_below, start_component, component_cover, ends_there, has_all}
use Rattle.oe_cover.proofs.component.cover_component.Goals as goal
use Rattle.oe_cover.proofs.component.cover_component.Goals.{In_ok-planner}

begins : (c : In_ok-planner) → HasStart c.args.graph.now c.args.faces.now c.args.c.0 c.args.start.0
begins c = record { plane = c.in_ok-planner.ensures.ready.plane; cycles = c.requires.cycles; within = c.requires.within; lawful = c.requires.start }

pub cover-requires-clause-start : goal.cover-requires-clause-start
cover-requires-clause-start c = start_below (begins (goal.at.cover-requires-clause-start c).In_ok-planner)

pub cover-requires-clause-unburnt : goal.cover-requires-clause-unburnt
cover-requires-clause-unburnt c s below component burnt =
    c.requires.unburnt s (below, component ∙ start_component (begins (goal.at.cover-requires-clause-unburnt c).In_ok-planner)) burnt

pub returns-clause-component_cover : goal.returns-clause-component_cover
returns-clause-component_cover c mark at =
    let graph = c.args.graph.now in
    let h = begins (goal.at.returns-clause-component_cover c).In_ok-planner in
    let covered = c.cover.ensures.covered graph c.in_ok-planner.ensures.ready in
    let chains = c.finish.ensures ∙ chains_alone covered (λ to from answer gave. search rules) c.in_ok-planner.ensures.empty in
    subst (λ chains. IsComponentCover graph.edges mark (trails_by graph.edges chains)) (sym chains) (component_cover h covered.order covered.covers mark at)

pub returns-clause-ends : goal.returns-clause-ends
returns-clause-ends c s side =
    let graph = c.args.graph.now in
    let h = begins (goal.at.returns-clause-ends c).In_ok-planner in
    let covered = c.cover.ensures.covered graph c.in_ok-planner.ensures.ready in
    let chains = c.finish.ensures ∙ chains_alone covered (λ to from answer gave. search rules) c.in_ok-planner.ensures.empty in
    subst (λ chains. LastEndsAt (trails_by graph.edges chains) s.from) (sym chains) (ends_there h covered.order covered.covers s side)

pub returns-clause-burnt : goal.returns-clause-burnt
returns-clause-burnt c s =
    let h = begins (goal.at.returns-clause-burnt c).In_ok-planner in
    let graph = c.args.graph.now in
    let covered = c.cover.ensures.covered graph c.in_ok-planner.ensures.ready in
    let all = has_all h covered.order covered.covers s in
    let order : planned c.cover.new.self ≡ covered.order = covered.sides ∙ ap (λ sides. sides ++ covered.order) c.in_ok-planner.ensures.empty.sides in
    let since : IsBurnt c.cover.new.graph s ↔ (IsBurnt graph s ⊎ Has (rotations_of graph) covered.order s) =
    subst (λ sides. IsBurnt c.cover.new.graph s ↔ (IsBurnt graph s ⊎ Has (rotations_of graph) sides s)) order ((c.cover.ensures.ready graph c.in_ok-planner.ensures.ready).burnt s) in (
      λ burnt. elim (since.0 burnt) [ inl old ↦ inl old | inr has ↦ inr (all.0 has) ],
      λ either. elim either [ inl old ↦ since.1 (inl old) | inr is ↦ since.1 (inr (all.1 is)) ],
    )
