use Rattle.std.proofs.Common.{arith, ◌≡◌, ◌<◌, ◌∷◌, length, refl, sym, ap, ◌∙◌}
use Rattle.nest_base.proofs.ListReads.{All-read}
use Rattle.std.specs.Vec.{with_items}
use Rattle.std.proofs.lemmas.List.{with_items_is}
use Rattle.half_edges.specs.Numbers.{half_edges_of}
use Rattle.replay_check.specs.Burning.{burnt_sides}
use Rattle.replay_check.proofs.ReachedFaces.{scan_begun, scan_done, scan_grown, scan_cut, there, reached_same}
use Rattle.replay_check.proofs.detached.last_cut.Goals as goal

pub loop-burn-init : goal.loop-burn-init
loop-burn-init c = scan_begun c.args.faces.now.faces c.args.faces.now.count c.args.burns.now c.into_iter-burn-iterator.result.iter.rest.now c.in_ok-is_reached.is_reached.items
    (ap (λ i. i.iter.rest.now) c.into_iter-burn-iterator.ensures.into_iter_gives ∙ ap (λ i. i.rest.now) c.rev-burn-items.ensures.source ∙ c.iter.ensures.rest) c.in_ok-is_reached.ensures

pub reach_over-requires-clause-within : goal.reach_over-requires-clause-within
reach_over-requires-clause-within c = All-read (λ s. s < length (half_edges_of c.args.graph.now.edges)) (burnt_sides c.args.burns.now) (length c.next.new.self.iter.rest.now) c.in-Some.burn.now.side.0 c.requires.within
    (there c.args.faces.now.faces c.args.faces.now.count c.args.burns.now c.loop-burn.burn-iterator.iter.rest.now c.next.new.self.iter.rest.now c.in-Some.burn.now c.loop-burn.is_reached.items c.in-Some.ensures.steps c.loop-burn.invariant)

pub reach_over-requires-clause-each_flag : goal.reach_over-requires-clause-each_flag
reach_over-requires-clause-each_flag c = ap length c.deref_mut.ensures.value ∙ c.loop-burn.invariant.reached.as_many

pub returns-then-not-reach_over-clause-cut : goal.returns-then-not-reach_over-clause-cut
returns-then-not-reach_over-clause-cut c =
    let scan = c.loop-burn.invariant in
    let are = reached_same c.args.faces.now.faces c.args.faces.now.count (burnt_sides scan.scanned) c.loop-burn.is_reached.items c.deref_mut.result.now c.deref_mut.ensures.value scan.reached in
    scan_cut c.args.faces.now.faces c.args.faces.now.count c.args.burns.now c.loop-burn.burn-iterator.iter.rest.now c.next.new.self.iter.rest.now c.in-Some.burn.now c.loop-burn.is_reached.items c.in-Some.ensures.steps scan
    (λ grown. absurd (grind (arith, (c.if-not-reach_over.ensures.grows (burnt_sides scan.scanned) are).1 grown)))

pub loop-burn-preserved : goal.loop-burn-preserved
loop-burn-preserved c =
    let scan = c.loop-burn.invariant in
    let are = reached_same c.args.faces.now.faces c.args.faces.now.count (burnt_sides scan.scanned) c.loop-burn.is_reached.items c.deref_mut.result.now c.deref_mut.ensures.value scan.reached in
    let reached = c.if-not-reach_over.ensures.reached (burnt_sides scan.scanned) are refl in
    let new : (with_items c.loop-burn.is_reached c.reach_over.new.is_reached).items ≡ c.reach_over.new.is_reached =
    with_items_is c.loop-burn.is_reached c.reach_over.new.is_reached (reached.as_many ∙ sym scan.reached.as_many ∙ sym c.loop-burn.is_reached.ok.0) in
    scan_grown c.args.faces.now.faces c.args.faces.now.count c.args.burns.now c.loop-burn.burn-iterator.iter.rest.now c.next.new.self.iter.rest.now c.in-Some.burn.now c.loop-burn.is_reached.items c.in-Some.ensures.steps scan
    (with_items c.loop-burn.is_reached c.reach_over.new.is_reached).items ((c.if-not-reach_over.ensures.grows (burnt_sides scan.scanned) are).0 refl)
    (reached_same c.args.faces.now.faces c.args.faces.now.count (c.in-Some.burn.now.side.0 ∷ burnt_sides scan.scanned) c.reach_over.new.is_reached (with_items c.loop-burn.is_reached c.reach_over.new.is_reached).items new reached)

pub returns-clause-none : goal.returns-clause-none
returns-clause-none c = scan_done c.args.faces.now.faces c.args.faces.now.count c.args.burns.now c.loop-burn.burn-iterator.iter.rest.now c.loop-burn.is_reached.items c.in-None.ensures.steps.0 c.loop-burn.invariant
