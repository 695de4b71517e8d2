-- The order is none of the edges that were planned, so there is room for it.
use Rattle.std.proofs.Common.{arith, ◌≡◌, ◌<◌, [], ◌++◌, length, get_or, sym, ap, subst, ◌∙◌}
use Rattle.std.specs.Prelude.{◌↔◌, ◌⊎◌}
use Rattle.std.proofs.lemmas.List.{map-append}
use Rattle.half_edges.specs.Graph.{Graph, rotations_of, component_of}
use Rattle.half_edges.specs.Numbers.{half_edges_of}
use Rattle.half_edges.specs.Burns.{IsBurnt}
use Rattle.nest_base.proofs.NumberLists.{length-side_numbers}
use Rattle.nest_base.specs.NumberLists.{side_numbers}
use Rattle.face_nesting.proofs.NumbersOf.{side_number}
use Rattle.cover_walks.specs.Orders.{Has}
use Rattle.cover_walks.specs.Covers.{IsCoverOrder}
use Rattle.oe_cover.specs.Cuts.{chains_by}
use Rattle.oe_cover.specs.Drafts.{chains_in}
use Rattle.oe_cover.specs.Planning.{IsPlanning, planned}
use Rattle.oe_cover.proofs.SideOrders.{number_at}
use Rattle.oe_cover.proofs.CoveredComponents.{HasCovered, as_before, covers_before, order_within, once_after, within_after, fits_after, burnt_after}
use Rattle.oe_cover.proofs.planner.Planner.cover.Goals as goal
use Rattle.oe_cover.proofs.planner.Planner.cover.Goals.{After-order}

pub cover-requires-clause-room : goal.cover-requires-clause-room
cover-requires-clause-room g c =
    let (o, is) = c.requires.known in
    omega (arith, ap (λ r. r.room) is.route, ap (λ (x : Graph). length x.edges) is.graph)

-- the order of the route is a cover
cover_order : (g : _) (c : After-order g) → IsCoverOrder (rotations_of c.args.graph.now) (component_of c.args.graph.now) c.args.start.0 c.cover.new.route.done
cover_order g c =
    let edges = c.cover.ensures.edges in
    record {
      some = edges.some;
      inside = edges.inside;
      once = edges.once;
      whole = edges.whole;
      encloses = c.cover.ensures.encloses;
      last = c.cover.ensures.last;
      few = c.cover.ensures.few;
    }

-- what stands once it is covered
covered : (g : _) (c : After-order g) (o : Graph) → IsPlanning o c.args.graph.now c.args.self.now →
    HasCovered o c.args.graph.now c.cover.new.graph c.args.self.now c.args.start.0 (side_numbers c.order.result.now)
covered g c o is =
    let x = c.args.graph.now in
    record {
      planning = is;
      unburnt = c.requires.unburnt;
      covers = subst (IsCoverOrder (rotations_of x) (component_of x) c.args.start.0) (sym c.order.ensures) (cover_order g c);
      burnt = λ s. subst (λ order. IsBurnt c.cover.new.graph s ↔ (IsBurnt x s ⊎ Has (rotations_of x) order s)) (sym c.order.ensures) (c.cover.ensures.burnt s);
      graph = c.cover.ensures.same;
    }

pub push_order-requires-clause-known : goal.push_order-requires-clause-known
push_order-requires-clause-known g c =
    let (o, is) = c.requires.known in
    let fits = fits_after (covered g (goal.at.push_order-requires-clause-known g c).After-order o is) in
    (length o.edges, is.draft, is.plane.few, omega (arith, fits, length-side_numbers c.args.self.now.draft.sides.items, length-side_numbers c.order.result.now))

pub push_order-requires-clause-within : goal.push_order-requires-clause-within
push_order-requires-clause-within g c k d within =
    let (o, is) = c.requires.known in
    let h = covered g (goal.at.push_order-requires-clause-within g c).After-order o is in
    let order = c.order.result.now in
    let numbers = side_numbers order in
    let below : get_or numbers k 0 < length (half_edges_of o.edges) = order_within h k 0 (omega (arith, within, length-side_numbers order)) in
    let same : length (half_edges_of c.cover.new.graph.edges) ≡ length (half_edges_of o.edges) = ap (λ (x : Graph). length (half_edges_of x.edges)) (as_before h) in
    omega (arith, below, same, number_at order k d within)

pub returns-clause-ready : goal.returns-clause-ready
returns-clause-ready g c o is =
    let h = covered g (goal.at.returns-clause-ready g c).After-order o is in
    let all : planned (record { route = c.clear.new.self; draft = c.push_order.new.self }) ≡ planned c.args.self.now ++ side_numbers c.order.result.now =
    ap side_numbers c.push_order.ensures.sides ∙ map-append side_number c.args.self.now.draft.sides.items c.order.result.now in
    record {
      plane = is.plane;
      graph = as_before h;
      burnt = rw all (burnt_after h);
      within = rw all (within_after h);
      once = rw all (once_after h);
      draft = c.push_order.ensures.room (length o.edges) is.draft;
      route = c.clear.ensures ∙ ap (λ n. record { done = []; stack = []; room = n }) (c.cover.ensures.room ∙ ap (λ r. r.room) is.route);
    }

pub returns-clause-covered : goal.returns-clause-covered
returns-clause-covered g c o is =
    let h = covered g (goal.at.returns-clause-covered g c).After-order o is in
    record {
      order = side_numbers c.order.result.now;
      covers = covers_before h;
      sides = ap side_numbers c.push_order.ensures.sides ∙ map-append side_number c.args.self.now.draft.sides.items c.order.result.now;
      chains = λ rule answers. c.push_order.ensures.chains rule answers ∙ ap (λ (x : Graph). chains_in c.args.self.now.draft ++ chains_by rule (rotations_of x) (side_numbers c.order.result.now)) (as_before h);
    }

pub returns-clause-ends : goal.returns-clause-ends
returns-clause-ends g c =
    let (o, is) = c.requires.known in
    (c.push_order.ensures.room (length o.edges) is.draft).are_ends
