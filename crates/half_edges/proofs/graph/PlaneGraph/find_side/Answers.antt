use Rattle.std.proofs.Common.{◌≡◌, refl, sym, ap, subst, ◌∙◌}
use Rattle.std.proofs.lemmas.Cmp.{tied_itself}
use Rattle.std.proofs.lemmas.Option.{slice_get_within}
use Rattle.nest_base.specs.Plane.{HalfEdge, direction, twin}
use Rattle.nest_base.specs.Angles.{angle_cmp}
use Rattle.nest_base.proofs.Angles.{angle_cmp-total}
use Rattle.nest_base.proofs.ListReads.{one_read}
use Rattle.plate_sides.proofs.HalfEdges.{twin_is_half_edge}
use Rattle.half_edges.specs.Numbers.{IsSide}
use Rattle.half_edges.proofs.PlaceNumbers.{same_by_test, apart_by_test}
use Rattle.half_edges.proofs.AngleSearch.{one_leads}
use Rattle.half_edges.proofs.graph.PlaneGraph.find_side.Goals as goal

-- where no vertex is at the end, the twin would leave one
pub returns-in_err-w-clause-none : goal.returns-in_err-w-clause-none
returns-in_err-w-clause-none c = rw c.from_residual-in_err-w.ensures
    (λ is. c.in_err-w.ensures.none (twin (record { from = c.args.a; to = c.args.b }), (twin_is_half_edge c.args.self.now.edges (record { from = c.args.a; to = c.args.b }) is, refl)))

pub way_between-requires-clause-from : goal.way_between-requires-clause-from
way_between-requires-clause-from c = slice_get_within c.args.self.now.vertices c.in_ok-v.v.0 c.args.a c.in_ok-v.ensures.found

pub way_between-requires-clause-to : goal.way_between-requires-clause-to
way_between-requires-clause-to c = slice_get_within c.args.self.now.vertices c.in_ok-w.w.0 c.args.b c.in_ok-w.ensures.found

pub find_toward-requires : goal.find_toward-requires
find_toward-requires c = slice_get_within c.args.self.now.vertices c.in_ok-v.v.0 c.args.a c.in_ok-v.ensures.found

pub returns-in_err-s-clause-none : goal.returns-in_err-s-clause-none
returns-in_err-s-clause-none c =
    let way = c.way_between.ensures.way c.args.a c.args.b c.in_ok-v.ensures.found c.in_ok-w.ensures.found in
    let equal = ap (angle_cmp (direction c.args.a c.args.b)) way ∙ tied_itself angle_cmp-total (direction c.args.a c.args.b) in
    rw c.from_residual-in_err-s.ensures (λ is. c.in_err-s.ensures.none (record { from = c.args.a; to = c.args.b }) is c.in_ok-v.ensures.found equal)

pub returns-then-eq-clause-found : goal.returns-then-eq-clause-found
returns-then-eq-clause-found c =
    let side = c.in_ok-s.ensures.found c.args.a c.in_ok-v.ensures.found in
    let to : side.0.to ≡ c.args.b =
    one_read c.args.self.now.vertices c.to.result.0 side.0.to c.place.result (c.to.ensures.vertex side.0 side.1) c.place.ensures
    ∙ same_by_test c.place.result c.args.b (sym c.if-eq.ensures) in
    let same : side.0 ≡ record { from = c.args.a; to = c.args.b } = λ i. record { from = side.2 i; to = to i } in
    subst (IsSide c.args.self.now.edges c.in_ok-s.s.0) same side.1

-- no other half-edge leads there by this angle
pub returns-else-eq-clause-none : goal.returns-else-eq-clause-none
returns-else-eq-clause-none c is =
    let h : HalfEdge = record { from = c.args.a; to = c.args.b } in
    let side = c.in_ok-s.ensures.found c.args.a c.in_ok-v.ensures.found in
    let way = c.way_between.ensures.way c.args.a c.args.b c.in_ok-v.ensures.found c.in_ok-w.ensures.found in
    let same = one_leads c.args.self.now.edges c.in_ok-s.s.0 side.0 h c.way_between.result.0 c.way_between.ensures.ends_in_order c.way_between.ensures.apart side.1 is side.2 way side.3 in
    let place = one_read c.args.self.now.vertices c.to.result.0 side.0.to c.place.result (c.to.ensures.vertex side.0 side.1) c.place.ensures in
    apart_by_test c.place.result c.args.b (sym c.if-eq.ensures) (sym place ∙ ap (λ (g : HalfEdge). g.to) same)
