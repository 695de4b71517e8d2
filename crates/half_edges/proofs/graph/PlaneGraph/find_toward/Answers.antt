use Rattle.std.proofs.Common.{arith, refl, sym, ap, ◌∙◌}
use Rattle.nest_base.specs.Angles.{angle_cmp}
use Rattle.half_edges.proofs.AngleSearch.{met, go_behind, go_before, none_toward}
use Rattle.half_edges.proofs.graph.PlaneGraph.find_toward.Goals as goal

pub loop-low-preserved-in-Less : goal.loop-low-preserved-in-Less
loop-low-preserved-in-Less c p at rotation is_rotation =
    let graph = c.args.self.now in
    let meets = met graph.edges graph.vertices p rotation c.args.v.0 _ c.side_at-s.result.0 c.to.result.0 c.way_between.result.0 is_rotation (c.side_at-s.ensures.side p at rotation is_rotation) at c.to.ensures.vertex
    c.way_between.ensures.way in
    go_behind graph.edges c.side_at-s.ensures.ends_in_order p rotation is_rotation c.args.toward.0 c.loop-low.low c.loop-low.high _ c.side_at-s.result.0 c.way_between.result.0
    (c.loop-low.invariant p at rotation is_rotation) meets c.in-Less.ensures

pub loop-low-preserved : goal.loop-low-preserved
loop-low-preserved c p at rotation is_rotation =
    let graph = c.args.self.now in
    let meets = met graph.edges graph.vertices p rotation c.args.v.0 _ c.side_at-s.result.0 c.to.result.0 c.way_between.result.0 is_rotation (c.side_at-s.ensures.side p at rotation is_rotation) at c.to.ensures.vertex
    c.way_between.ensures.way in
    go_before graph.edges c.side_at-s.ensures.ends_in_order p rotation is_rotation c.args.toward.0 c.loop-low.low c.loop-low.high _ c.side_at-s.result.0 c.way_between.result.0
    (c.loop-low.invariant p at rotation is_rotation) (omega (arith, c.loop-low-test.true)) meets c.in-Greater.ensures

pub returns-in-Equal-clause-found : goal.returns-in-Equal-clause-found
returns-in-Equal-clause-found c p at =
    let graph = c.args.self.now in
    let rotation = c.degree-high.ensures.rotation p at in
    let meets = met graph.edges graph.vertices p rotation.0 c.args.v.0 _ c.side_at-s.result.0 c.to.result.0 c.way_between.result.0 rotation.1 (c.side_at-s.ensures.side p at rotation.0 rotation.1) at c.to.ensures.vertex
    c.way_between.ensures.way in
    (meets.half, meets.is_side, meets.leaves, ap (λ d. angle_cmp d c.args.toward.0) meets.leads ∙ sym c.in-Equal.ensures)

pub returns-clause-none : goal.returns-clause-none
returns-clause-none c h is at =
    let rotation = c.degree-high.ensures.rotation h.from at in
    none_toward c.args.self.now.edges rotation.0 c.args.toward.0 c.loop-low.low c.loop-low.high h rotation.1 (c.loop-low.invariant h.from at rotation.0 rotation.1) (omega (arith, c.loop-low-test.false)) (is, refl)
