use Rattle.std.proofs.Common.{arith, length, inl, inr}
use Rattle.half_edges.proofs.NextRound.{IsNextPlace, next_in_rotation}
use Rattle.half_edges.proofs.Placed.{vertex_within, placed, place_below}
use Rattle.half_edges.proofs.graph.PlaneGraph.cw.Goals as goal
use Rattle.half_edges.proofs.graph.PlaneGraph.cw.Goals.{then-place-eq0, else-place-eq0}

pub degree-degree-requires : goal.degree-degree-requires
degree-degree-requires c = vertex_within c.args.self.now.edges c.args.self.now.vertices c.from-v.result.0 c.args.s.0 c.from-v.ensures.vertex c.requires

pub overflow_sub-turned : goal.overflow_sub-turned
overflow_sub-turned c =
    let below = place_below c.args.self.now.edges c.args.self.now.vertices c.from-v.result.0 c.degree-degree.result c.position-place.result c.args.s.0
    c.from-v.ensures.vertex c.degree-degree.ensures.count c.degree-degree.ensures.rotation c.position-place.ensures.place c.requires in
    omega (arith, below)

pub side_at-requires-clause-vertex : goal.side_at-requires-clause-vertex
side_at-requires-clause-vertex c = vertex_within c.args.self.now.edges c.args.self.now.vertices c.from-v.result.0 c.args.s.0 c.from-v.ensures.vertex c.requires

pub side_at-requires-clause-in_rotation : goal.side_at-requires-clause-in_rotation
side_at-requires-clause-in_rotation c p at rotation is_rotation =
    let below = place_below c.args.self.now.edges c.args.self.now.vertices c.from-v.result.0 c.degree-degree.result c.position-place.result c.args.s.0
    c.from-v.ensures.vertex c.degree-degree.ensures.count c.degree-degree.ensures.rotation c.position-place.ensures.place c.requires in
    let long = c.degree-degree.ensures.count p at rotation is_rotation in
    elim c.if-place-eq0.branch [ then-place-eq0 w ↦ omega (arith, below, long) | else-place-eq0 w ↦ omega (arith, below, long) ]

pub returns-clause-next : goal.returns-clause-next
returns-clause-next c h is =
    let at = placed c.args.self.now.edges c.args.self.now.vertices c.from-v.result.0 c.degree-degree.result c.position-place.result c.args.s.0
    c.from-v.ensures.vertex c.degree-degree.ensures.count c.degree-degree.ensures.rotation c.position-place.ensures.place h is in
    let below = place_below c.args.self.now.edges c.args.self.now.vertices c.from-v.result.0 c.degree-degree.result c.position-place.result c.args.s.0
    c.from-v.ensures.vertex c.degree-degree.ensures.count c.degree-degree.ensures.rotation c.position-place.ensures.place c.requires in
    let t = c.side_at.ensures.side h.from at.at at.rotation at.is_rotation in
    let next : IsNextPlace (length at.rotation) c.if-place-eq0.turned c.position-place.result = elim c.if-place-eq0.branch [
      | then-place-eq0 w ↦ inr (omega (arith, at.long, w.turned-is, below), w.if-place-eq0.true)
      | else-place-eq0 w ↦ inl (omega (arith, w.turned-is, w.if-place-eq0.false))
    ] in
    (t.0, t.2, next_in_rotation c.args.self.now.edges c.side_at.ensures.ends_in_order h.from at.rotation at.is_rotation c.if-place-eq0.turned c.position-place.result t.0 h t.1 at.stands next)
