use Rattle.std.proofs.Common.{arith, length, inl, inr}
use Rattle.half_edges.proofs.NextRound.{IsNextPlace, next_in_rotation}
use Rattle.half_edges.proofs.Placed.{vertex_within, placed, place_below}
use Rattle.half_edges.proofs.graph.PlaneGraph.ccw.Goals as goal
use Rattle.half_edges.proofs.graph.PlaneGraph.ccw.Goals.{then-next-degree, else-next-degree}

pub degree-degree-requires : goal.degree-degree-requires
degree-degree-requires c = vertex_within c.args.self.now.edges c.args.self.now.vertices c.from-v.result.0 c.args.s.0 c.from-v.ensures.vertex c.requires

pub overflow_add-next : goal.overflow_add-next
overflow_add-next c =
    let below = place_below c.args.self.now.edges c.args.self.now.vertices c.from-v.result.0 c.degree-degree.result c.position-next.result c.args.s.0
    c.from-v.ensures.vertex c.degree-degree.ensures.count c.degree-degree.ensures.rotation c.position-next.ensures.place c.requires in
    omega (arith, below, c.degree-degree.type_inv)

pub side_at-requires-clause-vertex : goal.side_at-requires-clause-vertex
side_at-requires-clause-vertex c = vertex_within c.args.self.now.edges c.args.self.now.vertices c.from-v.result.0 c.args.s.0 c.from-v.ensures.vertex c.requires

pub side_at-requires-clause-in_rotation : goal.side_at-requires-clause-in_rotation
side_at-requires-clause-in_rotation c p at rotation is_rotation =
    let below = place_below c.args.self.now.edges c.args.self.now.vertices c.from-v.result.0 c.degree-degree.result c.position-next.result c.args.s.0
    c.from-v.ensures.vertex c.degree-degree.ensures.count c.degree-degree.ensures.rotation c.position-next.ensures.place c.requires in
    let long = c.degree-degree.ensures.count p at rotation is_rotation in
    elim c.if-next-degree.branch [ then-next-degree w ↦ omega (arith, below, long) | else-next-degree w ↦ omega (arith, below, long) ]

pub returns-clause-next : goal.returns-clause-next
returns-clause-next c h is =
    let at = placed c.args.self.now.edges c.args.self.now.vertices c.from-v.result.0 c.degree-degree.result c.position-next.result c.args.s.0
    c.from-v.ensures.vertex c.degree-degree.ensures.count c.degree-degree.ensures.rotation c.position-next.ensures.place h is in
    let below = place_below c.args.self.now.edges c.args.self.now.vertices c.from-v.result.0 c.degree-degree.result c.position-next.result c.args.s.0
    c.from-v.ensures.vertex c.degree-degree.ensures.count c.degree-degree.ensures.rotation c.position-next.ensures.place c.requires in
    let t = c.side_at.ensures.side h.from at.at at.rotation at.is_rotation in
    let next : IsNextPlace (length at.rotation) c.position-next.result c.if-next-degree.turned = elim c.if-next-degree.branch [
      | then-next-degree w ↦ inr (omega (arith, at.long, w.if-next-degree.true), w.turned-is)
      | else-next-degree w ↦ inl w.turned-is
    ] in
    (t.0, t.2, next_in_rotation c.args.self.now.edges c.side_at.ensures.ends_in_order h.from at.rotation at.is_rotation c.position-next.result c.if-next-degree.turned h t.0 at.stands t.1 next)
