use Rattle.std.proofs.Common.{◌≢◌, ◌∙◌, sym}
use Rattle.std.proofs.lemmas.Bool.Decides.{not_from_Decides}
use Rattle.std.proofs.lemmas.Bool.{both_ways, iff_false}
use Rattle.nest_base.specs.Order.{is_place}
use Rattle.nest_base.proofs.Points.{Decides-is_place}
use Rattle.replay_check.proofs.OffEdges.{off_edges_not_along}
use Rattle.replay_check.proofs.kinds.kind_off_edges.Goals as goal
use Rattle.replay_check.proofs.kinds.kind_off_edges.Goals.{else-comes_to_vertex-via-then-comes_to_vertex+else-is_off_edges, else-comes_to_vertex-via-else-comes_to_vertex}

pub returns-then-is_off_edges : goal.returns-then-is_off_edges
returns-then-is_off_edges c =
    let m = c.args.step.now in
    let apart : m.from ≢ m.to = not_from_Decides (is_place m.from m.to) (Decides-is_place m.from m.to) (sym c.eq.ensures ∙ c.if-eq.false) in
    let begins = c.begins_to_vertex-comes_to_vertex.ensures.0 c.if-comes_to_vertex.true in
    let off = c.is_off_edges.ensures.0 c.if-is_off_edges.true in (
      record {
        off_edges = c.requires.off_edges;
        not_along = off_edges_not_along c.args.graph.now.edges m off;
        fresh = begins.0;
        leads_on = apart;
        to_vertex = begins.1;
      },
      off,
    )

pub returns-then-is_along : goal.returns-then-is_along
returns-then-is_along c =
    let m = c.args.step.now in
    let apart : m.from ≢ m.to = not_from_Decides (is_place m.from m.to) (Decides-is_place m.from m.to) (sym c.eq.ensures ∙ c.if-eq.false) in
    let found = c.is_along.ensures.along c.if-is_along.true in
    record { off_edges = c.requires.off_edges; leads_on = apart; edge = found.0; among = found.1; shares = found.2 }

pub returns-then-comes_to_vertex-2 : goal.returns-then-comes_to_vertex-2
returns-then-comes_to_vertex-2 c =
    let m = c.args.step.now in
    let apart : m.from ≢ m.to = not_from_Decides (is_place m.from m.to) (Decides-is_place m.from m.to) (sym c.eq.ensures ∙ c.if-eq.false) in
    let begins = c.begins_to_vertex-comes_to_vertex.ensures.0 c.if-comes_to_vertex-2.true in (
      record {
        off_edges = c.requires.off_edges;
        not_along = λ along. both_ways c.is_along.result c.if-is_along.false (c.is_along.ensures.not_along along.edge along.among along.shares);
        fresh = begins.0;
        leads_on = apart;
        to_vertex = begins.1;
      },
      λ off. elim c.else-comes_to_vertex.branch [
        | else-comes_to_vertex-via-then-comes_to_vertex+else-is_off_edges w ↦ iff_false w.is_off_edges.ensures w.if-is_off_edges.false off
        | else-comes_to_vertex-via-else-comes_to_vertex w ↦ both_ways c.begins_to_vertex-comes_to_vertex.result w.if-comes_to_vertex.false c.if-comes_to_vertex-2.true
      ],
    )

pub returns : goal.returns
returns c = record {
  off_edges = c.requires.off_edges;
  not_along = λ along. both_ways c.is_along.result c.if-is_along.false (c.is_along.ensures.not_along along.edge along.among along.shares);
  no_lead_in = λ lead. iff_false c.begins_to_vertex-comes_to_vertex.ensures c.if-comes_to_vertex-2.false (lead.fresh, lead.to_vertex);
}
