-- The chain goes on with the next half-edge of the order, or ends here.
use Rattle.std.proofs.Common.{arith, ◌≡◌, true, false, sym, ◌∙◌}
use Rattle.std.proofs.lemmas.List.{length-map}
use Rattle.half_edges.specs.Graph.{rotations_of}
use Rattle.nest_base.specs.NumberLists.{side_numbers}
use Rattle.face_nesting.proofs.NumbersOf.{side_number}
use Rattle.oe_cover.proofs.Cuts.{said_at, chain_follows, chain_breaks, chain_ends}
use Rattle.oe_cover.proofs.SideOrders.{AreMet, said_there}
use Rattle.oe_cover.proofs.draft.chain_end.Goals as goal
use Rattle.oe_cover.proofs.draft.chain_end.Goals.{then-loop-last-test+else-goes_on, else-loop-last-test}

pub loop-last-preserved : goal.loop-last-preserved
loop-last-preserved g c =
    let graph = c.args.graph.now in
    let order = c.args.order.now in
    let numbers = side_numbers order in
    let met : AreMet graph order (record { 0 = 0 }) c.loop-last.last c.to.result.0 c.from.result.0 = record { within = c.loop-last-test.true; leads = c.to.ensures.number; leaves = c.from.ensures.number } in (
      omega (arith, c.loop-last.invariant.0),
      c.loop-last-test.true,
      λ rule is.
          let says : said_at rule (rotations_of graph) numbers c.loop-last.last ≡ true = said_there rule met ∙ sym (is c.to.result c.from.result c.goes_on.result c.goes_on.ensures) ∙ c.if-goes_on.true in
          omega (arith, c.loop-last.invariant.2 rule is, chain_follows rule (rotations_of graph) numbers c.loop-last.last (omega (arith, c.loop-last-test.true, length-map order side_number)) says),
    )

pub returns-clause-long : goal.returns-clause-long
returns-clause-long g c rule is =
    let graph = c.args.graph.now in
    let order = c.args.order.now in
    let numbers = side_numbers order in
    let long = length-map order side_number in
    elim c.loop-last-test.branch [
      | then-loop-last-test+else-goes_on w ↦
          let met : AreMet graph order (record { 0 = 0 }) c.loop-last.last w.to.result.0 w.from.result.0 = record { within = w.loop-last-test.true; leads = w.to.ensures.number; leaves = w.from.ensures.number } in
          let denies : said_at rule (rotations_of graph) numbers c.loop-last.last ≡ false = said_there rule met ∙ sym (is w.to.result w.from.result w.goes_on.result w.goes_on.ensures) ∙ w.if-goes_on.false in
          omega (arith, c.loop-last.invariant.2 rule is, chain_breaks rule (rotations_of graph) numbers c.loop-last.last (omega (arith, w.loop-last-test.true, long)) denies)
      | else-loop-last-test w ↦
          omega (arith, c.loop-last.invariant.2 rule is, chain_ends rule (rotations_of graph) numbers c.loop-last.last (omega (arith, w.loop-last-test.false, c.loop-last.invariant.1, long)))
    ]
