use Rattle.std.proofs.Common.{arith, length}
use Rattle.std.proofs.lemmas.Option.{slice_get-get_or}
use Rattle.half_edges.specs.Numbers.{half_edges_of}
use Rattle.nest_base.specs.NumberLists.{side_numbers}
use Rattle.cover_plan.specs.Trails.{half_edge_of}
use Rattle.code_moves.specs.CodeText.{head_text}
use Rattle.ngc_writer.proofs.Routes.{next_chain, chain_within}
use Rattle.ngc_writer.proofs.code.write_code.Goals as goal

pub write_chain-requires-clause-within : goal.write_chain-requires-clause-within
write_chain-requires-clause-within c =
    chain_within (length (half_edges_of c.args.graph.now.edges)) c.args.plan.now c.loop-i.i c.chain.result.now c.requires.within c.chain.ensures.chain

pub loop-i-preserved : goal.loop-i-preserved
loop-i-preserved c =
    next_chain (half_edge_of c.args.graph.now) c.args.leads.now c.args.plan.now c.loop-i.i _ (side_numbers c.chain.result.now) head_text c.loop-i.code c.write_chain.new.out
    (slice_get-get_or c.args.leads.now c.loop-i.i _ (omega (arith, c.loop-i-test.true))) c.chain.ensures.chain c.loop-i.invariant c.in_ok-write_chain.ensures
