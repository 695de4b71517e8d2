use Rattle.std.proofs.Common.{◌++◌, map, codes}
use Rattle.std.proofs.lemmas.Result.{IfOk-equal}
use Rattle.plate_sides.specs.Paths.{path_from}
use Rattle.nest_base.specs.NumberLists.{side_numbers}
use Rattle.cover_plan.specs.Trails.{half_edge_of}
use Rattle.code_moves.specs.CodeText.{chain_text}
use Rattle.ngc_writer.proofs.ChainLines.{chain_written}
use Rattle.ngc_writer.proofs.code.write_chain.Goals as goal

pub returns : goal.returns
returns c =
    let half = half_edge_of c.args.graph.now in
    IfOk-equal c.append.result c.append.new.self (c.write_burns.new.out ++ codes "M5\n")
    (c.args.out.now ++ chain_text (path_from c.args.lead (map half (side_numbers c.args.chain.now)))) c.append.ensures.ok
    (chain_written half c.args.lead c.args.chain.now _ c.beginning_of.result c.args.out.now c.write_lighting.new.out c.write_burns.new.out
    c.requires.some c.beginning_of.ensures c.in_ok-write_lighting.ensures c.in_ok-write_burns.ensures)
