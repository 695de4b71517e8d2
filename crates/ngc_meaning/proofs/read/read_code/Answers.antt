use Rattle.std.proofs.Common.{◌≡◌, None, sym, ◌∙◌, subst}
use Rattle.code_moves.specs.Meaning.{code_refusal_of, moves_of}
use Rattle.ngc_meaning.specs.CodeMoves.{AreCodeMoves}
use Rattle.ngc_meaning.proofs.MovesOfCode.{code_moves}
use Rattle.ngc_meaning.proofs.Reading.{at_start, line_ends, none_by, after_ok}
use Rattle.ngc_meaning.proofs.read.read_code.Goals as goal

pub lines-init : goal.lines-init
lines-init c = at_start c.args.bytes.now c.new-machine.result c.new-moves.result c.new-machine.ensures c.new-moves.ensures

-- the program has ended: what was made is what the code means
ended : (c : goal.Then-stepped) → (code_refusal_of c.args.bytes.now ≡ None) × (c.append.new.self ≡ moves_of c.args.bytes.now)
ended c =
    let so_far = c.lines.invariant in
    let fine = none_by c.step-stepped.result.fault c.in_default-fault.not-Some in
    let at_end = line_ends c.args.bytes.now c.lines.machine c.lines.moves c.lines.rest.now c.in-Some.line.now c.in-Some.next.now c.step-stepped.result so_far c.in-Some.ensures.line
    (sym (c.step-stepped.ensures.fault so_far.earlier so_far.at) ∙ fine) (c.step-stepped.ensures.taken so_far.earlier so_far.at fine) c.if-stepped.true in
    (at_end.0, after_ok c.append.result _ c.append.ensures (sym c.if-is_err.ensures.value) ∙ at_end.1)

pub returns-then-stepped-clause-moves : goal.returns-then-stepped-clause-moves
returns-then-stepped-clause-moves c = (ended c).1

pub returns-then-stepped-clause-are_moves : goal.returns-then-stepped-clause-are_moves
returns-then-stepped-clause-are_moves c = subst AreCodeMoves (sym (ended c).1) (code_moves c.args.bytes.now c.requires (ended c).0)
