use Rattle.std.proofs.Common.{◌+◌, [], sym, ap}
use Rattle.std.proofs.lemmas.Option.{slice_get-get_or, get_or_from_slice_get}
use Rattle.code_moves.specs.declared.moves.Move.{Move}
use Rattle.ngc_meaning.specs.CodeMoves.{before_the_code}
use Rattle.replay_check.proofs.FreeLeads.{leads_within, side_below, goes_on, off_before_next, told_by_freedom}
use Rattle.replay_check.proofs.leads.leads_in.Goals as goal

pub is_free_off_edges-requires-clause-within : goal.is_free_off_edges-requires-clause-within
is_free_off_edges-requires-clause-within c =
    side_below c.args.graph.now c.args.moves.now c.args.kinds.now c.requires.kinds (c.args.i + 1) c.in-Some.side c.in-Some.ensures.found

pub is_free_off_edges-requires-clause-earlier_within : goal.is_free_off_edges-requires-clause-earlier_within
is_free_off_edges-requires-clause-earlier_within c =
    leads_within c.args.graph.now.edges c.args.moves.now c.args.i c.args.earlier.now c.requires.moves.each c.requires.earlier

pub is_free_off_edges-requires-clause-off_edges : goal.is_free_off_edges-requires-clause-off_edges
is_free_off_edges-requires-clause-off_edges c =
    off_before_next c.args.graph.now c.args.moves.now c.args.kinds.now c.requires.kinds [] c.args.i _
    (slice_get-get_or c.args.moves.now c.args.i before_the_code c.requires.within) c.args.earlier.now c.requires.earlier
    c.in-Some.side c.in-Some.ensures.found c.requires.moves.in_order c.requires.lead

pub returns-in-Some : goal.returns-in-Some
returns-in-Some c = λ places told m at.
    told_by_freedom c.args.graph.now c.args.moves.now c.args.kinds.now c.requires.kinds places c.args.i m at c.args.earlier.now c.requires.earlier
    c.in-Some.side c.in-Some.ensures.found c.is_free_off_edges.result _
    (sym (ap (λ (n : Move). n.from) (get_or_from_slice_get c.args.moves.now c.args.i m before_the_code at)))
    c.requires.lead (c.is_free_off_edges.ensures places told)

pub returns-in-None : goal.returns-in-None
returns-in-None c = λ places told m at. (
  λ impossible. cc,
  λ is.
      let on = goes_on c.args.graph.now c.args.moves.now c.args.kinds.now c.requires.kinds places c.args.i m at is in
      absurd (c.in-None.ensures.none on.0 on.1),
)
