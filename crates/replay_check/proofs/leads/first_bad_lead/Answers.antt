use Rattle.std.proofs.Common.{arith, ◌≡◌, List, get_or, Vec, Global, ap, subst, ◌∙◌}
use Rattle.std.specs.Prelude.{Some, slice_get}
use Rattle.std.proofs.lemmas.Bool.{iff_false}
use Rattle.std.proofs.lemmas.Option.{slice_get-get_or}
use Rattle.plate_parts.specs.declared.leads.Lead.{Lead}
use Rattle.code_moves.specs.declared.moves.Move.{Move}
use Rattle.ngc_meaning.specs.CodeMoves.{before_the_code}
use Rattle.replay_check.specs.declared.kinds.Kind.{Kind}
use Rattle.replay_check.specs.declared.kinds.Kind.TheVariants.{Unlit, Blocked}
use Rattle.replay_check.specs.Kinds.{IsKind, MayLeadIn}
use Rattle.replay_check.proofs.MoveKinds.{kind_below, kind_here, not_off_edges, off_edges_alone}
use Rattle.replay_check.proofs.OffEdges.{lead_in_is_off}
use Rattle.replay_check.proofs.LeadsSoFar.{none_yet, lead_passed, lead_added, holds_of_next, first_bad, all_hold}
use Rattle.replay_check.proofs.leads.first_bad_lead.Goals.{in-Unlit, in-Along+in_ok-push-in-Along, in-LeadIn+else-not-leads_in+in_ok-push-in-LeadIn}
use Rattle.replay_check.proofs.leads.first_bad_lead.Goals as goal

pub loop-i-init : goal.loop-i-init
loop-i-init c = record {
  leads = none_yet c.args.graph.now.edges c.args.moves.now c.new-leads.result.items c.new-leads.ensures.items;
  hold = λ places told k m below at may. absurd (omega (arith, below));
}

pub bounds : goal.bounds
bounds c = kind_below c.args.graph.now.edges c.args.moves.now c.args.kinds.now c.requires.kinds c.loop-i.i c.loop-i-test.true

pub leads_in-requires-clause-lead : goal.leads_in-requires-clause-lead
leads_in-requires-clause-lead c =
    slice_get-get_or c.args.kinds.now c.loop-i.i Unlit
    (kind_below c.args.graph.now.edges c.args.moves.now c.args.kinds.now c.requires.kinds c.loop-i.i c.loop-i-test.true) ∙ ap Some c.in-LeadIn.is

pub returns-then-not-leads_in-clause-bad : goal.returns-then-not-leads_in-clause-bad
returns-then-not-leads_in-clause-bad c = λ places told.
    let edges = c.args.graph.now.edges in
    let moves = c.args.moves.now in
    let i = c.loop-i.i in
    let m : Move = get_or moves i before_the_code in
    let at : slice_get moves i ≡ Some m = slice_get-get_or moves i before_the_code c.loop-i-test.true in
    let may : MayLeadIn edges m =
    (subst (IsKind edges m) c.in-LeadIn.is (kind_here edges moves c.args.kinds.now c.requires.kinds i before_the_code Unlit c.loop-i-test.true)).0 in
    first_bad edges moves i m at places (c.loop-i.invariant.hold places told) may (iff_false (c.leads_in.ensures places told m at) c.if-not-leads_in.true)

pub returns-in-Blocked-clause-bad : goal.returns-in-Blocked-clause-bad
returns-in-Blocked-clause-bad c = λ places told.
    let edges = c.args.graph.now.edges in
    let moves = c.args.moves.now in
    let i = c.loop-i.i in
    let m : Move = get_or moves i before_the_code in
    let at : slice_get moves i ≡ Some m = slice_get-get_or moves i before_the_code c.loop-i-test.true in
    let blocked : IsKind edges m Blocked =
    subst (IsKind edges m) c.in-Blocked.is (kind_here edges moves c.args.kinds.now c.requires.kinds i before_the_code Unlit c.loop-i-test.true) in
    first_bad edges moves i m at places (c.loop-i.invariant.hold places told) blocked.0
    (λ is. blocked.1 (lead_in_is_off moves c.requires.moves.in_order i m at edges places is))

pub loop-i-preserved : goal.loop-i-preserved
loop-i-preserved c =
    let edges = c.args.graph.now.edges in
    let moves = c.args.moves.now in
    let i = c.loop-i.i in
    let m : Move = get_or moves i before_the_code in
    let kind : Kind = get_or c.args.kinds.now i Unlit in
    let at : slice_get moves i ≡ Some m = slice_get-get_or moves i before_the_code c.loop-i-test.true in
    let is : IsKind edges m kind = kind_here edges moves c.args.kinds.now c.requires.kinds i before_the_code Unlit c.loop-i-test.true in
    let before = c.loop-i.invariant in
    let items_of : Vec Lead Global → List Lead = λ v. v.items in
    elim c.match-kinds-i.branch [
      | in-Unlit w ↦
          let not_off = not_off_edges edges m kind w.in-Unlit.is is in
          record {
            leads = lead_passed edges moves i m at c.loop-i.leads.items c.match-kinds-i.leads.items before.leads not_off (ap items_of w.leads-is);
            hold = λ places told. holds_of_next edges moves i m at places (before.hold places told) (λ may. absurd (not_off may.off_edges));
          }
      | in-Along+in_ok-push-in-Along w ↦
          let off = off_edges_alone edges m kind w.in-Along.is is in
          record {
            leads = lead_added edges moves i m at c.loop-i.leads.items c.match-kinds-i.leads.items w.lead_of.result before.leads off.0
                (ap items_of w.leads-is ∙ w.in_ok-push-in-Along.ensures.items) w.lead_of.ensures;
            hold = λ places told. holds_of_next edges moves i m at places (before.hold places told) (λ may. absurd (off.1 may));
          }
      | in-LeadIn+else-not-leads_in+in_ok-push-in-LeadIn w ↦
          let may : MayLeadIn edges m = (subst (IsKind edges m) w.in-LeadIn.is is).0 in
          record {
            leads = lead_added edges moves i m at c.loop-i.leads.items c.match-kinds-i.leads.items w.lead_of-in-LeadIn.result before.leads may.off_edges
                (ap items_of w.leads-is ∙ w.in_ok-push-in-LeadIn.ensures.items) w.lead_of-in-LeadIn.ensures;
            hold = λ places told. holds_of_next edges moves i m at places (before.hold places told)
                (λ again. (w.leads_in.ensures places told m at).0 w.if-not-leads_in.false);
          }
    ]

pub returns-clause-none : goal.returns-clause-none
returns-clause-none c = λ places told. all_hold c.args.graph.now.edges places c.args.moves.now c.loop-i.i c.loop-i-test.false (c.loop-i.invariant.hold places told)
