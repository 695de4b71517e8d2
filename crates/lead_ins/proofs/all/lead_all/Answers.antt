use Rattle.std.proofs.Common.{◌≡◌, ◌+◌, ◌++◌, [], ◌∷◌, length, get_or, sym, ap, subst, refl, ◌∙◌}
use Rattle.std.specs.Prelude.{All, IfSome}
use Rattle.std.proofs.lemmas.List.{length_push}
use Rattle.std.proofs.lemmas.List.Elements.{All-nil, All-push}
use Rattle.std.proofs.lemmas.Option.{slice_get-get_or}
use Rattle.nest_base.specs.declared.numbers.Side.{Side}
use Rattle.nest_base.specs.Range.{IsWithin, range, widest}
use Rattle.plate_parts.specs.LeadIns.{AreFirstLeadIns, IsFirstLeadIn, none, with_lead}
use Rattle.half_edges.specs.Numbers.{half_edges_of}
use Rattle.cover_plan.specs.Trails.{half_edge_of}
use Rattle.lead_ins.specs.Corners.{IsLeadWithin}
use Rattle.lead_ins.specs.Tries.{lead_range, lead_reach}
use Rattle.lead_ins.proofs.GivenLeads.{given, given_more, first_leads_more, firsts_so_far, next_first, kept_within, chain_begins_within, within_code}
use Rattle.lead_ins.proofs.all.lead_all.Goals as goal

pub lead-place-requires-clause-within : goal.lead-place-requires-clause-within
lead-place-requires-clause-within c =
    chain_begins_within (length (half_edges_of c.args.graph.now.edges)) c.args.plan.now c.loop-i.i c.chain.result.now _ c.requires.within c.chain.ensures.chain
    (slice_get-get_or c.chain.result.now 0 _ c.chain.ensures.some)

pub lead-place-requires-clause-earlier_within : goal.lead-place-requires-clause-earlier_within
lead-place-requires-clause-earlier_within c = subst (All (IsLeadWithin widest)) (sym c.deref.ensures.value) c.loop-i.invariant.within

pub loop-i-init : goal.loop-i-init
loop-i-init c = record {
  first = λ places told. subst (AreFirstLeadIns c.args.graph.now.edges places [] []) (sym c.new-leads.ensures.items) none;
  kept = c.new-earlier.ensures.items;
  within = subst (All (IsLeadWithin widest)) (sym c.new-earlier.ensures.items) (All-nil (IsLeadWithin widest));
  as_many = ap length c.new-leads.ensures.items;
  as_many_firsts = refl;
  near = λ n near. subst (All (λ lead. IfSome lead (IsWithin (n + lead_reach)))) (sym c.new-leads.ensures.items) (All-nil (λ lead. IfSome lead (IsWithin (n + lead_reach))));
}

pub loop-i-preserved : goal.loop-i-preserved
loop-i-preserved c =
    let graph = c.args.graph.now in
    let before = c.loop-i.invariant in
    let firsts = firsts_so_far graph c.args.plan.now c.loop-i.i in
    let begins = slice_get-get_or c.chain.result.now 0 (record { 0 = 0 }) c.chain.ensures.some in
    let first : Side = get_or c.chain.result.now 0 (record { 0 = 0 }) in
    let more = next_first graph c.args.plan.now c.loop-i.i c.chain.result.now first c.chain.ensures.chain begins in
    let below = chain_begins_within (length (half_edges_of graph.edges)) c.args.plan.now c.loop-i.i c.chain.result.now first c.requires.within c.chain.ensures.chain begins in
    let place = c.lead-place.result in
    let pushed : c.push.new.self.items ≡ c.loop-i.leads.items ++ place ∷ [] = c.in_ok-push.ensures.items in
    let long : length c.loop-i.leads.items ≡ length firsts = before.as_many ∙ sym before.as_many_firsts in
    let kept : c.keep_lead.new.earlier.items ≡ with_lead (half_edge_of graph first.0) place c.loop-i.earlier.items = c.in_ok-keep_lead.ensures in
    record {
      first = λ places told.
          let is : IsFirstLeadIn graph.edges places (given [] firsts c.loop-i.leads.items) (half_edge_of graph first.0) place =
          subst (λ l. IsFirstLeadIn graph.edges places l (half_edge_of graph first.0) place) (c.deref.ensures.value ∙ before.kept) (c.lead-place.ensures.first places told) in
          subst (λ fs. AreFirstLeadIns graph.edges places [] fs c.push.new.self.items) (sym more)
          (subst (AreFirstLeadIns graph.edges places [] (firsts ++ half_edge_of graph first.0 ∷ [])) (sym pushed)
          (first_leads_more graph.edges places [] firsts c.loop-i.leads.items (half_edge_of graph first.0) place (before.first places told) is));
      kept = kept ∙ ap (with_lead (half_edge_of graph first.0) place) before.kept ∙ sym (given_more [] firsts c.loop-i.leads.items (half_edge_of graph first.0) place long)
          ∙ sym (ap (λ fs. given [] fs (c.loop-i.leads.items ++ place ∷ [])) more) ∙ sym (ap (given [] (firsts_so_far graph c.args.plan.now (c.loop-i.i + 1))) pushed);
      within = subst (All (IsLeadWithin widest)) (sym kept)
          (kept_within graph first.0 place c.loop-i.earlier.items c.requires.near below (c.lead-place.ensures.near lead_range c.requires.near) before.within);
      as_many = ap length pushed ∙ length_push c.loop-i.leads.items place ∙ ap (λ n. n + 1) before.as_many;
      as_many_firsts = ap length more ∙ length_push firsts (half_edge_of graph first.0) ∙ ap (λ n. n + 1) before.as_many_firsts;
      near = λ n near.
          subst (All (λ lead. IfSome lead (IsWithin (n + lead_reach)))) (sym pushed)
          (All-push (λ lead. IfSome lead (IsWithin (n + lead_reach))) c.loop-i.leads.items place (before.near n near) (c.lead-place.ensures.near n near));
    }

pub keep_lead-requires : goal.keep_lead-requires
keep_lead-requires c =
    chain_begins_within (length (half_edges_of c.args.graph.now.edges)) c.args.plan.now c.loop-i.i c.chain.result.now _ c.requires.within c.chain.ensures.chain
    (slice_get-get_or c.chain.result.now 0 _ c.chain.ensures.some)

pub returns-clause-near : goal.returns-clause-near
returns-clause-near c = λ near. within_code c.loop-i.leads.items (c.loop-i.invariant.near range near)
