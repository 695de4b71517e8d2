use Rattle.std.proofs.Common.{ap, ◌∙◌}
use Rattle.std.specs.Prelude.{filter_map}
use Rattle.dxf_entities.specs.EntityBuilder.{EntitySoFar, value_read, value_in}
use Rattle.dxf_entities.specs.Refusals.{first, missing_in, oddity, refusal_by}
use Rattle.dxf_entities.proofs.Answered.{odd_in, refusal_agrees}
use Rattle.dxf_entities.proofs.builder.EntityBuilder.refusal.Goals as goal

pub returns : goal.returns
returns c = λ e at.
    let h = c.args.self.now in
    c.refused.ensures
    ∙ ap (λ (x : EntitySoFar). refusal_by x.line x.fault c.missing-missing.result c.first_oddity-odd.result) c.self.view_is
    ∙ ap (λ m. refusal_by h.line h.fault m c.first_oddity-odd.result) c.missing-missing.ensures
    ∙ ap (λ o. refusal_by h.line h.fault (missing_in (value_read h) h.shape) o)
    (c.first_oddity-odd.ensures ∙ ap (λ gs. first (filter_map (λ g. oddity g (value_in c.self.inside.values g)) gs)) c.used.ensures ∙ ap odd_in c.self.view_is)
    ∙ refusal_agrees h e at
