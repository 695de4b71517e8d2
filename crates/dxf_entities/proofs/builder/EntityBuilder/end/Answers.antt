use Rattle.std.proofs.Common.{subst, sym, ◌∙◌}
use Rattle.dxf_entities.specs.EntityBuilder.{BuilderAt}
use Rattle.dxf_entities.proofs.Answered.{end_agrees}
use Rattle.dxf_entities.proofs.builder.EntityBuilder.end.Goals as goal

pub returns-clause-place : goal.returns-clause-place
returns-clause-place c = λ e at none is. c.end.ensures.place ∙ end_agrees _ e (subst (λ h. BuilderAt h e) (sym c.self.view_is) at) none is
