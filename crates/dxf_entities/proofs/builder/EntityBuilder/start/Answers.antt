use Rattle.std.proofs.Common.{subst, sym, ◌∙◌}
use Rattle.dxf_entities.specs.EntityBuilder.{BuilderAt}
use Rattle.dxf_entities.proofs.Answered.{start_agrees}
use Rattle.dxf_entities.proofs.builder.EntityBuilder.start.Goals as goal

pub returns-clause-place : goal.returns-clause-place
returns-clause-place c = λ e at none has. c.start.ensures.place ∙ start_agrees _ e (subst (λ h. BuilderAt h e) (sym c.self.view_is) at) none has
