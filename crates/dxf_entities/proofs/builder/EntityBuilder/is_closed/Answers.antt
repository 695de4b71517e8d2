use Rattle.std.proofs.Common.{subst, sym, ◌∙◌}
use Rattle.dxf_entities.specs.EntityBuilder.{BuilderAt}
use Rattle.dxf_entities.proofs.Answered.{closed_agrees}
use Rattle.dxf_entities.proofs.builder.EntityBuilder.is_closed.Goals as goal

pub returns : goal.returns
returns c = λ e at none is. c.is_closed.ensures ∙ closed_agrees _ e (subst (λ h. BuilderAt h e) (sym c.self.view_is) at) none is
