use Rattle.std.proofs.Common.{subst, sym, refl}
use Rattle.dxf_entities.specs.EntityBuilder.{BuilderAt}
use Rattle.dxf_entities.proofs.Answered.{text_agrees}
use Rattle.dxf_entities.proofs.builder.EntityBuilder.into_text.Goals as goal

pub returns : goal.returns
returns c = λ e at none is. text_agrees _ e c.self.inside.has_content c.self.inside.content c.self.invariant.0 refl (subst (λ h. BuilderAt h e) (sym c.self.view_is) at) none is
