use Rattle.std.proofs.Common.{subst, sym}
use Rattle.dxf_entities.specs.EntityBuilder.{BuilderAt}
use Rattle.dxf_entities.proofs.Answered.{name_agrees}
use Rattle.dxf_entities.proofs.builder.EntityBuilder.name_refusal.Goals as goal

pub returns : goal.returns
returns c = λ e at. name_agrees _ e c.as_slice.result.now c.new-label.result (subst (λ h. BuilderAt h e) (sym c.self.view_is) at) c.new-label.ensures c.as_slice.ensures.bytes c.as_slice.ensures.short
