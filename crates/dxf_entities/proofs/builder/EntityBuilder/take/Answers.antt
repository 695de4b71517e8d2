use Rattle.std.proofs.Common.{◌≡◌, rules, subst, sym}
use Rattle.dxf_entities.specs.Entities.{with_pair}
use Rattle.dxf_entities.specs.EntityBuilder.{BuilderAt, taken}
use Rattle.dxf_entities.proofs.Taken.{taken_is_built}
use Rattle.dxf_entities.proofs.builder.EntityBuilder.take.Goals as goal

pub returns-clause-ok : goal.returns-clause-ok
returns-clause-ok c =
    let is : c.note.new.self ≡ taken (record { code = c.args.code; value = c.args.text.now; line = c.args.line }) c.args.self.now = search rules in
    λ e at. subst (λ h. BuilderAt h (with_pair (record { code = c.args.code; value = c.args.text.now; line = c.args.line }) e)) (sym is) (taken_is_built _ c.args.self.now e at)
