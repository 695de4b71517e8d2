use Rattle.std.proofs.Common.{ap, ◌∙◌, to_z, of_z}
use Rattle.std.specs.Int.{w32}
use Rattle.std.proofs.lemmas.Int.{to_z-of_z}
use Rattle.dxf_entities.specs.contracts.builder.EntityBuilder.{the_view}
use Rattle.dxf_entities.specs.EntityBuilder.{noted}
use Rattle.dxf_entities.proofs.Noted.{noted_by}
use Rattle.dxf_entities.proofs.builder.EntityBuilder.note.Goals as goal

pub returns : goal.returns
returns c =
    let code = c.args.code in
    let value = c.args.text.now in
    let line = c.args.line in
    let h = the_view c.self.inside in
    noted_by (record { code = to_z w32 (of_z w32 code); value = value; line = line }) h _ _ (c.opening_by.ensures line) c.space_by-self-inside.ensures
    ∙ ap (λ n. noted (record { code = n; value = value; line = line }) h) (to_z-of_z w32 code c.ranges.code)
    ∙ ap (noted (record { code = code; value = value; line = line })) c.self.view_is
