use Rattle.std.proofs.Common.{rules, ◌≡◌, ◌++◌, ap, ◌∙◌}
use Rattle.std.specs.Prelude.{codes}
use Rattle.std.specs.Fmt.{signed_decimal}
use Rattle.std.proofs.lemmas.List.{append_assoc}
use Rattle.nest_commands.proofs.fault_line.missing_line.Goals as goal

pub returns-clause-text : goal.returns-clause-text
returns-clause-text c =
    let why = signed_decimal c.args.code in
    let last : c.put_signed.new.self ≡ c.put.new.self ++ why = search rules in
    last ∙ ap (λ l. l ++ why) c.put.ensures ∙ append_assoc c.line_at-text.result (codes "lacks group ") why ∙ c.line_at-text.ensures.text (codes "lacks group " ++ why)
