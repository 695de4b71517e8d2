use Rattle.std.proofs.Common.{rules, ◌∙◌}
use Rattle.dxf_groups.proofs.Readers.{end_at, end_found}
use Rattle.dxf_groups.proofs.groups.Groups.end.Goals as goal

pub returns-clause-at : goal.returns-clause-at
returns-clause-at c = λ bytes at. end_at c.args.self.now c.drop_value.new.self _ bytes at (search rules) (search rules) (search rules) (search rules)

pub returns-clause-found : goal.returns-clause-found
returns-clause-found c = λ bytes at. (search rules) ∙ end_found c.args.self.now c.drop_value.new.self c.take_end-found.new.self.stop bytes at (search rules) (search rules)
