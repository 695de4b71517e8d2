use Rattle.std.proofs.Common.{rules, ◌≡◌, ap, ◌∙◌, sym}
use Rattle.dxf_groups.specs.Taking.{is_open, found_at_stop}
use Rattle.dxf_groups.proofs.Readers.{closed_at, closed_found}
use Rattle.dxf_groups.proofs.groups.Groups.take.Goals as goal

pub returns-in-AtEof-clause-at : goal.returns-in-AtEof-clause-at
returns-in-AtEof-clause-at c = λ bytes at. closed_at c.args.self.now _ bytes c.args.byte at (search rules) (search rules) (search rules) (search rules) (search rules)

pub returns-in-AtEof-clause-found : goal.returns-in-AtEof-clause-found
returns-in-AtEof-clause-found c = λ bytes at.
    let stop : c.args.self.now.stop ≡ c.self.inside.stop = search rules in
    ap found_at_stop (sym (stop ∙ c.in-AtEof.is)) ∙ closed_found c.args.self.now bytes c.args.byte at (ap is_open (stop ∙ c.in-AtEof.is))

pub returns-in-AtFault-clause-at : goal.returns-in-AtFault-clause-at
returns-in-AtFault-clause-at c = λ bytes at. closed_at c.args.self.now _ bytes c.args.byte at (search rules) (search rules) (search rules) (search rules) (search rules)

pub returns-in-AtFault-clause-found : goal.returns-in-AtFault-clause-found
returns-in-AtFault-clause-found c = λ bytes at.
    let stop : c.args.self.now.stop ≡ c.self.inside.stop = search rules in
    ap found_at_stop (sym (stop ∙ c.in-AtFault.is)) ∙ closed_found c.args.self.now bytes c.args.byte at (ap is_open (stop ∙ c.in-AtFault.is))
