use Rattle.std.proofs.Common.{rules, ◌≡◌, ◌+◌, [], ◌∷◌, ◌++◌, false, refl, ap, ◌∙◌, sym, subst}
use Rattle.std.specs.Prelude.{if◌then◌else◌, ◌&&◌, nat_eq}
use Rattle.std.specs.Str.Lines.{strip_carriage_return}
use Rattle.dxf_groups.specs.Taking.{GroupsAt, found_at, found_at_stop, pair_or}
use Rattle.dxf_groups.specs.Steps.{goes_on, line_behind, pair_of}
use Rattle.dxf_groups.proofs.Readers.{head_at, head_found, ended_at, ended_found, longer_at, longer_found, counted, not_complete}
use Rattle.dxf_groups.proofs.Bytes.{matched_of}
use Rattle.dxf_groups.proofs.groups.Groups.take_open.Goals as goal

pub returns-then-completes_head-clause-at : goal.returns-then-completes_head-clause-at
returns-then-completes_head-clause-at c = λ bytes at. head_at c.args.self.now c.refuse.new.self bytes c.args.byte at (search rules) (search rules) (search rules) (search rules) (search rules) (search rules)

pub returns-then-completes_head-clause-found : goal.returns-then-completes_head-clause-found
returns-then-completes_head-clause-found c = λ bytes at. c.refuse.ensures.found ∙ head_found c.args.self.now bytes c.args.byte at (search rules) (search rules)

pub returns-then-byte-eq10-clause-at : goal.returns-then-byte-eq10-clause-at
returns-then-byte-eq10-clause-at c = λ bytes at.
    let byte : c.args.byte ≡ 10 = search rules in
    let count : c.completes_head.new.self.matched ≡ if goes_on c.args.self.now c.args.byte then c.args.self.now.matched + 1 else c.args.self.now.matched = search rules in
    let matched = counted (goes_on c.args.self.now c.args.byte) c.args.self.now bytes c.args.byte c.completes_head.new.self.matched at refl count in
    let same : c.end_line.new.self.matched ≡ c.completes_head.new.self.matched = search rules in
    subst (λ b. GroupsAt c.end_line.new.self (bytes ++ b ∷ [])) (sym byte)
    (ended_at c.args.self.now c.end_line.new.self bytes at c.requires.«open» (search rules) (search rules) (search rules) (search rules) (same ∙ subst (λ b. c.completes_head.new.self.matched ≡ matched_of (bytes ++ b ∷ [])) byte matched) (search rules))

pub returns-then-byte-eq10-clause-found : goal.returns-then-byte-eq10-clause-found
returns-then-byte-eq10-clause-found c = λ bytes at.
    let byte : c.args.byte ≡ 10 = search rules in
    let found : c.end_line.result ≡ pair_or (pair_of (line_behind c.args.self.now.stop (strip_carriage_return c.args.self.now.line))) (found_at_stop c.end_line.new.self.stop) = search rules in
    subst (λ b. c.end_line.result ≡ found_at (bytes ++ b ∷ [])) (sym byte)
    (found ∙ ended_found c.args.self.now c.end_line.new.self bytes at c.requires.«open» (search rules))

pub returns-clause-at : goal.returns-clause-at
returns-clause-at c = λ bytes at.
    let count : c.completes_head.new.self.matched ≡ if goes_on c.args.self.now c.args.byte then c.args.self.now.matched + 1 else c.args.self.now.matched = search rules in
    let completes : (goes_on c.args.self.now c.args.byte && nat_eq c.completes_head.new.self.matched 18) ≡ false = search rules in
    let off = not_complete (goes_on c.args.self.now c.args.byte) c.args.self.now.matched c.completes_head.new.self.matched count completes in
    let matched = counted (goes_on c.args.self.now c.args.byte) c.args.self.now bytes c.args.byte c.completes_head.new.self.matched at refl count in
    let same : c.lengthen.new.self.matched ≡ c.completes_head.new.self.matched = search rules in
    let line : c.completes_head.new.self.line ≡ c.args.self.now.line = search rules in
    longer_at c.args.self.now c.lengthen.new.self bytes c.args.byte at c.requires.«open» (search rules) off (search rules) (search rules) (search rules) (search rules)
    (same ∙ matched) (λ o. c.lengthen.ensures.line o ∙ ap (λ l. l ++ c.args.byte ∷ []) line)

pub returns-clause-found : goal.returns-clause-found
returns-clause-found c = λ bytes at.
    let count : c.completes_head.new.self.matched ≡ if goes_on c.args.self.now c.args.byte then c.args.self.now.matched + 1 else c.args.self.now.matched = search rules in
    let completes : (goes_on c.args.self.now c.args.byte && nat_eq c.completes_head.new.self.matched 18) ≡ false = search rules in
    let off = not_complete (goes_on c.args.self.now c.args.byte) c.args.self.now.matched c.completes_head.new.self.matched count completes in
    let found : c.lengthen.result ≡ found_at_stop c.lengthen.new.self.stop = search rules in
    found ∙ longer_found c.args.self.now c.lengthen.new.self bytes c.args.byte at c.requires.«open» (search rules) off (search rules)
