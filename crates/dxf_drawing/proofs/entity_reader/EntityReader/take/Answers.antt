use Rattle.std.proofs.Common.{rules, ◌≡◌, true, false}
use Rattle.std.specs.Int.{w32}
use Rattle.std.proofs.lemmas.Int.{to_z-of_z}
use Rattle.std.specs.Prelude.{is_some, pos}
use Rattle.std.specs.Ordering.{int_eq}
use Rattle.dxf_entities.specs.EntityBuilder.{BuilderAt}
use Rattle.dxf_groups.specs.Pairs.{Pair}
use Rattle.dxf_drawing.proofs.Growth.{entity_of}
use Rattle.dxf_drawing.proofs.Turns.{reader_refused, reader_begin, reader_group}
use Rattle.dxf_drawing.proofs.entity_reader.EntityReader.take.Goals as goal

pub returns-then-is_refused : goal.returns-then-is_refused
returns-then-is_refused c = λ pairs at. reader_refused c.args.self.now pairs _ (search rules) at

pub returns-then-code-eq0 : goal.returns-then-code-eq0
returns-then-code-eq0 c = λ pairs at.
    let p : Pair = record { code = c.args.code; value = c.args.text.now; line = c.args.line } in
    let zero : int_eq c.args.code (pos 0) ≡ true = search rules in
    let open_yet : is_some c.args.self.now.built.refusal ≡ false = search rules in
    let begun = c.begin.ensures in
    let building : BuilderAt c.begin.result (entity_of p) = record { shape = begun.shape; label = begun.label; line = begun.line; is_section = begun.is_section; closes = begun.closes; opening = begun.opening; space = begun.space; fault = begun.fault; values = begun.values } in
    reader_begin c.args.self.now c.begin-then-code-eq0.new.self pairs p c.begin.result zero building c.in_ok-begin.ensures.entity c.in_ok-begin.ensures.built c.in_ok-begin.ensures.state open_yet at

pub returns : goal.returns
returns c = λ pairs at.
    let p : Pair = record { code = c.args.code; value = c.args.text.now; line = c.args.line } in
    let other : int_eq c.args.code (pos 0) ≡ false = search rules in
    let open_yet : is_some c.args.self.now.built.refusal ≡ false = search rules in
    let exact = to_z-of_z w32 c.args.code c.ranges.code in
    let entity = rw (exact) at c.in_ok-take_group.ensures.entity in
    reader_group c.args.self.now c.take_group.new.self pairs p other entity (search rules) (search rules) open_yet at
