use Rattle.std.proofs.Common.{rules, ◌∷◌, []}
use Rattle.dxf_drawing.specs.Events.{Draws}
use Rattle.dxf_drawing.proofs.Holding.{holds_refused, holds_full, holds_segment}
use Rattle.dxf_drawing.proofs.drawing_builder.DrawingBuilder.push.Goals as goal

pub returns-then-is_some-clause-holds : goal.returns-then-is_some-clause-holds
returns-then-is_some-clause-holds c = λ events held. holds_refused c.args.self.now events (Draws c.args.s ∷ []) (search rules) held

pub returns-then-segments-ge-MOST_SEGMENTS-clause-holds : goal.returns-then-segments-ge-MOST_SEGMENTS-clause-holds
returns-then-segments-ge-MOST_SEGMENTS-clause-holds c = λ events held. holds_full c.args.self.now _ events c.args.s (search rules) (search rules) (search rules) held

pub returns-clause-holds : goal.returns-clause-holds
returns-clause-holds c = λ events held. holds_segment c.args.self.now _ events c.args.s (search rules) (search rules) (search rules) (search rules) (search rules) held
