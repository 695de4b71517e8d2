use Rattle.std.proofs.Common.{rules, ◌∷◌, []}
use Rattle.dxf_drawing.specs.Events.{Refuses}
use Rattle.dxf_drawing.proofs.Holding.{holds_refused, holds_refuses}
use Rattle.dxf_drawing.proofs.drawing_builder.DrawingBuilder.refuse.Goals as goal

pub returns-then-is_none-clause-holds : goal.returns-then-is_none-clause-holds
returns-then-is_none-clause-holds c = λ events held. holds_refuses c.args.self.now _ events c.args.why (search rules) (search rules) held

pub returns-else-is_none-clause-holds : goal.returns-else-is_none-clause-holds
returns-else-is_none-clause-holds c = λ events held. holds_refused c.args.self.now events (Refuses c.args.why ∷ []) (search rules) held
