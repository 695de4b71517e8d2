use Rattle.std.proofs.Common.{rules, ◌∷◌, []}
use Rattle.dxf_drawing.specs.Events.{Names}
use Rattle.dxf_drawing.proofs.Holding.{holds_refused, holds_full_names, holds_name}
use Rattle.dxf_drawing.proofs.drawing_builder.DrawingBuilder.add_name.Goals as goal

pub returns-then-is_some : goal.returns-then-is_some
returns-then-is_some c = λ events held. holds_refused c.args.self.now events (Names c.args.name ∷ []) (search rules) held

pub returns-then-names-ge-MOST_NAMES : goal.returns-then-names-ge-MOST_NAMES
returns-then-names-ge-MOST_NAMES c = λ events held. holds_full_names c.args.self.now _ events c.args.name (search rules) (search rules) (search rules) held

pub returns : goal.returns
returns c = λ events held. holds_name c.args.self.now _ events c.args.name (search rules) (search rules) (search rules) (search rules) (search rules) held
