use Rattle.std.proofs.Common.{rules, ◌≡◌, Some, subst}
use Rattle.dxf_drawing.specs.EntityReader.{EntitiesSoFar, IsBuilderOf, Adds}
use Rattle.dxf_drawing.specs.States.{events_until, next_state}
use Rattle.dxf_drawing.proofs.Turns.{turn_adds, next_state_is}
use Rattle.dxf_drawing.proofs.entity_reader.EntityReader.end_entity.Goals as goal

pub returns-clause-built : goal.returns-clause-built
returns-clause-built c = λ e f was next.
    let some : c.self.inside.entity ≡ Some c.in-Some.entity = search rules in
    subst (λ (s : EntitiesSoFar). IsBuilderOf s.entity e → Adds s c.close.new.self (events_until s.state e f)) c.self.view_is
    (λ here. turn_adds (record { built = c.self.inside.built; state = c.self.inside.state; entity = c.self.inside.entity }) c.finish.new.self c.close.new.self c.in-Some.entity c.args.next.now e f some here next c.in_ok-finish.ensures.built c.in_ok-finish.ensures.state c.in_ok-close.ensures.built) was

pub returns-clause-state : goal.returns-clause-state
returns-clause-state c = λ e was none.
    let some : c.self.inside.entity ≡ Some c.in-Some.entity = search rules in
    let same : c.close.new.self.state ≡ c.finish.new.self.state = search rules in
    subst (λ (s : EntitiesSoFar). IsBuilderOf s.entity e → c.close.new.self.state ≡ next_state s.state e) c.self.view_is
    (λ here. next_state_is (record { built = c.self.inside.built; state = c.self.inside.state; entity = c.self.inside.entity }) c.finish.new.self c.close.new.self c.in-Some.entity e some here c.in_ok-finish.ensures.state same (c.close.ensures.stays none)) was
