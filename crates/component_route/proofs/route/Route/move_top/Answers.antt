use Rattle.std.proofs.Common.{rules, ◌≡◌, ◌∙◌, sym, ap, reverse, ◌++◌, ◌∷◌, [], List, ℕ}
use Rattle.std.proofs.lemmas.List.{map-append}
use Rattle.nest_base.specs.declared.numbers.Side.{Side}
use Rattle.nest_base.specs.NumberLists.{side_numbers}
use Rattle.component_route.specs.Courses.{Course}
use Rattle.component_route.proofs.Tops.{top_first}
use Rattle.component_route.proofs.route.Route.move_top.Goals as goal

pub returns-clause-some : goal.returns-clause-some
returns-clause-some c =
    let popped : c.self.inside.stack.items ≡ c.pop.new.self.items ++ (c.in_ok-side.side ∷ []) = search rules in
    let pushed : c.push-pushed.new.self.items ≡ c.self.inside.done.items ++ (c.in_ok-side.side ∷ []) = search rules in
    let rest = reverse (side_numbers c.pop.new.self.items) in
    let done : side_numbers c.push-pushed.new.self.items ≡ c.args.self.now.done ++ (c.in_ok-side.side.0 ∷ []) =
    ap side_numbers pushed ∙ (map-append (λ (t : Side). t.0) c.self.inside.done.items (c.in_ok-side.side ∷ []) ∙ ap (λ r. r.done ++ (c.in_ok-side.side.0 ∷ [])) c.self.view_is) in
    let room = ap (λ r. r.room) c.self.view_is in
    let make : List ℕ → ℕ → Course = λ d n. record { done = d; stack = rest; room = n } in (
      rest,
      sym (ap (λ r. r.stack) c.self.view_is) ∙ (ap (λ l. reverse (side_numbers l)) popped ∙ top_first c.pop.new.self.items c.in_ok-side.side),
      ap (λ d. make d c.self.inside.room) done ∙ ap (λ n. make (c.args.self.now.done ++ (c.in_ok-side.side.0 ∷ [])) n) room,
    )
