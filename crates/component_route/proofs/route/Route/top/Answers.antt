use Rattle.std.proofs.Common.{rules, ◌≡◌, ◌∙◌, sym, ap, ◌-◌, take, length, reverse, List, ℕ, ◌∷◌, Option, None, Some}
use Rattle.std.specs.Prelude.{IfSome, slice_get}
use Rattle.nest_base.specs.declared.numbers.Side.{Side}
use Rattle.nest_base.specs.NumberLists.{side_numbers}
use Rattle.component_route.proofs.Tops.{last_first}
use Rattle.component_route.proofs.route.Route.top.Goals as goal

pub returns-clause-some : goal.returns-clause-some
returns-clause-some c = go c.self.inside.stack.items (sym (ap (λ r. r.stack) c.self.view_is)) c.copied.result (search rules)
  where
    go : (items : List Side) → c.args.self.now.stack ≡ reverse (side_numbers items) → (top : Option Side) → top ≡ slice_get items (length items - 1) → IfSome top (λ s. (rest : List ℕ) × (c.args.self.now.stack ≡ s.0 ∷ rest))
    go items is None e = tt
    go items is (Some s) e = (reverse (side_numbers (take (length items - 1) items)), is ∙ last_first items s (sym e))
