use Rattle.std.proofs.Common.{arith, ◌≡◌, ◌<◌, ◌+◌, ◌++◌, ◌∷◌, [], ℕ, List, length, length-append, sym, ap, subst, ◌∙◌}
use Rattle.std.specs.Prelude.{Option, None, Some}
use Rattle.std.proofs.lemmas.Option.{same_Some, none-some}
use Rattle.nest_base.specs.declared.numbers.Component.{Component}
use Rattle.plate_nesting.specs.Order.{ParentsComeFirst}
use Rattle.nest_base.specs.NumberLists.{parent_numbers}
use Rattle.burning_order.proofs.Numbers.{parents_pushed}
use Rattle.burning_order.proofs.tests.order_of.Goals as goal
use Rattle.burning_order.proofs.tests.order_of.Goals.{in-Some+else-p-len+in_ok-push-in-Some, in-None+in_ok-push-in-None}

-- one more parent
pushed : (items made : List (Option Component)) (last : Option Component) (i : ℕ) → (length items ≡ i) × ParentsComeFirst (parent_numbers items) → made ≡ items ++ last ∷ [] →
    ((p : Component) → last ≡ Some p → p.0 < i) → (length made ≡ i + 1) × ParentsComeFirst (parent_numbers made)
pushed items made last i known is below =
    subst (λ l. (length l ≡ i + 1) × ParentsComeFirst (parent_numbers l)) (sym is)
    (omega (arith, known.0, length-append items (last ∷ [])), parents_pushed items last known.1 (λ p e. omega (arith, known.0, below p e)))

pub loop-parent-preserved : goal.loop-parent-preserved
loop-parent-preserved c = elim c.match-parent.branch [
  | in-Some+else-p-len+in_ok-push-in-Some w ↦
      pushed c.loop-parent.list.items c.match-parent.list.items (Some (record { 0 = w.in-Some.p })) c.loop-parent.parent-index c.loop-parent.invariant
      (ap (λ list. list.items) w.list-is ∙ w.in_ok-push-in-Some.ensures.items)
      (λ p e. omega (arith, ap (λ (q : Component). q.0) (same_Some (record { 0 = w.in-Some.p }) p e), w.if-p-len.false, w.len.ensures, c.loop-parent.list.ok.0, c.loop-parent.invariant.0))
  | in-None+in_ok-push-in-None w ↦
      pushed c.loop-parent.list.items c.match-parent.list.items None c.loop-parent.parent-index c.loop-parent.invariant
      (ap (λ list. list.items) w.list-is ∙ w.in_ok-push-in-None.ensures.items)
      (λ p e. absurd (none-some p e))
]
