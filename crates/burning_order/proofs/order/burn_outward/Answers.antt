use Rattle.std.proofs.Common.{arith, ◌≡◌, ℕ, ◌<◌, ◌≤◌, ◌+◌, ◌-◌, ◌++◌, ◌∷◌, [], List, length, length-set, get_or, set, sym, subst, ◌∙◌, ap}
use Rattle.std.specs.Prelude.{Option, None, Some}
use Rattle.std.proofs.lemmas.Option.{slice_get-get_or}
use Rattle.nest_base.specs.declared.numbers.Component.{Component}
use Rattle.plate_nesting.specs.Order.{ParentsComeFirst}
use Rattle.nest_base.specs.NumberLists.{parent_numbers, component_numbers}
use Rattle.burning_order.specs.Turns.{HaveHadTurns}
use Rattle.burning_order.proofs.Numbers.{length-parents, inner_read, outer_read, parent_within, component_numbers-push}
use Rattle.burning_order.proofs.Outward.{IsNextOf, HasCountFor, leaf_is_next, parent_waits, outermost, parent_not_ready, parent_is_next}
use Rattle.burning_order.proofs.order.burn_outward.Goals as goal

-- the parent and its count, as they are read
parent_read : (parents : List (Option Component)) (leaf c : ℕ) (p : Component) (finished waiting : List ℕ) → ParentsComeFirst (parent_numbers parents) →
    IsNextOf (parent_numbers parents) leaf c finished waiting → get_or parents c None ≡ Some p →
    HasCountFor (parent_numbers parents) waiting c p.0 (get_or waiting p.0 0) × (p.0 < length waiting)
parent_read parents leaf c p finished waiting first next is =
    let below : c < length parents = omega (arith, next.ready.within, length-parents parents) in
    let within = parent_within parents c p None first below is in
    let inside : p.0 < length waiting = omega (arith, within, next.counted.as_many) in
    (record { lies = inner_read parents c p None below is; within = within; read = slice_get-get_or waiting p.0 0 inside }, inside)

pushed : (order items : List Component) (c : Component) → items ≡ order ++ c ∷ [] → component_numbers order ++ c.0 ∷ [] ≡ component_numbers items
pushed order items c is = sym (ap component_numbers is ∙ component_numbers-push order c)

pub loop-p-init : goal.loop-p-init
loop-p-init c =
    leaf_is_next (parent_numbers c.args.parents.now) c.args.leaf.0 (component_numbers c.args.order.now.items) c.args.waiting.now c.requires.turn c.requires.ready

pub returns-in_default : goal.returns-in_default
returns-in_default c =
    let parents = c.args.parents.now in
    let next = c.loop-p.invariant in
    subst (λ done. HaveHadTurns (parent_numbers parents) (c.args.leaf.0 + 1) done c.loop-p.waiting) (pushed c.loop-p.order.items c.push.new.self.items c.loop-p.c c.in_ok-push.ensures.items)
    (outermost (parent_numbers parents) c.args.leaf.0 c.loop-p.c.0 (component_numbers c.loop-p.order.items) c.loop-p.waiting next
    (outer_read parents c.loop-p.c.0 None (omega (arith, next.ready.within, length-parents parents)) c.in_default.not-Some))

pub bounds-waiting-p : goal.bounds-waiting-p
bounds-waiting-p c = (parent_read c.args.parents.now c.args.leaf.0 c.loop-p.c.0 c.in-Some.p (component_numbers c.loop-p.order.items) c.loop-p.waiting c.requires.first c.loop-p.invariant c.in-Some.is).1

pub overflow_sub-waiting : goal.overflow_sub-waiting
overflow_sub-waiting c =
    let parents = c.args.parents.now in
    let order = component_numbers c.loop-p.order.items in
    let parent = parent_read parents c.args.leaf.0 c.loop-p.c.0 c.in-Some.p order c.loop-p.waiting c.requires.first c.loop-p.invariant c.in-Some.is in
    parent_waits (parent_numbers parents) c.args.leaf.0 c.loop-p.c.0 c.in-Some.p.0 (get_or c.loop-p.waiting c.in-Some.p.0 0) order c.loop-p.waiting c.loop-p.invariant parent.0

pub bounds-waiting-p-in-loop-p : goal.bounds-waiting-p-in-loop-p
bounds-waiting-p-in-loop-p c = (parent_read c.args.parents.now c.args.leaf.0 c.loop-p.c.0 c.in-Some.p (component_numbers c.loop-p.order.items) c.loop-p.waiting c.requires.first c.loop-p.invariant c.in-Some.is).1

pub bounds-waiting-p-in-loop-p-2 : goal.bounds-waiting-p-in-loop-p-2
bounds-waiting-p-in-loop-p-2 c =
    let waiting = c.loop-p.waiting in
    let parent = parent_read c.args.parents.now c.args.leaf.0 c.loop-p.c.0 c.in-Some.p (component_numbers c.loop-p.order.items) waiting c.requires.first c.loop-p.invariant c.in-Some.is in
    let n = get_or waiting c.in-Some.p.0 0 - 1 in
    let inside : c.in-Some.p.0 < length (set waiting c.in-Some.p.0 n) = omega (arith, parent.1, length-set waiting c.in-Some.p.0 n) in
    inside

pub returns-then-waiting-p-gt0 : goal.returns-then-waiting-p-gt0
returns-then-waiting-p-gt0 c =
    let parents = c.args.parents.now in
    let waiting = c.loop-p.waiting in
    let order = component_numbers c.loop-p.order.items in
    let n = get_or waiting c.in-Some.p.0 0 in
    let parent = parent_read parents c.args.leaf.0 c.loop-p.c.0 c.in-Some.p order waiting c.requires.first c.loop-p.invariant c.in-Some.is in
    subst (λ done. HaveHadTurns (parent_numbers parents) (c.args.leaf.0 + 1) done (set waiting c.in-Some.p.0 (n - 1))) (pushed c.loop-p.order.items c.push.new.self.items c.loop-p.c c.in_ok-push.ensures.items)
    (parent_not_ready (parent_numbers parents) c.args.leaf.0 c.loop-p.c.0 c.in-Some.p.0 n order waiting c.loop-p.invariant parent.0 c.if-waiting-p-gt0.true)

pub loop-p-smaller : goal.loop-p-smaller
loop-p-smaller c =
    let order = component_numbers c.loop-p.order.items in
    let parent = parent_read c.args.parents.now c.args.leaf.0 c.loop-p.c.0 c.in-Some.p order c.loop-p.waiting c.requires.first c.loop-p.invariant c.in-Some.is in
    c.requires.first c.loop-p.c.0 c.in-Some.p.0 parent.0.lies

pub loop-p-preserved : goal.loop-p-preserved
loop-p-preserved c =
    let parents = c.args.parents.now in
    let waiting = c.loop-p.waiting in
    let order = component_numbers c.loop-p.order.items in
    let n = get_or waiting c.in-Some.p.0 0 in
    let parent = parent_read parents c.args.leaf.0 c.loop-p.c.0 c.in-Some.p order waiting c.requires.first c.loop-p.invariant c.in-Some.is in
    let none : get_or (set waiting c.in-Some.p.0 (n - 1)) c.in-Some.p.0 0 ≤ 0 = c.if-waiting-p-gt0.false in
    subst (λ done. IsNextOf (parent_numbers parents) c.args.leaf.0 c.in-Some.p.0 done (set waiting c.in-Some.p.0 (n - 1))) (pushed c.loop-p.order.items c.push.new.self.items c.loop-p.c c.in_ok-push.ensures.items)
    (parent_is_next (parent_numbers parents) c.args.leaf.0 c.loop-p.c.0 c.in-Some.p.0 n order waiting c.requires.first c.loop-p.invariant parent.0 (omega (arith, none)))
