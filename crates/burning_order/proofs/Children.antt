-- How many components lie in each one, counted one component after another.
use Rattle.std.proofs.Common.{arith, ◌≡◌, ℕ, ◌+◌, ◌<◌, ◌≤◌, inl, inr, cond, List, [], length, set, drop, length-set, refl, sym, ap, subst, ◌∙◌}
use Rattle.std.specs.Prelude.{Option, None, Some, slice_get}
use Rattle.std.proofs.lemmas.Option.{same_Some, slice_get_within, get_or_from_slice_get}
use Rattle.std.proofs.lemmas.List.{drop_more, drop_all}
use Rattle.std.proofs.lemmas.Bool.Decides.{eqb_tells}
use Rattle.burning_order.specs.Turns.{is_parent, unfinished, weight_from, waiting_for, AreWaitedFor}
use Rattle.burning_order.proofs.Waiting.{waiting_few, parent_is, parent_other}
use Rattle.nest_base.proofs.ListReads.{read_written, read_unwritten}

-- how many of the components from first on lie in p
abbrev pub from_first : List (Option ℕ) → ℕ → ℕ → ℕ
from_first parents first p = weight_from (unfinished []) first (drop first parents) p

-- those below first are counted
pub record AreCounted (parents : List (Option ℕ)) (first : ℕ) (children : List ℕ) : Type 0 where
  pub as_many : length children ≡ length parents
  pub each : (p : ℕ) → p < length parents → (n : ℕ) × (slice_get children p ≡ Some n) × (n + from_first parents first p ≡ waiting_for parents [] p)

pub all_are_counted : (parents : List (Option ℕ)) (first : ℕ) (children : List ℕ) → AreCounted parents first children → length parents ≤ first → AreWaitedFor parents [] children
all_are_counted parents first children counted far = record {
  as_many = counted.as_many;
  each = λ p within. (counted.each p within).1 ∙ ap Some (omega (arith, (counted.each p within).2, none_later p));
}
  where
    none_later : (p : ℕ) → from_first parents first p ≡ 0
    none_later p = ap (λ l. weight_from (unfinished []) first l p) (drop_all first parents far)

-- the next one's own weight, and that of those after it
from_next : (parents : List (Option ℕ)) (first p : ℕ) (parent : Option ℕ) → slice_get parents first ≡ Some parent →
    from_first parents first p ≡ cond (is_parent parent p) 1 0 + from_first parents (first + 1) p
from_next parents first p parent at =
    ap (λ l. weight_from (unfinished []) first l p) (drop_more parents first parent (slice_get_within parents first parent at))
    ∙ ap (λ o. cond (is_parent o p) 1 0 + from_first parents (first + 1) p) (get_or_from_slice_get parents first parent parent at)

next_of_parent : (parents : List (Option ℕ)) (first p : ℕ) → slice_get parents first ≡ Some (Some p) → from_first parents first p ≡ 1 + from_first parents (first + 1) p
next_of_parent parents first p at = from_next parents first p (Some p) at ∙ ap (λ test. cond test 1 0 + from_first parents (first + 1) p) (parent_is (Some p) p refl)

next_of_other : (parents : List (Option ℕ)) (first p q : ℕ) → slice_get parents first ≡ Some (Some p) → (p ≡ q → ⊥) →
    from_first parents first q ≡ from_first parents (first + 1) q
next_of_other parents first p q at other =
    let next = from_next parents first q (Some p) at ∙ ap (λ test. cond test 1 0 + from_first parents (first + 1) q) (parent_other (Some p) q (λ e. other (same_Some p q e))) in
    omega (arith, next)

-- one in which none lies, and one that lies in another
pub outer_is_counted : (parents : List (Option ℕ)) (first : ℕ) (children : List ℕ) → AreCounted parents first children → slice_get parents first ≡ Some None →
    AreCounted parents (first + 1) children
outer_is_counted parents first children counted at = record {
  as_many = counted.as_many;
  each = λ p within. let now = counted.each p within in (now.0, now.1, omega (arith, now.2, from_next parents first p None at));
}

pub inner_is_counted : (parents : List (Option ℕ)) (first : ℕ) (children : List ℕ) (p n : ℕ) → AreCounted parents first children → slice_get parents first ≡ Some (Some p) →
    p < length parents → slice_get children p ≡ Some n → AreCounted parents (first + 1) (set children p (n + 1))
inner_is_counted parents first children p n counted at within read = record {
  as_many = length-set children p (n + 1) ∙ counted.as_many;
  each = λ q q_within. let now = counted.each q q_within in elim (eqb_tells q p) [
    | inl (test, same) ↦ (
      n + 1,
      subst (λ k. slice_get (set children p (n + 1)) k ≡ Some (n + 1)) (sym same) (read_written children p (n + 1) (omega (arith, within, counted.as_many))),
      subst (λ k. n + 1 + from_first parents (first + 1) k ≡ waiting_for parents [] k) (sym same) one_more,
    )
    | inr (test, other) ↦ (now.0, read_unwritten children p q (n + 1) other ∙ now.1, ap (λ m. now.0 + m) (sym (next_of_other parents first p q at (λ e. other (sym e)))) ∙ now.2)
  ];
}
  where
    one_more : n + 1 + from_first parents (first + 1) p ≡ waiting_for parents [] p
    one_more = let now = counted.each p within in omega (arith, now.2, same_Some now.0 n (sym now.1 ∙ read), next_of_parent parents first p at)

-- a count is at most the number of components
pub count_few : (parents : List (Option ℕ)) (first : ℕ) (children : List ℕ) (p n : ℕ) → AreCounted parents first children → slice_get parents first ≡ Some (Some p) →
    p < length parents → slice_get children p ≡ Some n → n < length parents
count_few parents first children p n counted at within read =
    let now = counted.each p within in
    omega (arith, now.2, same_Some now.0 n (sym now.1 ∙ read), next_of_parent parents first p at, waiting_few parents [] p)
