-- How many components each one waits for: one fewer once one of them is finished, and none exactly where all are.
use Rattle.std.proofs.Common.{arith, ◌≡◌, ℕ, zero, suc, ◌+◌, ◌≤◌, ◌⊎◌, inl, inr, Bool, true, false, cond, true≢false, List, [], ◌∷◌, ◌++◌, length, refl, sym, ap, ap₂, subst, ◌∙◌}
use Rattle.std.specs.Prelude.{Contains, Option, None, Some, slice_get}
use Rattle.std.specs.Set.{is_member}
use Rattle.std.specs.Bool.{nat_eq, Decides}
use Rattle.std.proofs.lemmas.Bool.Decides.{Decides-eqb}
use Rattle.std.proofs.lemmas.Map.Made.{is_member-Decides}
use Rattle.std.proofs.lemmas.Option.{same_Some, none-some}
use Rattle.std.proofs.lemmas.List.Elements.{Contains-append_left, Contains-push_cases, Contains-push}
use Rattle.plate_nesting.specs.Order.{LiesIn}
use Rattle.burning_order.specs.Turns.{is_parent, unfinished, weight_from, waiting_for}

-- a component is finished, or it isn't
pub is_finished : (finished : List ℕ) (k : ℕ) → Contains finished k ⊎ (Contains finished k → ⊥)
is_finished finished k = of (is_member nat_eq finished k) (is_member-Decides Decides-eqb finished k)
  where
    of : (test : Bool) → Decides test (Contains finished k) → Contains finished k ⊎ (Contains finished k → ⊥)
    of true d = inl (d.0 refl)
    of false d = inr (λ there. true≢false (sym (d.1 there)))

pub unfinished-no : (finished : List ℕ) (k : ℕ) → Contains finished k → unfinished finished k ≡ 0
unfinished-no finished k there = ap (λ test. cond test 0 1) ((is_member-Decides Decides-eqb finished k).1 there)

pub unfinished-yes : (finished : List ℕ) (k : ℕ) → (Contains finished k → ⊥) → unfinished finished k ≡ 1
unfinished-yes finished k none = of (is_member nat_eq finished k) (is_member-Decides Decides-eqb finished k)
  where
    of : (test : Bool) → Decides test (Contains finished k) → ◌≡◌ {A = ℕ} (cond test 0 1) 1
    of true d = absurd (none (d.0 refl))
    of false d = refl

-- a component that another lies in
pub parent_is : (parent : Option ℕ) (p : ℕ) → parent ≡ Some p → is_parent parent p ≡ true
parent_is parent p e = ap (λ q. is_parent q p) e ∙ (Decides-eqb p p).1 refl

parent_of : (parent : Option ℕ) (p : ℕ) → is_parent parent p ≡ true → parent ≡ Some p
parent_of None p e = absurd (true≢false (sym e))
parent_of (Some q) p e = ap Some ((Decides-eqb q p).0 e)

pub parent_other : (parent : Option ℕ) (p : ℕ) → (parent ≡ Some p → ⊥) → is_parent parent p ≡ false
parent_other parent p other = of (is_parent parent p) refl
  where
    of : (test : Bool) → is_parent parent p ≡ test → test ≡ false
    of true e = absurd (other (parent_of parent p e))
    of false e = refl

-- weights that are the same from first on weigh the same
weight_same : (f g : ℕ → ℕ) (first : ℕ) (parents : List (Option ℕ)) (p : ℕ) → ((k : ℕ) → first ≤ k → f k ≡ g k) →
    weight_from f first parents p ≡ weight_from g first parents p
weight_same f g first [] p same = refl
weight_same f g first (parent ∷ parents) p same =
    ap₂ (λ m n. cond (is_parent parent p) m 0 + n) (same first (omega arith)) (weight_same f g (first + 1) parents p (λ k h. same k (omega arith)))

one_more : (test : Bool) (m n : ℕ) → m ≡ n + 1 → cond test m 0 ≡ cond test n 0 + cond test 1 0
one_more true m n e = e
one_more false m n e = refl

-- where one component weighs 1 less, so does its parent's sum
weight_less : (f g : ℕ → ℕ) (first : ℕ) (parents : List (Option ℕ)) (p i c : ℕ) (parent : Option ℕ) → slice_get parents i ≡ Some parent → c ≡ first + i →
    f c ≡ g c + 1 → ((k : ℕ) → (k ≡ c → ⊥) → f k ≡ g k) →
    weight_from f first parents p ≡ weight_from g first parents p + cond (is_parent parent p) 1 0
weight_less f g first [] p i c parent at place less same = absurd (none-some parent at)
weight_less f g first (q ∷ parents) p zero c parent at place less same =
    let here : c ≡ first = omega (arith, place) in
    let head : cond (is_parent q p) (f first) 0 ≡ cond (is_parent q p) (g first) 0 + cond (is_parent q p) 1 0 =
    one_more (is_parent q p) (f first) (g first) (subst (λ k. f k ≡ g k + 1) here less) in
    let is : cond (is_parent q p) 1 0 ≡ cond (is_parent parent p) 1 0 = ap {B = ℕ} (λ o. cond (is_parent o p) 1 0) (same_Some q parent at) in
    omega (arith, head, is, weight_same f g (first + 1) parents p (λ k h. same k (λ e. omega (arith, e, here, h))))
weight_less f g first (q ∷ parents) p (suc i) c parent at place less same =
    let rest = weight_less f g (first + 1) parents p i c parent at (omega (arith, place)) less same in
    let head : cond (is_parent q p) (f first) 0 ≡ cond (is_parent q p) (g first) 0 = ap (λ w. cond (is_parent q p) w 0) (same first (λ e. omega (arith, e, place))) in
    omega (arith, head, rest)

-- where those that lie in p weigh nothing, their sum is 0
weight_none : (f : ℕ → ℕ) (first : ℕ) (parents : List (Option ℕ)) (p : ℕ) → ((i c : ℕ) → c ≡ first + i → slice_get parents i ≡ Some (Some p) → f c ≡ 0) →
    weight_from f first parents p ≡ 0
weight_none f first [] p none = refl
weight_none f first (parent ∷ parents) p none =
    let rest = weight_none f (first + 1) parents p (λ i c place at. none (suc i) c (omega (arith, place)) at) in
    omega (arith, rest, of (is_parent parent p) refl)
  where
    of : (test : Bool) → is_parent parent p ≡ test → cond test (f first) 0 ≡ 0
    of true e = none 0 first (omega arith) (ap Some (parent_of parent p e))
    of false e = refl

-- where their sum is 0, each that lies in p weighs nothing
weight_zero : (f : ℕ → ℕ) (first : ℕ) (parents : List (Option ℕ)) (p i c : ℕ) → c ≡ first + i → weight_from f first parents p ≡ 0 → slice_get parents i ≡ Some (Some p) →
    f c ≡ 0
weight_zero f first [] p i c place sum at = absurd (none-some (Some p) at)
weight_zero f first (parent ∷ parents) p zero c place sum at =
    let is : is_parent parent p ≡ true = parent_is parent p (same_Some parent (Some p) at) in
    let head : cond (is_parent parent p) (f first) 0 ≡ f first = ap (λ test. cond test (f first) 0) is in
    ap f {x = c} {y = first} (omega (arith, place)) ∙ omega (arith, sum, head)
weight_zero f first (parent ∷ parents) p (suc i) c place sum at =
    weight_zero f (first + 1) parents p i c (omega (arith, place)) (omega (arith, sum)) at

-- weights of at most 1 sum up to at most the number of components
weight_few : (f : ℕ → ℕ) (first : ℕ) (parents : List (Option ℕ)) (p : ℕ) → ((k : ℕ) → f k ≤ 1) → weight_from f first parents p ≤ length parents
weight_few f first [] p few = omega arith
weight_few f first (parent ∷ parents) p few = omega (arith, weight_few f (first + 1) parents p few, of (is_parent parent p))
  where
    of : (test : Bool) → cond test (f first) 0 ≤ 1
    of true = few first
    of false = omega arith

pub unfinished-few : (finished : List ℕ) (k : ℕ) → unfinished finished k ≤ 1
unfinished-few finished k = of (is_member nat_eq finished k)
  where
    of : (test : Bool) → cond test 0 1 ≤ 1
    of true = omega arith
    of false = omega arith

-- once c is finished its parent waits for one fewer, and no other does
pub waiting_less : (parents : List (Option ℕ)) (order : List ℕ) (c p : ℕ) (parent : Option ℕ) → slice_get parents c ≡ Some parent → (Contains order c → ⊥) →
    waiting_for parents order p ≡ waiting_for parents (order ++ c ∷ []) p + cond (is_parent parent p) 1 0
waiting_less parents order c p parent at undone =
    weight_less (unfinished order) (unfinished (order ++ c ∷ [])) 0 parents p c c parent at (omega arith) less other
  where
    less : unfinished order c ≡ unfinished (order ++ c ∷ []) c + 1
    less = unfinished-yes order c undone ∙ ap (λ n. n + 1) (sym (unfinished-no (order ++ c ∷ []) c (Contains-push order c)))

    other : (k : ℕ) → (k ≡ c → ⊥) → unfinished order k ≡ unfinished (order ++ c ∷ []) k
    other k apart = elim (is_finished order k) [
      | inl there ↦ unfinished-no order k there ∙ sym (unfinished-no (order ++ c ∷ []) k (Contains-append_left order (c ∷ []) k there))
      | inr none ↦ unfinished-yes order k none ∙ sym (unfinished-yes (order ++ c ∷ []) k (λ pushed. elim (Contains-push_cases order c k pushed) [ inl there ↦ none there | inr is ↦ apart (sym is) ]))
    ]

-- the parent's own count, and that of any other
pub waiting_of_parent : (parents : List (Option ℕ)) (order : List ℕ) (c p : ℕ) → LiesIn parents c p → (Contains order c → ⊥) →
    waiting_for parents order p ≡ waiting_for parents (order ++ c ∷ []) p + 1
waiting_of_parent parents order c p lies undone =
    waiting_less parents order c p (Some p) lies undone ∙ ap (λ test. waiting_for parents (order ++ c ∷ []) p + cond test 1 0) (parent_is (Some p) p refl)

pub waiting_of_other : (parents : List (Option ℕ)) (order : List ℕ) (c p : ℕ) (parent : Option ℕ) → slice_get parents c ≡ Some parent → (parent ≡ Some p → ⊥) →
    (Contains order c → ⊥) → waiting_for parents order p ≡ waiting_for parents (order ++ c ∷ []) p
waiting_of_other parents order c p parent at other undone =
    let less = waiting_less parents order c p parent at undone in
    omega (arith, less, ap {B = ℕ} (λ test. cond test 1 0) (parent_other parent p other))

-- one waits for none exactly where all that lie in it are finished
pub waits_for_none : (parents : List (Option ℕ)) (finished : List ℕ) (p : ℕ) → ((k : ℕ) → LiesIn parents k p → Contains finished k) → waiting_for parents finished p ≡ 0
waits_for_none parents finished p all = weight_none (unfinished finished) 0 parents p (λ i k place at. unfinished-no finished k (all k (subst (λ n. LiesIn parents n p) {x = i} {y = k} (omega (arith, place)) at)))

pub all_are_finished : (parents : List (Option ℕ)) (finished : List ℕ) (p : ℕ) → waiting_for parents finished p ≡ 0 → (k : ℕ) → LiesIn parents k p → Contains finished k
all_are_finished parents finished p sum k lies = elim (is_finished finished k) [
  | inl there ↦ there
  | inr none ↦ absurd (omega (arith, unfinished-yes finished k none, weight_zero (unfinished finished) 0 parents p k k (omega arith) sum lies))
]

pub waiting_few : (parents : List (Option ℕ)) (finished : List ℕ) (p : ℕ) → waiting_for parents finished p ≤ length parents
waiting_few parents finished p = weight_few (unfinished finished) 0 parents p (unfinished-few finished)
