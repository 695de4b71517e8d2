-- The scan: whose turn it is, and that all are finished once each has had its turn.
use Rattle.std.proofs.Common.{arith, ◌≡◌, ℕ, zero, suc, ◌+◌, ◌<◌, ◌≤◌, inl, inr, List, length, eq-or-lt_of_le, sym, subst, ◌∙◌}
use Rattle.std.specs.Prelude.{Contains, Option, Some, slice_get}
use Rattle.std.proofs.lemmas.Option.{same_Some, slice_get_within}
use Rattle.plate_nesting.specs.Order.{LiesIn, ParentsComeFirst, IsReadyAfter, IsBurningOrder}
use Rattle.burning_order.specs.Turns.{waiting_for, AreWaitedFor, HaveHadTurns}
use Rattle.burning_order.proofs.Waiting.{is_finished, waits_for_none, all_are_finished}

-- the count that stands in the list is the number of those waited for
pub count_is : (parents : List (Option ℕ)) (finished waiting : List ℕ) (p n : ℕ) → AreWaitedFor parents finished waiting → p < length parents →
    slice_get waiting p ≡ Some n → waiting_for parents finished p ≡ n
count_is parents finished waiting p n counted within at = same_Some (waiting_for parents finished p) n (sym (counted.each p within) ∙ at)

-- what is ready waits for none
pub ready_waits_for_none : (parents : List (Option ℕ)) (finished waiting : List ℕ) (p n : ℕ) → AreWaitedFor parents finished waiting → IsReadyAfter parents finished p →
    slice_get waiting p ≡ Some n → n ≡ 0
ready_waits_for_none parents finished waiting p n counted ready at =
    sym (count_is parents finished waiting p n counted ready.within at) ∙ waits_for_none parents finished p ready.children

-- the turn goes by of one that waits for others
pub turn_passes : (parents : List (Option ℕ)) (c : ℕ) (finished waiting : List ℕ) (n : ℕ) → HaveHadTurns parents c finished waiting → slice_get waiting c ≡ Some n → 0 < n →
    HaveHadTurns parents (c + 1) finished waiting
turn_passes parents c finished waiting n turn at some = record {
  front = turn.front;
  counted = turn.counted;
  had = λ d ready. later d ready (turn.had d ready);
  below = λ d there. omega (arith, turn.below d there);
}
  where
    not_this : IsReadyAfter parents finished c → ⊥
    not_this ready = omega (arith, some, ready_waits_for_none parents finished waiting c n turn.counted ready at)

    later : (d : ℕ) → IsReadyAfter parents finished d → c ≤ d → c + 1 ≤ d
    later d ready at_least = elim (eq-or-lt_of_le at_least) [ inl same ↦ absurd (not_this (subst (IsReadyAfter parents finished) (sym same) ready)) | inr less ↦ omega (arith, less) ]

-- one that waits for none is ready when its turn comes
pub leaf_is_ready : (parents : List (Option ℕ)) (c : ℕ) (finished waiting : List ℕ) → HaveHadTurns parents c finished waiting → c < length parents →
    slice_get waiting c ≡ Some 0 → IsReadyAfter parents finished c
leaf_is_ready parents c finished waiting turn within at = record {
  within = within;
  unfinished = λ there. omega (arith, turn.below c there);
  children = all_are_finished parents finished c (count_is parents finished waiting c 0 turn.counted within at);
}

-- once each has had its turn all are finished: of those that aren't, the greatest would be ready
pub all_are_burnt : (parents : List (Option ℕ)) (end : ℕ) (order waiting : List ℕ) → ParentsComeFirst parents → HaveHadTurns parents end order waiting → length parents ≤ end →
    IsBurningOrder parents order
all_are_burnt parents end order waiting first turn last = record {
  ready = turn.front.ready;
  least = turn.front.least;
  all = λ c within. from (length parents) c within (omega arith);
}
  where
    from : (left c : ℕ) → c < length parents → length parents ≤ c + left → Contains order c
    from zero c within far = absurd (omega (arith, within, far))
    from (suc left) c within far =
        let children : (k : ℕ) → LiesIn parents k c → Contains order k = λ k lies.
        from left k (slice_get_within parents k (Some c) lies) (omega (arith, first k c lies, far)) in
        elim (is_finished order c) [
          | inl there ↦ there
          | inr none ↦ absurd (omega (arith, within, last, turn.had c (record { within = within; unfinished = none; children = children })))
        ]
