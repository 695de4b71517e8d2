-- From a leaf outward: each component that becomes ready is the parent of the one that was burnt last.
use Rattle.std.proofs.Common.{arith, ◌≡◌, ℕ, ◌+◌, ◌-◌, ◌<◌, ◌≤◌, ◌⊎◌, inl, inr, List, [], ◌∷◌, ◌++◌, length, get_or, set, length-set, le_of_eq, eq-or-lt_of_le, sym, ap, subst, ◌∙◌}
use Rattle.std.specs.Prelude.{Contains, Option, None, Some, slice_get}
use Rattle.std.proofs.lemmas.Option.{same_Some, none-some, slice_get_within, slice_get-get_or}
use Rattle.std.proofs.lemmas.Bool.Decides.{eqb_tells}
use Rattle.std.proofs.lemmas.List.Elements.{Contains-push_cases, Contains-push}
use Rattle.plate_nesting.specs.Order.{LiesIn, ParentsComeFirst, IsReadyAfter, IsFront}
use Rattle.burning_order.specs.Turns.{waiting_for, AreWaitedFor, HaveHadTurns}
use Rattle.plate_nesting.proofs.Fronts.{front_goes_on, ready_before, children_are_finished}
use Rattle.burning_order.proofs.Waiting.{waiting_of_parent, waiting_of_other, all_are_finished}
use Rattle.nest_base.proofs.ListReads.{read_written, read_unwritten}
use Rattle.burning_order.proofs.Scan.{count_is, ready_waits_for_none}

-- c is ready, and no other up to the leaf
pub record IsNextOf (parents : List (Option ℕ)) (leaf c : ℕ) (finished waiting : List ℕ) : Type 0 where
  pub front : IsFront parents finished
  pub counted : AreWaitedFor parents finished waiting
  pub ready : IsReadyAfter parents finished c
  pub others : (d : ℕ) → IsReadyAfter parents finished d → (c ≡ d) ⊎ (leaf < d)
  pub reached : c ≤ leaf
  pub below : (d : ℕ) → Contains finished d → d ≤ leaf

-- c lies in p, whose count is n
pub record HasCountFor (parents : List (Option ℕ)) (waiting : List ℕ) (c p n : ℕ) : Type 0 where
  pub lies : LiesIn parents c p
  pub within : p < length parents
  pub read : slice_get waiting p ≡ Some n

-- c is finished, and no other than its parent is ready up to the leaf
record IsBurnt (parents : List (Option ℕ)) (leaf c : ℕ) (finished : List ℕ) : Type 0 where
  pub front : IsFront parents finished
  pub others : (d : ℕ) → IsReadyAfter parents finished d → LiesIn parents c d ⊎ (leaf < d)
  pub below : (d : ℕ) → Contains finished d → d ≤ leaf

pub leaf_is_next : (parents : List (Option ℕ)) (leaf : ℕ) (finished waiting : List ℕ) → HaveHadTurns parents leaf finished waiting → IsReadyAfter parents finished leaf →
    IsNextOf parents leaf leaf finished waiting
leaf_is_next parents leaf finished waiting turn ready = record {
  front = turn.front;
  counted = turn.counted;
  ready = ready;
  others = λ d ready_d. eq-or-lt_of_le (turn.had d ready_d);
  reached = omega arith;
  below = λ d there. omega (arith, turn.below d there);
}

-- a component has one parent
one_parent : (parents : List (Option ℕ)) (c p d : ℕ) → LiesIn parents c p → LiesIn parents c d → p ≡ d
one_parent parents c p d lies others = same_Some p d (same_Some (Some p) (Some d) (sym lies ∙ others))

-- whether d is a parent
lies_or_not : (parent : Option (Option ℕ)) (d : ℕ) → (parent ≡ Some (Some d)) ⊎ (parent ≡ Some (Some d) → ⊥)
lies_or_not None d = inr (λ e. none-some (Some d) e)
lies_or_not (Some None) d = inr (λ e. none-some d (same_Some None (Some d) e))
lies_or_not (Some (Some p)) d = elim (eqb_tells p d) [
  | inl (test, same) ↦ inl (ap (λ n. Some (Some n)) same)
  | inr (test, other) ↦ inr (λ e. other (same_Some p d (same_Some (Some p) (Some d) e)))
]

-- after the push of c
burnt : (parents : List (Option ℕ)) (leaf c : ℕ) (finished waiting : List ℕ) → IsNextOf parents leaf c finished waiting → IsBurnt parents leaf c (finished ++ c ∷ [])
burnt parents leaf c finished waiting next = record {
  front = front_goes_on parents finished c next.front next.ready (λ d ready. elim (next.others d ready) [ inl same ↦ le_of_eq same | inr less ↦ omega (arith, less, next.reached) ]);
  others = λ d ready. elim (lies_or_not (slice_get parents c) d) [
    | inl lies ↦ inl lies
    | inr other ↦ elim (next.others d (ready_before parents finished c d ready other)) [
      | inl same ↦ absurd (ready.unfinished (subst (Contains (finished ++ c ∷ [])) same (Contains-push finished c)))
      | inr less ↦ inr less
    ]
  ];
  below = λ d there. elim (Contains-push_cases finished c d there) [ inl before ↦ next.below d before | inr is ↦ subst (λ n. n ≤ leaf) is next.reached ];
}

-- the parent of the one that was burnt last waits for one fewer
waited_less : (parents : List (Option ℕ)) (finished waiting : List ℕ) (c p n : ℕ) → AreWaitedFor parents finished waiting → HasCountFor parents waiting c p n →
    (Contains finished c → ⊥) → AreWaitedFor parents (finished ++ c ∷ []) (set waiting p (n - 1))
waited_less parents finished waiting c p n counted parent undone = record {
  as_many = length-set waiting p (n - 1) ∙ counted.as_many;
  each = λ q q_within. elim (eqb_tells q p) [
    | inl (test, same) ↦ subst (λ k. slice_get (set waiting p (n - 1)) k ≡ Some (waiting_for parents (finished ++ c ∷ []) k)) (sym same)
        (read_written waiting p (n - 1) (slice_get_within waiting p n parent.read) ∙ ap Some less)
    | inr (test, other) ↦ read_unwritten waiting p q (n - 1) other ∙ counted.each q q_within
        ∙ ap Some (waiting_of_other parents finished c q (Some p) parent.lies (λ e. other (sym (same_Some p q e))) undone)
  ];
}
  where
    less : n - 1 ≡ waiting_for parents (finished ++ c ∷ []) p
    less = omega (arith, count_is parents finished waiting p n counted parent.within parent.read, waiting_of_parent parents finished c p parent.lies undone)

-- one without a parent isn't waited for
waited_same : (parents : List (Option ℕ)) (finished waiting : List ℕ) (c : ℕ) → AreWaitedFor parents finished waiting → slice_get parents c ≡ Some None →
    (Contains finished c → ⊥) → AreWaitedFor parents (finished ++ c ∷ []) waiting
waited_same parents finished waiting c counted at undone = record {
  as_many = counted.as_many;
  each = λ q within. counted.each q within ∙ ap Some (waiting_of_other parents finished c q None at (none-some q) undone);
}

-- a parent waits for the one that is burnt
pub parent_waits : (parents : List (Option ℕ)) (leaf c p n : ℕ) (finished waiting : List ℕ) → IsNextOf parents leaf c finished waiting → HasCountFor parents waiting c p n → 0 < n
parent_waits parents leaf c p n finished waiting next parent =
    omega (arith, count_is parents finished waiting p n next.counted parent.within parent.read, waiting_of_parent parents finished c p parent.lies next.ready.unfinished)

-- the outermost is burnt: the next turn
pub outermost : (parents : List (Option ℕ)) (leaf c : ℕ) (finished waiting : List ℕ) → IsNextOf parents leaf c finished waiting → slice_get parents c ≡ Some None →
    HaveHadTurns parents (leaf + 1) (finished ++ c ∷ []) waiting
outermost parents leaf c finished waiting next at =
    let now = burnt parents leaf c finished waiting next in
    record {
      front = now.front;
      counted = waited_same parents finished waiting c next.counted at next.ready.unfinished;
      had = λ d ready. elim (now.others d ready) [ inl lies ↦ absurd (none-some d (same_Some None (Some d) (sym at ∙ lies))) | inr less ↦ omega (arith, less) ];
      below = λ d there. omega (arith, now.below d there);
    }

-- the parent's count once c is burnt
count_left : (parents : List (Option ℕ)) (waiting : List ℕ) (c p n : ℕ) → HasCountFor parents waiting c p n →
    slice_get (set waiting p (n - 1)) p ≡ Some (get_or (set waiting p (n - 1)) p 0)
count_left parents waiting c p n parent =
    slice_get-get_or (set waiting p (n - 1)) p 0 (omega (arith, slice_get_within waiting p n parent.read, length-set waiting p (n - 1)))

-- the parent waits for others: the next turn
pub parent_not_ready : (parents : List (Option ℕ)) (leaf c p n : ℕ) (finished waiting : List ℕ) → IsNextOf parents leaf c finished waiting → HasCountFor parents waiting c p n →
    0 < get_or (set waiting p (n - 1)) p 0 → HaveHadTurns parents (leaf + 1) (finished ++ c ∷ []) (set waiting p (n - 1))
parent_not_ready parents leaf c p n finished waiting next parent some =
    let now = burnt parents leaf c finished waiting next in
    let counted = waited_less parents finished waiting c p n next.counted parent next.ready.unfinished in
    let not_ready : IsReadyAfter parents (finished ++ c ∷ []) p → ⊥ = λ ready.
    omega (arith, some, ready_waits_for_none parents (finished ++ c ∷ []) (set waiting p (n - 1)) p _ counted ready (count_left parents waiting c p n parent)) in
    record {
      front = now.front;
      counted = counted;
      had = λ d ready. elim (now.others d ready) [
        | inl lies ↦ absurd (not_ready (subst (IsReadyAfter parents (finished ++ c ∷ [])) (sym (one_parent parents c p d parent.lies lies)) ready))
        | inr less ↦ omega (arith, less)
      ];
      below = λ d there. omega (arith, now.below d there);
    }

-- the parent is ready, and goes on
pub parent_is_next : (parents : List (Option ℕ)) (leaf c p n : ℕ) (finished waiting : List ℕ) → ParentsComeFirst parents → IsNextOf parents leaf c finished waiting →
    HasCountFor parents waiting c p n → get_or (set waiting p (n - 1)) p 0 ≡ 0 → IsNextOf parents leaf p (finished ++ c ∷ []) (set waiting p (n - 1))
parent_is_next parents leaf c p n finished waiting first next parent none =
    let now = burnt parents leaf c finished waiting next in
    let counted = waited_less parents finished waiting c p n next.counted parent next.ready.unfinished in
    record {
      front = now.front;
      counted = counted;
      ready = record {
        within = parent.within;
        unfinished = λ there. elim (Contains-push_cases finished c p there) [
          | inl before ↦ next.ready.unfinished (children_are_finished parents finished p c next.front before parent.lies)
          | inr is ↦ omega (arith, is, first c p parent.lies)
        ];
        children = all_are_finished parents (finished ++ c ∷ []) p
            (count_is parents (finished ++ c ∷ []) (set waiting p (n - 1)) p 0 counted parent.within (count_left parents waiting c p n parent ∙ ap Some none));
      };
      others = λ d ready. elim (now.others d ready) [ inl lies ↦ inl (one_parent parents c p d parent.lies lies) | inr less ↦ inr less ];
      reached = omega (arith, first c p parent.lies, next.reached);
      below = now.below;
    }
