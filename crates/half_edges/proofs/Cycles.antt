-- Numbers that stand in cycles: each has an origin, and a place round it.
use Rattle.std.proofs.Common.{arith, ◌≡◌, ℕ, zero, suc, ◌+◌, ◌-◌, ◌<◌, inl, inr, refl, sym, ap, subst, ◌∙◌}
use Rattle.std.proofs.lemmas.Bool.{cases_lt}
use Rattle.std.proofs.lemmas.Bool.Decides.{nat_tests}
use Rattle.half_edges.specs.Graph.{next_place, place_before}

next_below : (n k : ℕ) → k < n → next_place n k < n
next_below n k h = grind (arith, nat_tests)

pub before_below : (n k : ℕ) → k < n → place_before n k < n
before_below n k h = grind (arith, nat_tests)

before_next : (n k : ℕ) → k < n → place_before n (next_place n k) ≡ k
before_next n k h = grind (arith, nat_tests)

next_before : (n k : ℕ) → k < n → next_place n (place_before n k) ≡ k
next_before n k h = grind (arith, nat_tests)

next_rises : (n k : ℕ) → k + 1 < n → next_place n k ≡ k + 1
next_rises n k h = grind (arith, nat_tests)

next_turns : (n k : ℕ) → k + 1 ≡ n → next_place n k ≡ 0
next_turns n k h = grind (arith, nat_tests)

-- the numbers below n, with what stands at each place round each origin
pub record InCycles (n : ℕ) (origin place degree : ℕ → ℕ) (member : ℕ → ℕ → ℕ) : Type 0 where
  pub place_below : (s : ℕ) → s < n → place s < degree (origin s)
  pub is_member : (s : ℕ) → s < n → member (origin s) (place s) ≡ s
  pub member_below : (s k : ℕ) → s < n → k < degree (origin s) → member (origin s) k < n
  pub same_origin : (s k : ℕ) → s < n → k < degree (origin s) → origin (member (origin s) k) ≡ origin s
  pub its_place : (s k : ℕ) → s < n → k < degree (origin s) → place (member (origin s) k) ≡ k

module _ {n : ℕ} {origin place degree : ℕ → ℕ} {member : ℕ → ℕ → ℕ} (cycles : InCycles n origin place degree member) where
  abbrev pub after : ℕ → ℕ
  after s = member (origin s) (next_place (degree (origin s)) (place s))

  abbrev pub ahead : ℕ → ℕ
  ahead s = member (origin s) (place_before (degree (origin s)) (place s))

  pub after_below : (s : ℕ) → s < n → after s < n
  after_below s h = cycles.member_below s _ h (next_below _ _ (cycles.place_below s h))

  pub ahead_below : (s : ℕ) → s < n → ahead s < n
  ahead_below s h = cycles.member_below s _ h (before_below _ _ (cycles.place_below s h))

  pub after_origin : (s : ℕ) → s < n → origin (after s) ≡ origin s
  after_origin s h = cycles.same_origin s _ h (next_below _ _ (cycles.place_below s h))

  pub ahead_origin : (s : ℕ) → s < n → origin (ahead s) ≡ origin s
  ahead_origin s h = cycles.same_origin s _ h (before_below _ _ (cycles.place_below s h))

  after_place : (s : ℕ) → s < n → place (after s) ≡ next_place (degree (origin s)) (place s)
  after_place s h = cycles.its_place s _ h (next_below _ _ (cycles.place_below s h))

  ahead_place : (s : ℕ) → s < n → place (ahead s) ≡ place_before (degree (origin s)) (place s)
  ahead_place s h = cycles.its_place s _ h (before_below _ _ (cycles.place_below s h))

  pub ahead_after : (s : ℕ) → s < n → ahead (after s) ≡ s
  ahead_after s h = rw (after_origin s h, after_place s h, before_next (degree (origin s)) (place s) (cycles.place_below s h)) (cycles.is_member s h)

  pub after_ahead : (s : ℕ) → s < n → after (ahead s) ≡ s
  after_ahead s h = rw (ahead_origin s h, ahead_place s h, next_before (degree (origin s)) (place s) (cycles.place_below s h)) (cycles.is_member s h)

  -- k steps on
  abbrev pub steps : ℕ → ℕ → ℕ
  steps zero r = r
  steps (suc k) r = after (steps k r)

  -- one step on from the member at a place
  step_from : (r k : ℕ) → r < n → k < degree (origin r) → after (member (origin r) k) ≡ member (origin r) (next_place (degree (origin r)) k)
  step_from r k h below = rw (cycles.same_origin r k h below, cycles.its_place r k h below) refl

  rising : (r m k : ℕ) → r < n → place r + m ≡ k → k < degree (origin r) → steps m r ≡ member (origin r) k
  rising r zero k h at below =
      let here : place r ≡ k = omega (arith, at) in
      sym (cycles.is_member r h) ∙ ap (member (origin r)) here
  rising r (suc m) k h at below =
      let next = next_rises (degree (origin r)) (place r + m) (omega (arith, at, below)) in
      let reached : place r + m + 1 ≡ k = omega (arith, at) in
      ap after (rising r m (place r + m) h refl (omega (arith, at, below)))
      ∙ step_from r (place r + m) h (omega (arith, at, below))
      ∙ ap (member (origin r)) (next ∙ reached)

  -- past the last place to the first ones
  turning : (r m k : ℕ) → r < n → place r + m ≡ degree (origin r) + k → k < degree (origin r) → steps m r ≡ member (origin r) k
  turning r zero k h at below = absurd (omega (arith, at, cycles.place_below r h))
  turning r (suc m) zero h at below =
      ap after (rising r m (place r + m) h refl (omega (arith, at)))
      ∙ step_from r (place r + m) h (omega (arith, at))
      ∙ ap (member (origin r)) (next_turns (degree (origin r)) (place r + m) (omega (arith, at)))
  turning r (suc m) (suc k) h at below =
      let next : next_place (degree (origin r)) k ≡ suc k = next_rises (degree (origin r)) k (omega arith) ∙ omega arith in
      ap after (turning r m k h (omega (arith, at)) (omega (arith, below)))
      ∙ step_from r k h (omega (arith, below))
      ∙ ap (member (origin r)) next

  -- each number of one origin is met within one turn
  pub all_met : (r s : ℕ) → r < n → s < n → origin s ≡ origin r → (k : ℕ) × (k < degree (origin r)) × (steps (suc k) r ≡ s)
  all_met r s below_r below_s same =
      let d = degree (origin r) in
      let within : place s < d = subst (λ v. place s < degree v) same (cycles.place_below s below_s) in
      let here : member (origin r) (place s) ≡ s = ap (λ v. member v (place s)) (sym same) ∙ cycles.is_member s below_s in
      elim (cases_lt (place r) (place s)) [
        | inl less ↦
            let k = place s - place r - 1 in
            (k, omega (arith, within), rising r (suc k) (place s) below_r (omega (arith, less)) within ∙ here)
        | inr least ↦
            let k = d + place s - place r - 1 in
            (k, omega (arith, within, least), turning r (suc k) (place s) below_r (omega (arith, cycles.place_below r below_r)) within ∙ here)
      ]
