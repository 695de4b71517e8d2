-- How many numbers have one origin: as many as there are places round it.
use Rattle.std.proofs.Common.{arith, ◌≡◌, ◌≢◌, ℕ, zero, suc, ◌<◌, ◌≤◌, ◌==◌, cond, inl, inr, List, [], ◌∷◌, length, refl, sym, ap, subst, ◌∙◌}
use Rattle.std.specs.Prelude.{AllPairs, Contains}
use Rattle.std.proofs.lemmas.Bool.{cases_eq, eq-eqb, ne_eqb}
use Rattle.std.proofs.lemmas.List.Kept.{AllPairs-cons}
use Rattle.nest_base.proofs.Lists.{Contains-head, Contains-later, Contains-cases, Contains-none, All-from_contains, AllPairs-none}
use Rattle.rotation_systems.specs.RotationSystem.{same, total}
use Rattle.half_edges.proofs.Fewer.{fewer-map}
use Rattle.half_edges.proofs.Cycles.{InCycles}

-- the numbers below n whose origin is v
abbrev pub with_origin : (ℕ → ℕ) → ℕ → ℕ → List ℕ
with_origin from v zero = []
with_origin from v (suc n) = cond (from n == v) (n ∷ with_origin from v n) (with_origin from v n)

taken : (from : ℕ → ℕ) (v n : ℕ) → from n ≡ v → with_origin from v (suc n) ≡ n ∷ with_origin from v n
taken from v n is = ap (λ b. cond b (n ∷ with_origin from v n) (with_origin from v n)) (eq-eqb (from n) v is)

passed : (from : ℕ → ℕ) (v n : ℕ) → from n ≢ v → with_origin from v (suc n) ≡ with_origin from v n
passed from v n other = ap (λ b. cond b (n ∷ with_origin from v n) (with_origin from v n)) (ne_eqb (from n) v other)

length-with_origin : (from : ℕ → ℕ) (v n : ℕ) → length (with_origin from v n) ≡ total (λ s. same (from s) v) n
length-with_origin from v zero = refl
length-with_origin from v (suc n) = elim (cases_eq (from n) v) [
  | inl is ↦
      let one : same (from n) v ≡ 1 = ap (λ b. cond b 1 0) (eq-eqb (from n) v is) in
      ap length (taken from v n is) ∙ omega (arith, one, length-with_origin from v n)
  | inr other ↦
      let none : same (from n) v ≡ 0 = ap (λ b. cond b 1 0) (ne_eqb (from n) v other) in
      ap length (passed from v n other) ∙ omega (arith, none, length-with_origin from v n)
]

with_origin-contains : (from : ℕ → ℕ) (v n s : ℕ) → Contains (with_origin from v n) s → (s < n) × (from s ≡ v)
with_origin-contains from v zero s c = absurd (Contains-none s c)
with_origin-contains from v (suc n) s c = elim (cases_eq (from n) v) [
  | inl is ↦ elim (Contains-cases n s (with_origin from v n) (subst (λ l. Contains l s) (taken from v n is) c)) [
    | inl e ↦ (omega (arith, e), ap from (sym e) ∙ is)
    | inr m ↦ let r = with_origin-contains from v n s m in (omega (arith, r.0), r.1)
  ]
  | inr other ↦ let r = with_origin-contains from v n s (subst (λ l. Contains l s) (passed from v n other) c) in (omega (arith, r.0), r.1)
]

contains-with_origin : (from : ℕ → ℕ) (v n s : ℕ) → s < n → from s ≡ v → Contains (with_origin from v n) s
contains-with_origin from v zero s h at = absurd (omega arith)
contains-with_origin from v (suc n) s h at = elim (cases_eq (from n) v) [
  | inl is ↦ subst (λ l. Contains l s) (sym (taken from v n is)) (elim (cases_eq n s) [
    | inl e ↦ subst (Contains (n ∷ with_origin from v n)) e (Contains-head n (with_origin from v n))
    | inr other ↦ Contains-later n s (with_origin from v n) (contains-with_origin from v n s (omega arith) at)
  ])
  | inr not ↦
      let below : s < n = elim (cases_eq n s) [ inl e ↦ absurd (not (ap from e ∙ at)) | inr other ↦ omega arith ] in
      subst (λ l. Contains l s) (sym (passed from v n not)) (contains-with_origin from v n s below at)
]

with_origin-apart : (from : ℕ → ℕ) (v n : ℕ) → AllPairs (λ s t. s ≢ t) (with_origin from v n)
with_origin-apart from v zero = AllPairs-none (λ (s t : ℕ). s ≢ t)
with_origin-apart from v (suc n) =
    let rest = with_origin from v n in
    elim (cases_eq (from n) v) [
      | inl is ↦ subst (AllPairs (λ s t. s ≢ t)) (sym (taken from v n is))
          (AllPairs-cons (λ s t. s ≢ t) n rest (All-from_contains (λ s. n ≢ s) rest (λ s c e. omega (arith, e, (with_origin-contains from v n s c).0))) (with_origin-apart from v n))
      | inr other ↦ subst (AllPairs (λ s t. s ≢ t)) (sym (passed from v n other)) (with_origin-apart from v n)
    ]

-- the numbers below n, all of them
abbrev all_below : ℕ → List ℕ
all_below n = with_origin (λ _. 0) 0 n

length-all_below : (n : ℕ) → length (all_below n) ≡ n
length-all_below zero = refl
length-all_below (suc n) = omega (arith, length-all_below n)

module _ {n : ℕ} {origin place degree : ℕ → ℕ} {member : ℕ → ℕ → ℕ} (cycles : InCycles n origin place degree member) (r : ℕ) (below : r < n) where
  within : (s : ℕ) → Contains (with_origin origin (origin r) n) s → place s < degree (origin r)
  within s c = let h = with_origin-contains origin (origin r) n s c in subst (λ v. place s < degree v) h.1 (cycles.place_below s h.0)

  stands : (s : ℕ) → Contains (with_origin origin (origin r) n) s → member (origin r) (place s) ≡ s
  stands s c = let h = with_origin-contains origin (origin r) n s c in ap (λ v. member v (place s)) (sym h.1) ∙ cycles.is_member s h.0

  not_more : length (with_origin origin (origin r) n) ≤ length (all_below (degree (origin r)))
  not_more = fewer-map place (with_origin origin (origin r) n) (all_below (degree (origin r))) (with_origin-apart origin (origin r) n)
      (λ s t c d e. sym (stands s c) ∙ ap (member (origin r)) e ∙ stands t d)
      (λ s c. contains-with_origin (λ _. 0) 0 (degree (origin r)) (place s) (within s c) refl)

  place_in : (k : ℕ) → Contains (all_below (degree (origin r))) k → k < degree (origin r)
  place_in k c = (with_origin-contains (λ _. 0) 0 (degree (origin r)) k c).0

  not_fewer : length (all_below (degree (origin r))) ≤ length (with_origin origin (origin r) n)
  not_fewer = fewer-map (member (origin r)) (all_below (degree (origin r))) (with_origin origin (origin r) n) (with_origin-apart (λ _. 0) 0 (degree (origin r)))
      (λ j k c d e. sym (cycles.its_place r j below (place_in j c)) ∙ ap place e ∙ cycles.its_place r k below (place_in k d))
      (λ k c. contains-with_origin origin (origin r) n (member (origin r) k) (cycles.member_below r k below (place_in k c)) (cycles.same_origin r k below (place_in k c)))

  -- as many have the origin of r as there are places
  pub total-origin : total (λ s. same (origin s) (origin r)) n ≡ degree (origin r)
  total-origin = omega (arith, not_more, not_fewer, length-with_origin origin (origin r) n, length-all_below (degree (origin r)))
