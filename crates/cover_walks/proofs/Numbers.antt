-- Equal numbers as 1 and 0, and sums in which the function changes at a place or two.
use Rattle.std.proofs.Common.{◌≡◌, ℕ, ◌<◌, ◌≢◌, ◌+◌, ◌*◌, ◌⊎◌, inl, inr, refl, sym, ap, arith, ◌∙◌, cond, zero, suc}
use Rattle.std.proofs.lemmas.Bool.Decides.{eqb_tells}
use Rattle.std.proofs.lemmas.Bool.{eq-eqb}
use Rattle.rotation_systems.specs.RotationSystem.{same, total}
use Rattle.cover_walks.specs.Walks.{differ}

pub same_tells : (u v : ℕ) → ((u ≡ v) × (same u v ≡ 1)) ⊎ ((u ≢ v) × (same u v ≡ 0))
same_tells u v = elim (eqb_tells u v) [ inl h ↦ inl (h.1, ap (λ b. cond b 1 0) h.0) | inr h ↦ inr (h.1, ap (λ b. cond b 1 0) h.0) ]

pub differ_tells : (u v : ℕ) → ((u ≡ v) × (differ u v ≡ 0)) ⊎ ((u ≢ v) × (differ u v ≡ 1))
differ_tells u v = elim (eqb_tells u v) [ inl h ↦ inl (h.1, ap (λ b. cond b 0 1) h.0) | inr h ↦ inr (h.1, ap (λ b. cond b 0 1) h.0) ]

pub same_same : (u v : ℕ) → u ≡ v → same u v ≡ 1
same_same u v e = ap (λ b. cond b 1 0) (eq-eqb u v e)

pub same_other : (u v : ℕ) → u ≢ v → same u v ≡ 0
same_other u v n = elim (same_tells u v) [ inl h ↦ absurd (n h.0) | inr h ↦ h.1 ]

pub differ_same : (u v : ℕ) → u ≡ v → differ u v ≡ 0
differ_same u v e = ap (λ b. cond b 0 1) (eq-eqb u v e)

-- functions that agree have one sum
pub total_ext : (f h : ℕ → ℕ) (n : ℕ) → ((s : ℕ) → s < n → f s ≡ h s) → total f n ≡ total h n
total_ext f h zero e = refl
total_ext f h (suc n) e =
    let here : f n ≡ h n = e n (omega arith) in
    let rest : total f n ≡ total h n = total_ext f h n (λ s b. e s (omega arith)) in
    omega arith

pub total_none : (f : ℕ → ℕ) (n : ℕ) → ((s : ℕ) → s < n → f s ≡ 0) → total f n ≡ 0
total_none f zero e = refl
total_none f (suc n) e =
    let here : f n ≡ 0 = e n (omega arith) in
    let rest : total f n ≡ 0 = total_none f n (λ s b. e s (omega arith)) in
    omega arith

pub total_ones : (n : ℕ) → total (λ s. 1) n ≡ n
total_ones zero = refl
total_ones (suc n) = let e = total_ones n in omega arith

-- f with 0 for its value at a
abbrev pub without : (ℕ → ℕ) → ℕ → ℕ → ℕ
without f a s = (differ s a) * f s

pub without_other : (f : ℕ → ℕ) (a s : ℕ) → s ≢ a → without f a s ≡ f s
without_other f a s n = elim (differ_tells s a) [ inl h ↦ absurd (n h.0) | inr h ↦ rw h.1 (omega arith) ]

pub without_same : (f : ℕ → ℕ) (a s : ℕ) → s ≡ a → without f a s ≡ 0
without_same f a s e = rw (differ_same s a e) (omega arith)

pub total_without : (f : ℕ → ℕ) (a n : ℕ) → a < n → total f n ≡ total (without f a) n + f a
total_without f a zero b = absurd (omega arith)
total_without f a (suc n) b =
    elim (differ_tells n a) [
      | inl h ↦
          let rest : total (without f a) n ≡ total f n = total_ext (without f a) f n (λ s k. without_other f a s (λ e. omega (arith, h.0))) in
          let here : without f a n ≡ 0 = without_same f a n h.0 in
          let is : f n ≡ f a = ap f h.0 in
          omega arith
      | inr h ↦
          let less : a < n = omega (arith, h.0) in
          let rest : total f n ≡ total (without f a) n + f a = total_without f a n less in
          let here : without f a n ≡ f n = without_other f a n h.0 in
          omega arith
    ]

-- functions that agree but at two places
pub total_two : (f h : ℕ → ℕ) (x y n : ℕ) → x < n → y < n → x ≢ y → ((s : ℕ) → s ≢ x → s ≢ y → f s ≡ h s) →
    total f n + (h x + h y) ≡ total h n + (f x + f y)
total_two f h x y n bx by apart e =
    let f1 = total_without f x n bx in
    let f2 = total_without (without f x) y n by in
    let h1 = total_without h x n bx in
    let h2 = total_without (without h x) y n by in
    let fy : without f x y ≡ f y = without_other f x y (λ q. apart (sym q)) in
    let hy : without h x y ≡ h y = without_other h x y (λ q. apart (sym q)) in
    let rest : total (without (without f x) y) n ≡ total (without (without h x) y) n =
    total_ext (without (without f x) y) (without (without h x) y) n (λ s k. agree s) in
    omega arith
  where
    agree : (s : ℕ) → without (without f x) y s ≡ without (without h x) y s
    agree s = elim (differ_tells s y) [
      | inl p ↦ without_same (without f x) y s p.0 ∙ sym (without_same (without h x) y s p.0)
      | inr p ↦ elim (differ_tells s x) [
        | inl q ↦ without_other (without f x) y s p.0 ∙ (without_same f x s q.0 ∙ (sym (without_same h x s q.0) ∙ sym (without_other (without h x) y s p.0)))
        | inr q ↦ without_other (without f x) y s p.0 ∙ (without_other f x s q.0 ∙ (e s q.0 p.0 ∙ (sym (without_other h x s q.0) ∙ sym (without_other (without h x) y s p.0))))
      ]
    ]
