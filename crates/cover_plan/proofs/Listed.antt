-- Sums of ones and zeros count things.
use Rattle.std.proofs.Common.{arith, ◌≡◌, ◌≢◌, ◌⊎◌, inl, inr, ℕ, zero, suc, ◌<◌, List, [], ◌∷◌, length, refl, sym, subst, ◌∙◌}
use Rattle.std.specs.Prelude.{Contains, AllPairs}
use Rattle.std.proofs.lemmas.Bool.{cases_eq}
use Rattle.std.proofs.lemmas.List.Kept.{AllPairs-cons}
use Rattle.nest_base.proofs.Lists.{Contains-head, Contains-later, Contains-cases, Contains-none, All-from_contains, AllPairs-none}
use Rattle.rotation_systems.specs.RotationSystem.{total}

-- the things that stand for the numbers below k with a property, each once, as many as a sum says
pub record Listed (X : Type 0) (image : ℕ → X) (Q : ℕ → Type 0) (f : ℕ → ℕ) (k : ℕ) : Type 0 where
  pub list : List X
  pub as_many : length list ≡ total f k
  pub each_once : AllPairs (λ x y. x ≢ y) list
  pub stand : (x : X) → Contains list x → (s : ℕ) × (s < k) × (image s ≡ x) × Q s
  pub every : (s : ℕ) → s < k → Q s → Contains list (image s)

-- f is 1 for what has the property, and 0 for what hasn't
abbrev pub Tells : (ℕ → Type 0) → (ℕ → ℕ) → ℕ → Type 0
Tells Q f s = (Q s × (f s ≡ 1)) ⊎ ((Q s → ⊥) × (f s ≡ 0))

-- the numbers below k have an image each
abbrev pub HaveImages : (X : Type 0) → (ℕ → X) → ℕ → Type 0
HaveImages X image k = (s t : ℕ) → s < k → t < k → image s ≡ image t → s ≡ t

module _ (X : Type 0) (image : ℕ → X) (Q : ℕ → Type 0) (f : ℕ → ℕ) where
  one_more : (k : ℕ) → Q k → f k ≡ 1 → HaveImages X image (suc k) → Listed X image Q f k → Listed X image Q f (suc k)
  one_more k has at one rest = record {
    list = image k ∷ rest.list;
    as_many = let n = rest.as_many in omega (arith, n, at);
    each_once = AllPairs-cons (λ x y. x ≢ y) (image k) rest.list (All-from_contains (λ x. image k ≢ x) rest.list apart) rest.each_once;
    stand = λ x m. elim (Contains-cases (image k) x rest.list m) [
      | inl e ↦ (k, omega arith, e, has)
      | inr l ↦ let s = rest.stand x l in let b = s.1 in (s.0, omega (arith, b), s.2, s.3)
    ];
    every = λ s h q. elim (cases_eq s k) [
      | inl e ↦ subst (λ t. Contains (image k ∷ rest.list) (image t)) (sym e) (Contains-head (image k) rest.list)
      | inr other ↦ Contains-later (image k) (image s) rest.list (rest.every s (omega (arith, h, other)) q)
    ];
  }
    where
      apart : (x : X) → Contains rest.list x → image k ≢ x
      apart x m same =
          let s = rest.stand x m in
          let b = s.1 in
          let e : k ≡ s.0 = one k s.0 (omega arith) (omega (arith, b)) (same ∙ sym s.2) in
          absurd (omega (arith, e, b))

  no_more : (k : ℕ) → (Q k → ⊥) → f k ≡ 0 → Listed X image Q f k → Listed X image Q f (suc k)
  no_more k not at rest = record {
    list = rest.list;
    as_many = let n = rest.as_many in omega (arith, n, at);
    each_once = rest.each_once;
    stand = λ x m. let s = rest.stand x m in let b = s.1 in (s.0, omega (arith, b), s.2, s.3);
    every = λ s h q. elim (cases_eq s k) [
      | inl e ↦ absurd (not (subst Q e q))
      | inr other ↦ rest.every s (omega (arith, h, other)) q
    ];
  }

  pub listed : (k : ℕ) → ((s : ℕ) → s < k → Tells Q f s) → HaveImages X image k → Listed X image Q f k
  listed zero tells one = record {
    list = [];
    as_many = refl;
    each_once = AllPairs-none (λ x y. x ≢ y);
    stand = λ x m. absurd (Contains-none x m);
    every = λ s h q. absurd (omega arith);
  }
  listed (suc k) tells one =
      let rest = listed k (λ s h. tells s (omega arith)) (λ s t h j e. one s t (omega arith) (omega arith) e) in
      elim (tells k (omega arith)) [
        | inl has ↦ one_more k has.0 has.1 one rest
        | inr not ↦ no_more k not.0 not.1 rest
      ]
