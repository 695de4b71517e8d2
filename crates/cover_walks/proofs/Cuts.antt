-- An order cut into chains.
use Rattle.std.proofs.Common.{◌≡◌, ℕ, ◌+◌, ◌<◌, List, [], ◌∷◌, inl, inr, refl, ap, arith, ◌∙◌, length}
use Rattle.std.specs.List.{concat, AllByRecursion}
use Rattle.std.proofs.lemmas.Bool.Decides.{eqb_tells}
use Rattle.rotation_systems.specs.RotationSystem.{RotationSystem, to}
use Rattle.cover_walks.specs.Chains.{IsSideChain, before_chains, chains_of}
use Rattle.cover_walks.specs.Walks.{breaks, differ}

module _ (g : RotationSystem) where
  concat_before : (a : ℕ) (chains : List (List ℕ)) → concat (before_chains g a chains) ≡ a ∷ concat chains
  concat_before a [] = refl
  concat_before a ([] ∷ rest) = refl
  concat_before a ((b ∷ chain) ∷ rest) = elim (eqb_tells (to g a) (g.from b)) [ inl h ↦ rw h.0 refl | inr h ↦ rw h.0 refl ]

  pub chains_concat : (l : List ℕ) → concat (chains_of g l) ≡ l
  chains_concat [] = refl
  chains_concat (a ∷ l) = concat_before a (chains_of g l) ∙ ap (λ k. a ∷ k) (chains_concat l)

  are_before : (a : ℕ) (chains : List (List ℕ)) → AllByRecursion (IsSideChain g) chains → AllByRecursion (IsSideChain g) (before_chains g a chains)
  are_before a [] h = (tt, tt)
  are_before a ([] ∷ rest) h = absurd h.0
  are_before a ((b ∷ chain) ∷ rest) h =
      elim (eqb_tells (to g a) (g.from b)) [ inl e ↦ rw e.0 (((e.1, h.0), h.1)) | inr e ↦ rw e.0 ((tt, h)) ]

  pub chains_are : (l : List ℕ) → AllByRecursion (IsSideChain g) (chains_of g l)
  chains_are [] = tt
  chains_are (a ∷ l) = are_before a (chains_of g l) (chains_are l)

  -- the first chain begins with a
  data Heads : ℕ → List (List ℕ) → Type 0 where
    head : {a : ℕ} {chain : List ℕ} {rest : List (List ℕ)} → Heads a ((a ∷ chain) ∷ rest)

  heads_before : (a : ℕ) (chains : List (List ℕ)) → Heads a (before_chains g a chains)
  heads_before a [] = head
  heads_before a ([] ∷ rest) = head
  heads_before a ((b ∷ chain) ∷ rest) = elim (eqb_tells (to g a) (g.from b)) [ inl e ↦ rw e.0 head | inr e ↦ rw e.0 head ]

  count_before : (a b : ℕ) (chains : List (List ℕ)) → Heads b chains → length (before_chains g a chains) ≡ length chains + differ (to g a) (g.from b)
  count_before a b chains (head {chain = chain} {rest = rest}) =
      elim (eqb_tells (to g a) (g.from b)) [ inl e ↦ rw e.0 (omega arith) | inr e ↦ rw e.0 (omega arith) ]

  count_from : (a : ℕ) (l : List ℕ) → length (chains_of g (a ∷ l)) ≡ breaks g (a ∷ l) + 1
  count_from a [] = refl
  count_from a (b ∷ l) =
      let e = count_before a b (chains_of g (b ∷ l)) (heads_before b (chains_of g l)) in
      let k = count_from b l in
      omega arith

  pub chains_count : (l : List ℕ) → 0 < length l → length (chains_of g l) ≡ breaks g l + 1
  chains_count [] some = absurd (omega arith)
  chains_count (a ∷ l) some = count_from a l
