-- The first chain of an order, and those behind it.
use Rattle.std.proofs.Common.{arith, ◌≡◌, ◌⊎◌, ◌<◌, ◌+◌, ◌-◌, inl, inr, ℕ, zero, suc, Bool, true, false, List, [], ◌∷◌, length, get_or, take, drop, refl, sym, ap, ◌∙◌}
use Rattle.std.proofs.lemmas.List.{drop-drop}
use Rattle.rotation_systems.specs.RotationSystem.{RotationSystem, to}
use Rattle.cover_walks.specs.Chains.{before_chains, chains_of}
use Rattle.oe_cover.specs.Cuts.{chain_length, before_by, chains_by, meets}

says_or_denies : (b : Bool) → (b ≡ true) ⊎ (b ≡ false)
says_or_denies true = inl refl
says_or_denies false = inr refl

module _ (rule : ℕ → ℕ → Bool) (g : RotationSystem) where
  -- chains that begin with a
  data BeginsWith : ℕ → List (List ℕ) → Type 0 where
    begins : {a : ℕ} {chain : List ℕ} {rest : List (List ℕ)} → BeginsWith a ((a ∷ chain) ∷ rest)

  begins_before : (a : ℕ) (chains : List (List ℕ)) → BeginsWith a (before_by rule g a chains)
  begins_before a [] = begins
  begins_before a ([] ∷ rest) = begins
  begins_before a ((b ∷ chain) ∷ rest) = elim (says_or_denies (rule (to g a) (g.from b))) [ inl says ↦ rw says begins | inr denies ↦ rw denies begins ]

  -- a chain goes on where the rule says so
  goes_on : (a b : ℕ) (rest : List ℕ) → rule (to g a) (g.from b) ≡ true → chain_length rule g (a ∷ b ∷ rest) ≡ suc (chain_length rule g (b ∷ rest))
  goes_on a b rest says = rw says refl

  breaks_off : (a b : ℕ) (rest : List ℕ) → rule (to g a) (g.from b) ≡ false → chain_length rule g (a ∷ b ∷ rest) ≡ 1
  breaks_off a b rest denies = rw denies refl

  before_broken : (a b : ℕ) (chains : List (List ℕ)) → rule (to g a) (g.from b) ≡ false → BeginsWith b chains → before_by rule g a chains ≡ (a ∷ []) ∷ chains
  before_broken a b chains denies (begins {chain = chain} {rest = rest}) = rw denies refl

  before_followed : (a b : ℕ) (chain : List ℕ) (rest : List (List ℕ)) → rule (to g a) (g.from b) ≡ true → before_by rule g a ((b ∷ chain) ∷ rest) ≡ (a ∷ b ∷ chain) ∷ rest
  before_followed a b chain rest says = rw says refl

  pub chain_length-some : (a : ℕ) (rest : List ℕ) → 0 < chain_length rule g (a ∷ rest)
  chain_length-some a [] = omega arith
  chain_length-some a (b ∷ rest) = elim (says_or_denies (rule (to g a) (g.from b))) [ inl says ↦ rw says (omega arith) | inr denies ↦ rw denies (omega arith) ]

  -- a before a chain of at least one half-edge, at whose first one it goes on
  joined_on : (a b : ℕ) (rest : List ℕ) → rule (to g a) (g.from b) ≡ true → (n : ℕ) → 0 < n →
      before_by rule g a (take n (b ∷ rest) ∷ chains_by rule g (drop n (b ∷ rest))) ≡ take (suc n) (a ∷ b ∷ rest) ∷ chains_by rule g (drop (suc n) (a ∷ b ∷ rest))
  joined_on a b rest says zero some = absurd (omega arith)
  joined_on a b rest says (suc n) some = before_followed a b (take n rest) (chains_by rule g (drop n rest)) says

  -- the first chain, then the others
  pub first_chain : (a : ℕ) (rest : List ℕ) →
      chains_by rule g (a ∷ rest) ≡ take (chain_length rule g (a ∷ rest)) (a ∷ rest) ∷ chains_by rule g (drop (chain_length rule g (a ∷ rest)) (a ∷ rest))
  first_chain a [] = refl
  first_chain a (b ∷ rest) = elim (says_or_denies (rule (to g a) (g.from b))) [
    | inl says ↦
        let n = chain_length rule g (b ∷ rest) in
        let next : chains_by rule g (b ∷ rest) ≡ take n (b ∷ rest) ∷ chains_by rule g (drop n (b ∷ rest)) = first_chain b rest in
        rw (goes_on a b rest says) (ap (before_by rule g a) next ∙ joined_on a b rest says n (chain_length-some b rest))
    | inr denies ↦ rw (breaks_off a b rest denies) (before_broken a b (chains_by rule g (b ∷ rest)) denies (begins_before b (chains_by rule g rest)))
  ]

  -- from one place of an order to the next
  follows_after : (order : List ℕ) (i d e : ℕ) → suc i < length order → rule (to g (get_or order i d)) (g.from (get_or order (suc i) e)) ≡ true →
      chain_length rule g (drop i order) ≡ suc (chain_length rule g (drop (suc i) order))
  follows_after [] i d e within says = absurd (omega (arith, within))
  follows_after (a ∷ []) i d e within says = absurd (omega (arith, within))
  follows_after (a ∷ b ∷ rest) zero d e within says = goes_on a b rest says
  follows_after (a ∷ b ∷ rest) (suc i) d e within says = follows_after (b ∷ rest) i d e (omega (arith, within)) says

  breaks_after : (order : List ℕ) (i d e : ℕ) → suc i < length order → rule (to g (get_or order i d)) (g.from (get_or order (suc i) e)) ≡ false →
      chain_length rule g (drop i order) ≡ 1
  breaks_after [] i d e within denies = absurd (omega (arith, within))
  breaks_after (a ∷ []) i d e within denies = absurd (omega (arith, within))
  breaks_after (a ∷ b ∷ rest) zero d e within denies = breaks_off a b rest denies
  breaks_after (a ∷ b ∷ rest) (suc i) d e within denies = breaks_after (b ∷ rest) i d e (omega (arith, within)) denies

  -- what the rule says at one place of an order
  abbrev pub said_at : List ℕ → ℕ → Bool
  said_at order i = rule (to g (get_or order i 0)) (g.from (get_or order (i + 1) 0))

  said_next : (order : List ℕ) (i : ℕ) → rule (to g (get_or order i 0)) (g.from (get_or order (suc i) 0)) ≡ said_at order i
  said_next order i = ap (λ k. rule (to g (get_or order i 0)) (g.from (get_or order k 0))) (omega arith)

  pub chain_follows : (order : List ℕ) (i : ℕ) → i + 1 < length order → said_at order i ≡ true → chain_length rule g (drop i order) ≡ suc (chain_length rule g (drop (i + 1) order))
  chain_follows order i within says =
      let next : i + 1 ≡ suc i = omega arith in
      rw next (follows_after order i 0 0 (omega (arith, within)) (said_next order i ∙ says))

  pub chain_breaks : (order : List ℕ) (i : ℕ) → i + 1 < length order → said_at order i ≡ false → chain_length rule g (drop i order) ≡ 1
  chain_breaks order i within denies = breaks_after order i 0 0 (omega (arith, within)) (said_next order i ∙ denies)

  pub chain_ends : (order : List ℕ) (i : ℕ) → i + 1 ≡ length order → chain_length rule g (drop i order) ≡ 1
  chain_ends [] i last = absurd (omega (arith, last))
  chain_ends (a ∷ []) zero last = refl
  chain_ends (a ∷ []) (suc i) last = absurd (omega (arith, last))
  chain_ends (a ∷ b ∷ rest) zero last = absurd (omega (arith, last))
  chain_ends (a ∷ b ∷ rest) (suc i) last = chain_ends (b ∷ rest) i (omega (arith, last))

  first_chain_at : (order : List ℕ) (i : ℕ) → i < length order →
      chains_by rule g (drop i order) ≡ take (chain_length rule g (drop i order)) (drop i order) ∷ chains_by rule g (drop (chain_length rule g (drop i order)) (drop i order))
  first_chain_at [] i within = absurd (omega (arith, within))
  first_chain_at (a ∷ rest) zero within = first_chain a rest
  first_chain_at (a ∷ rest) (suc i) within = first_chain_at rest i (omega (arith, within))

  -- the chain from one place on, and those from behind it on
  pub chain_from : (order : List ℕ) (i behind : ℕ) → i < length order → behind ≡ i + chain_length rule g (drop i order) →
      chains_by rule g (drop i order) ≡ take (behind - i) (drop i order) ∷ chains_by rule g (drop behind order)
  chain_from order i behind within is =
      let n = chain_length rule g (drop i order) in
      let long : n ≡ behind - i = omega (arith, is) in
      let rest : drop n (drop i order) ≡ drop behind order = drop-drop n i order ∙ ap (λ k. drop k order) (sym is) in
      first_chain_at order i within ∙ ap (λ xs. take n (drop i order) ∷ chains_by rule g xs) rest ∙ ap (λ k. take k (drop i order) ∷ chains_by rule g (drop behind order)) long

-- cut where the next half-edge doesn't leave the vertex to which this one leads, an order falls into its chains
before_meeting : (g : RotationSystem) (a : ℕ) (chains : List (List ℕ)) → before_by meets g a chains ≡ before_chains g a chains
before_meeting g a [] = refl
before_meeting g a ([] ∷ rest) = refl
before_meeting g a ((b ∷ chain) ∷ rest) = refl

pub chains_meeting : (g : RotationSystem) (order : List ℕ) → chains_by meets g order ≡ chains_of g order
chains_meeting g [] = refl
chains_meeting g (a ∷ l) = ap (before_by meets g a) (chains_meeting g l) ∙ before_meeting g a (chains_of g l)
