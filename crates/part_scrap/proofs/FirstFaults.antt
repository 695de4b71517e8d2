-- The first fault of names, by reads of their places.
use Rattle.std.proofs.Common.{arith, ◌≡◌, ◌<◌, ◌≤◌, ℕ, zero, suc, List, [], ◌∷◌, ◌++◌, length, take, drop, refl, sym, ap, subst, append_assoc, length-append, ◌∙◌}
use Rattle.std.specs.Prelude.{All, Some, slice_get}
use Rattle.std.proofs.lemmas.Option.{none-some, same_Some, slice_get_within}
use Rattle.std.proofs.lemmas.List.{length-take-le}
use Rattle.nest_base.specs.declared.places.Point.{Point}
use Rattle.nest_base.specs.declared.places.Edge.{Edge}
use Rattle.plate_sides.specs.Links.{Outer}
use Rattle.plate_parts.specs.Parts.{IsOnDrawing, IsFaceAt, HaveOneFace, IsWellPlaced, AreApart, OnEdge, InOuterFace, OneFace, IsFirstFault}
use Rattle.plate_parts.specs.Parts.IsFirstFault.{on_edge, in_outer_face, one_face}
use Rattle.nest_base.proofs.ListReads.{read-take}

-- a list is what stands before a place, what stands there and what stands behind
pub split_at : {X : Type 0} (xs : List X) (k : ℕ) (x : X) → slice_get xs k ≡ Some x → xs ≡ take k xs ++ x ∷ drop (suc k) xs
split_at [] k x at = absurd (none-some x at)
split_at (y ∷ xs) zero x at = ap (λ z. z ∷ xs) (same_Some y x at)
split_at (y ∷ xs) (suc k) x at = ap (λ zs. y ∷ zs) (split_at xs k x at)

-- what is read just behind a list
read_behind : {X : Type 0} (xs : List X) (y : X) (zs : List X) → slice_get (xs ++ y ∷ zs) (length xs) ≡ Some y
read_behind [] y zs = refl
read_behind (x ∷ xs) y zs = read_behind xs y zs

long_before : {X : Type 0} (xs : List X) (k : ℕ) (x : X) → slice_get xs k ≡ Some x → length (take k xs) ≡ k
long_before xs k x at = length-take-le k xs (omega (arith, slice_get_within xs k x at))

read_of_take : {X : Type 0} (xs : List X) (j k : ℕ) (x : X) → j ≤ length xs → slice_get (take j xs) k ≡ Some x → (k < j) × (slice_get xs k ≡ Some x)
read_of_take xs j k x long at =
    let less : k < j = omega (arith, slice_get_within (take j xs) k x at, length-take-le j xs long) in
    (less, sym (read-take j xs k less) ∙ at)

module _ (edges : List Edge) where
  -- no two have one face where none do that are read one behind the other
  pub apart_from_reads : (places : List Point) →
      ((k l : ℕ) (p q : Point) → k < l → slice_get places k ≡ Some p → slice_get places l ≡ Some q → HaveOneFace edges p q → ⊥) → AreApart edges places
  apart_from_reads places apart before between after p q is one =
      let at_p : slice_get places (length before) ≡ Some p = ap (λ ps. slice_get ps (length before)) is ∙ read_behind before p (between ++ q ∷ after) in
      let at_q : slice_get places (length (before ++ p ∷ between)) ≡ Some q =
      ap (λ ps. slice_get ps (length (before ++ p ∷ between))) (is ∙ sym (append_assoc before (p ∷ between) (q ∷ after))) ∙ read_behind (before ++ p ∷ between) q after in
      apart (length before) (length (before ++ p ∷ between)) p q (omega (arith, length-append before (p ∷ between))) at_p at_q one

  module _ (places : List Point) (i : ℕ) (p : Point) (at : slice_get places i ≡ Some p) where
    pub fault_on_edge : All (IsWellPlaced edges) (take i places) → IsOnDrawing edges p → IsFirstFault edges places (Some (OnEdge i))
    fault_on_edge before on =
        subst (λ n. IsFirstFault edges places (Some (OnEdge n))) (long_before places i p at)
        (on_edge (take i places) (drop (suc i) places) p (split_at places i p at) before on)

    pub fault_in_outer_face : All (IsWellPlaced edges) (take i places) → (IsOnDrawing edges p → ⊥) → IsFaceAt edges p Outer →
        IsFirstFault edges places (Some (InOuterFace i))
    fault_in_outer_face before off outer =
        subst (λ n. IsFirstFault edges places (Some (InOuterFace n))) (long_before places i p at)
        (in_outer_face (take i places) (drop (suc i) places) p (split_at places i p at) before off outer)

    pub fault_one_face : (j : ℕ) (q : Point) → i < j → slice_get places j ≡ Some q → All (IsWellPlaced edges) places →
        ((k l : ℕ) (a b : Point) → k < l → l < j → slice_get places k ≡ Some a → slice_get places l ≡ Some b → HaveOneFace edges a b → ⊥) →
        HaveOneFace edges p q → IsFirstFault edges places (Some (OneFace i j))
    fault_one_face j q less at_q well apart one =
        let ts = take j places in
        let long : j ≤ length places = omega (arith, slice_get_within places j q at_q) in
        let at_p : slice_get ts i ≡ Some p = read-take j places i less ∙ at in
        let before = take i ts in
        let between = drop (suc i) ts in
        let is_ts : ts ≡ before ++ p ∷ between = split_at ts i p at_p in
        let whole : places ≡ before ++ p ∷ (between ++ q ∷ drop (suc j) places) =
        split_at places j q at_q ∙ ap (λ ps. ps ++ q ∷ drop (suc j) places) is_ts ∙ append_assoc before (p ∷ between) (q ∷ drop (suc j) places) in
        let apart_ts : AreApart edges ts =
        apart_from_reads ts (λ k l a b k_l at_a at_b.
        let a_at = read_of_take places j k a long at_a in
        let b_at = read_of_take places j l b long at_b in
        apart k l a b k_l b_at.0 a_at.1 b_at.1) in
        let number_i : length before ≡ i = long_before ts i p at_p in
        let number_j : length (before ++ p ∷ between) ≡ j = ap (λ (ps : List Point). length ps) (sym is_ts) ∙ length-take-le j places long in
        let fault = one_face before between (drop (suc j) places) p q well whole (subst (AreApart edges) is_ts apart_ts) one in
        subst (λ n. IsFirstFault edges places (Some (OneFace i n))) number_j
        (subst (λ n. IsFirstFault edges places (Some (OneFace n (length (before ++ p ∷ between))))) number_i fault)
