-- Which edges are burnt, by half-edges and by flags.
use Rattle.std.proofs.Common.{arith, ◌≡◌, ◌≢◌, ◌⊎◌, inl, inr, ℕ, zero, suc, ◌*◌, ◌/◌, ◌<◌, ◌≤◌, Bool, true, false, List, [], ◌∷◌, ◌++◌, length, map, get_or, set, length-set, get_or-set_same, get_or-set_other, replicate, refl, sym, subst, ◌∙◌}
use Rattle.std.specs.Prelude.{All, AllPairs, Contains, IsTrue}
use Rattle.std.proofs.lemmas.Bool.{cases_eq}
use Rattle.std.proofs.lemmas.Bool.Decides.{nat_tests}
use Rattle.std.proofs.lemmas.Option.{slice_get_within}
use Rattle.std.proofs.lemmas.List.{length-map}
use Rattle.std.proofs.lemmas.List.Elements.{All-nil, All-contains, All-push, All-map, Contains-append_left, Contains-push, Contains-push_cases}
use Rattle.nest_base.proofs.Lists.{Contains-none, AllPairs-none, All-from_contains}
use Rattle.plate_edges.proofs.Lists.{AllPairs-map}
use Rattle.rotation_systems.specs.Twins.{twin_number}
use Rattle.half_edges.specs.Burns.{HasEdgeOf, AreOfTwoEdges, AreFlagsOf}
use Rattle.nest_base.proofs.ListReads.{read_from_Contains, Contains-from_read, AllPairs-reads, AllPairs-from_reads, AllPairs-pushed, read_kept, read_pushed}
use Rattle.half_edges.proofs.Fewer.{few_below}

abbrev half : ℕ → ℕ
half s = s / 2

-- half-edges with one number of an edge are of one edge
same_edge : (s t : ℕ) → s / 2 ≡ t / 2 → (s ≡ t) ⊎ (s ≡ twin_number t)
same_edge s t same = elim (cases_eq s t) [
  | inl one ↦ inl one
  | inr other ↦ inr (grind (arith, nat_tests))
]

half_of_twin : (s : ℕ) → twin_number s / 2 ≡ s / 2
half_of_twin s = grind (arith, nat_tests)

has_edge : (sides : List ℕ) (s t : ℕ) → Contains sides t → t / 2 ≡ s / 2 → HasEdgeOf sides s
has_edge sides s t stands same = elim (same_edge t s same) [
  | inl one ↦ inl (subst (Contains sides) one stands)
  | inr other ↦ inr (subst (Contains sides) other stands)
]

edge_there : (sides : List ℕ) (s : ℕ) → HasEdgeOf sides s → (t : ℕ) × Contains sides t × (t / 2 ≡ s / 2)
edge_there sides s (inl stands) = (s, stands, refl)
edge_there sides s (inr stands) = (twin_number s, stands, half_of_twin s)

-- half-edges of two edges have two numbers of edges
two_edges : (s t : ℕ) → AreOfTwoEdges s t → s / 2 ≢ t / 2
two_edges s t apart same = elim (same_edge s t same) [ inl one ↦ apart.0 one | inr other ↦ apart.1 other ]

has_edge_more : (sides : List ℕ) (r s : ℕ) → HasEdgeOf sides s → HasEdgeOf (sides ++ r ∷ []) s
has_edge_more sides r s (inl stands) = inl (Contains-append_left sides (r ∷ []) s stands)
has_edge_more sides r s (inr stands) = inr (Contains-append_left sides (r ∷ []) (twin_number s) stands)

has_edge_before : (sides : List ℕ) (r s : ℕ) → r / 2 ≢ s / 2 → HasEdgeOf (sides ++ r ∷ []) s → HasEdgeOf sides s
has_edge_before sides r s other has =
    let t = edge_there (sides ++ r ∷ []) s has in
    elim (Contains-push_cases sides r t.0 t.1) [
      | inl stands ↦ has_edge sides s t.0 stands t.2
      | inr last ↦ absurd (other (subst (λ m. m / 2 ≡ s / 2) (sym last) t.2))
    ]

-- each element is in relation to the last one
pair_with_last : {X : Type 0} (R : X → X → Type 0) (xs : List X) (x y : X) → AllPairs R (xs ++ y ∷ []) → Contains xs x → R x y
pair_with_last R xs x y pairs stands =
    let at = read_from_Contains xs x stands in
    AllPairs-reads R (xs ++ y ∷ []) at.0 (length xs) x y pairs (slice_get_within xs at.0 x at.1) (read_kept xs y at.0 x at.1) (read_pushed xs y)

AllPairs-front : {X : Type 0} (R : X → X → Type 0) (xs : List X) (y : X) → AllPairs R (xs ++ y ∷ []) → AllPairs R xs
AllPairs-front R xs y pairs = AllPairs-from_reads R xs (λ i j x z less at_x at_z. AllPairs-reads R (xs ++ y ∷ []) i j x z pairs less (read_kept xs y i x at_x) (read_kept xs y j z at_z))

not_both : (b : Bool) → b ≡ false → IsTrue b → ⊥
not_both b off on = grind (arith, off, on)

all_false : (n k : ℕ) → get_or (replicate n false) k false ≡ false
all_false zero k = refl
all_false (suc n) zero = refl
all_false (suc n) (suc k) = all_false n k

pub no_flags : (n : ℕ) → AreFlagsOf (replicate n false) []
no_flags n = record {
  within = All-nil (λ s. s < 2 * length (replicate n false));
  once = AllPairs-none AreOfTwoEdges;
  flag = λ s below. (λ is. absurd (not_both _ (all_false n (s / 2)) is), λ has. let t = edge_there [] s has in absurd (Contains-none t.0 t.1));
}

module _ (flags : List Bool) (burnt : List ℕ) (s : ℕ) where
  -- the edge of s is unburnt, and burns
  pub flags_burnt : AreFlagsOf flags burnt → s < 2 * length flags → (HasEdgeOf burnt s → ⊥) → AreFlagsOf (set flags (s / 2) true) (burnt ++ s ∷ [])
  flags_burnt are below free = record {
    within = subst (λ n. All (λ t. t < 2 * n) (burnt ++ s ∷ [])) (sym (length-set flags (s / 2) true)) (All-push (λ t. t < 2 * length flags) burnt s are.within below);
    once = AllPairs-pushed AreOfTwoEdges burnt s are.once (λ k t at.
        let stands = Contains-from_read burnt k t at in
        (λ one. free (inl (subst (Contains burnt) one stands)), λ other. free (inr (subst (Contains burnt) other stands))));
    flag = λ t inside. elim (cases_eq (t / 2) (s / 2)) [
      | inl same ↦ (
        λ _. has_edge (burnt ++ s ∷ []) t s (Contains-push burnt s) (sym same),
        λ _. subst (λ k. IsTrue (get_or (set flags (s / 2) true) k false)) (sym same) (get_or-set_same flags (s / 2) true false (omega (arith, below))),
      )
      | inr other ↦
          let kept = get_or-set_other flags (s / 2) (t / 2) true false other in
          let flag = are.flag t (omega (arith, inside, length-set flags (s / 2) true)) in
          (λ is. has_edge_more burnt s t (flag.0 (sym kept ∙ is)), λ has. kept ∙ flag.1 (has_edge_before burnt s t (λ same. other (sym same)) has))
    ];
  }

  -- the edge of s was burnt last, and is unburnt
  pub flags_unburnt : AreFlagsOf flags (burnt ++ s ∷ []) → AreFlagsOf (set flags (s / 2) false) burnt
  flags_unburnt are = record {
    within = subst (λ n. All (λ t. t < 2 * n) burnt) (sym (length-set flags (s / 2) false))
        (All-from_contains (λ t. t < 2 * length flags) burnt (λ t stands. All-contains (λ u. u < 2 * length flags) (burnt ++ s ∷ []) t are.within (Contains-append_left burnt (s ∷ []) t stands)));
    once = AllPairs-front AreOfTwoEdges burnt s are.once;
    flag = λ t inside. elim (cases_eq (t / 2) (s / 2)) [
      | inl same ↦
          let below : s / 2 < length flags = omega (arith, inside, same, length-set flags (s / 2) false) in
          let cleared = subst (λ k. get_or (set flags (s / 2) false) k false ≡ false) (sym same) (get_or-set_same flags (s / 2) false false below) in (
            λ is. absurd (not_both _ cleared is),
            λ has. let u = edge_there burnt t has in absurd (two_edges u.0 s (pair_with_last AreOfTwoEdges burnt u.0 s are.once u.1) (u.2 ∙ same)),
          )
      | inr other ↦
          let kept = get_or-set_other flags (s / 2) (t / 2) false false other in
          let flag = are.flag t (omega (arith, inside, length-set flags (s / 2) false)) in
          (λ is. has_edge_before burnt s t (λ same. other (sym same)) (flag.0 (sym kept ∙ is)), λ has. kept ∙ flag.1 (has_edge_more burnt s t has))
    ];
  }

-- no more edges are burnt than there are
pub burnt_few : (n : ℕ) (burnt : List ℕ) → All (λ s. s < 2 * n) burnt → AllPairs AreOfTwoEdges burnt → length burnt ≤ n
burnt_few n burnt within once =
    let below : All (λ k. k < n) (map half burnt) = All-map (λ k. k < n) half burnt (λ k d inside. omega (arith, within k d inside)) in
    let apart : AllPairs (λ j k. j ≢ k) (map half burnt) = AllPairs-map (λ j k. j ≢ k) half burnt (λ i j d less inside. two_edges _ _ (once i j d less inside)) in
    omega (arith, few_below n (map half burnt) below apart, length-map burnt half)
