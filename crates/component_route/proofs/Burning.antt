-- Which edges are burnt once an order has been.
use Rattle.std.proofs.Common.{◌≡◌, ℕ, ◌<◌, zero, suc, List, [], ◌∷◌, ◌++◌, ◌⊎◌, inl, inr, sym, ap, subst, arith, ◌∙◌, append_assoc, append-nil, IsTrue, reverse}
use Rattle.std.specs.Prelude.{◌↔◌, Contains}
use Rattle.std.proofs.lemmas.Bool.{cases_eq}
use Rattle.std.proofs.lemmas.List.{reverse-append}
use Rattle.std.proofs.lemmas.List.Elements.{Contains-append_right, Contains-append_cases}
use Rattle.nest_base.proofs.Lists.{Contains-none}
use Rattle.rotation_systems.specs.Twins.{twin_number}
use Rattle.rotation_systems.specs.RotationSystem.{RotationSystem, IsRotationSystem}
use Rattle.half_edges.specs.Graph.{Graph, rotations_of, origin_of, component_of}
use Rattle.half_edges.specs.Burns.{HasEdgeOf, IsBurnt, with_burnt}
use Rattle.cover_walks.specs.Orders.{Has}
use Rattle.cover_walks.specs.Choices.{AllBurnt, HasUnburnt}
use Rattle.cover_walks.specs.Walks.{IsExhausted}
use Rattle.cover_walks.proofs.Holdings.{Has-after, Has-insert, Has-inserted}
use Rattle.component_route.specs.Scans.{has_edge, burnt_in}
use Rattle.component_route.specs.States.{IsFresh, IsBurntBy, component_from}

-- the test of a list tells whether the edge stands in it
pub tells : (o : Graph) (l : List ℕ) (s : ℕ) → IsTrue (has_edge l s) ↔ Has (rotations_of o) l s
tells o [] s = ((λ e. cc), λ h. absurd h)
tells o (a ∷ l) s =
    elim (cases_eq a s) [
      | inl e ↦ ((λ t. inl e), λ h. grind arith)
      | inr n ↦ elim (cases_eq (twin_number a) s) [
        | inl e ↦ ((λ t. inr (inl e)), λ h. grind arith)
        | inr m ↦
            let rest = tells o l s in
            let same : has_edge (a ∷ l) s ≡ has_edge l s = grind arith in (
              (λ t. inr (inr (rest.0 (subst IsTrue same t)))),
              λ h. subst IsTrue (sym same) (rest.1 (elim h [ inl e ↦ absurd (n e) | inr (inl e) ↦ absurd (m e) | inr (inr k) ↦ k ])),
            )
      ]
    ]

-- and so do the half-edges that it has
pub has_from_contains : (o : Graph) (l : List ℕ) (s : ℕ) → Contains l s → Has (rotations_of o) l s
has_from_contains o [] s c = absurd (Contains-none s c)
has_from_contains o (a ∷ l) s c =
    elim (Contains-append_cases (a ∷ []) l s c) [
      | inl one ↦ inl (first one)
      | inr rest ↦ inr (inr (has_from_contains o l s rest))
    ]
  where
    first : Contains (a ∷ []) s → a ≡ s
    first (zero, b, e) = e
    first (suc k, b, e) = absurd (omega arith)

contains_first : (l : List ℕ) (a s : ℕ) → a ≡ s → Contains (a ∷ l) s
contains_first l a s e = (0, omega arith, e)

pub edge_from_has : (o : Graph) → IsRotationSystem (rotations_of o) → (l : List ℕ) (s : ℕ) → Has (rotations_of o) l s → HasEdgeOf l s
edge_from_has o rot [] s h = absurd h
edge_from_has o rot (a ∷ l) s (inl e) = inl (contains_first l a s e)
edge_from_has o rot (a ∷ l) s (inr (inl e)) = inr (contains_first l a (twin_number s) (sym (rot.twin_twin a) ∙ ap twin_number e))
edge_from_has o rot (a ∷ l) s (inr (inr h)) = elim (edge_from_has o rot l s h) [
  | inl c ↦ inl (Contains-append_right (a ∷ []) l s c)
  | inr c ↦ inr (Contains-append_right (a ∷ []) l (twin_number s) c)
]

pub has_twin_of : (o : Graph) → IsRotationSystem (rotations_of o) → (l : List ℕ) (s : ℕ) → Has (rotations_of o) l (twin_number s) → Has (rotations_of o) l s
has_twin_of o rot [] s h = h
has_twin_of o rot (a ∷ l) s (inl e) = inr (inl (ap twin_number e ∙ rot.twin_twin s))
has_twin_of o rot (a ∷ l) s (inr (inl e)) = inl (sym (rot.twin_twin a) ∙ (ap twin_number e ∙ rot.twin_twin s))
has_twin_of o rot (a ∷ l) s (inr (inr h)) = inr (inr (has_twin_of o rot l s h))

pub has_from_edge : (o : Graph) → IsRotationSystem (rotations_of o) → (l : List ℕ) (s : ℕ) → HasEdgeOf l s → Has (rotations_of o) l s
has_from_edge o rot l s (inl c) = has_from_contains o l s c
has_from_edge o rot l s (inr c) = has_twin_of o rot l s (has_from_contains o l (twin_number s) c)

-- of two lists one has it
pub has_of_two : (g : RotationSystem) (l m : List ℕ) (s : ℕ) → Has g (l ++ m) s → Has g l s ⊎ Has g m s
has_of_two g [] m s h = inr h
has_of_two g (a ∷ l) m s (inl e) = inl (inl e)
has_of_two g (a ∷ l) m s (inr (inl e)) = inl (inr (inl e))
has_of_two g (a ∷ l) m s (inr (inr h)) = elim (has_of_two g l m s h) [ inl k ↦ inl (inr (inr k)) | inr k ↦ inr k ]

pub has_before : (g : RotationSystem) (l m : List ℕ) (s : ℕ) → Has g l s → Has g (l ++ m) s
has_before g [] m s h = absurd h
has_before g (a ∷ l) m s (inl e) = inl e
has_before g (a ∷ l) m s (inr (inl e)) = inr (inl e)
has_before g (a ∷ l) m s (inr (inr h)) = inr (inr (has_before g l m s h))

pub has_reversed : (g : RotationSystem) (l : List ℕ) (s : ℕ) → Has g l s → Has g (reverse l) s
has_reversed g [] s h = h
has_reversed g (a ∷ l) s h =
    subst (λ m. Has g m s) (sym (reverse-append (a ∷ []) l)) (elim h [
      | inl e ↦ Has-after g (reverse l) (a ∷ []) s (inl e)
      | inr (inl e) ↦ Has-after g (reverse l) (a ∷ []) s (inr (inl e))
      | inr (inr k) ↦ has_before g (reverse l) (a ∷ []) s (has_reversed g l s k)
    ])

-- both graphs have one rotation system
pub one_rotation : (o x : Graph) (order : List ℕ) → IsBurntBy o x order → rotations_of x ≡ rotations_of o
one_rotation o x order b = ap rotations_of b.graph

module _ (o : Graph) (start : ℕ) (fresh : IsFresh o start) (x : Graph) (order : List ℕ) (b : IsBurntBy o x order) where
  pub burnt_or_laid : (s : ℕ) → IsTrue (burnt_in x s) → Has (rotations_of o) o.burnt s ⊎ Has (rotations_of o) order s
  burnt_or_laid s t =
      elim (has_of_two (rotations_of o) o.burnt b.laid s ((tells o (o.burnt ++ b.laid) s).0 (subst (λ y. IsTrue (burnt_in y s)) b.graph t))) [
        | inl h ↦ inl h
        | inr h ↦ inr ((b.edges s).0 h)
      ]

  pub laid_is_burnt : (s : ℕ) → Has (rotations_of o) order s → IsTrue (burnt_in x s)
  laid_is_burnt s h =
      subst (λ y. IsTrue (burnt_in y s)) (sym b.graph)
      ((tells o (o.burnt ++ b.laid) s).1 (Has-after (rotations_of o) o.burnt b.laid s ((b.edges s).1 h)))

  -- in the component those of the order are burnt
  pub marks : (s : ℕ) → s < (rotations_of o).sides → component_of o (origin_of o s) ≡ component_from o start → IsTrue (burnt_in x s) ↔ Has (rotations_of o) order s
  marks s k at = (
    (λ t. elim (burnt_or_laid s t) [
      | inl h ↦ absurd (fresh.unburnt s k at (edge_from_has o fresh.rotation o.burnt s h))
      | inr h ↦ h
    ]),
    laid_is_burnt s,
  )

  -- a vertex all of whose half-edges are burnt is exhausted
  pub exhausted_of : (v : ℕ) → component_of o v ≡ component_from o start → AllBurnt (rotations_of x) (burnt_in x) v → IsExhausted (rotations_of o) order v
  exhausted_of v at h s k e =
      (marks s k (ap (component_of o) e ∙ at)).0 (subst (λ g. AllBurnt g (burnt_in x) v) (one_rotation o x order b) h s k e)

  pub not_exhausted : (v : ℕ) → component_of o v ≡ component_from o start → HasUnburnt (rotations_of x) (burnt_in x) v → IsExhausted (rotations_of o) order v → ⊥
  not_exhausted v at f k =
      let (s, i, e, n) = subst (λ g. HasUnburnt g (burnt_in x) v) (one_rotation o x order b) f in
      n (laid_is_burnt s (k s i e))

  -- in the words of the graph: what is unburnt may burn
  pub unburnt_of : (s : ℕ) → s < (rotations_of o).sides → component_of o (origin_of o s) ≡ component_from o start → (Has (rotations_of o) order s → ⊥) → IsBurnt x s → ⊥
  unburnt_of s k at n i =
      elim (has_of_two (rotations_of o) o.burnt b.laid s (has_from_edge o fresh.rotation (o.burnt ++ b.laid) s (subst (λ y. IsBurnt y s) b.graph i))) [
        | inl h ↦ fresh.unburnt s k at (edge_from_has o fresh.rotation o.burnt s h)
        | inr h ↦ n ((b.edges s).0 h)
      ]

-- one more edge burns
pub burnt_more : (o x y : Graph) (done stack : List ℕ) (f : ℕ) → IsBurntBy o x (done ++ stack) → y ≡ with_burnt x (x.burnt ++ (f ∷ [])) → IsBurntBy o y (done ++ (f ∷ stack))
burnt_more o x y done stack f b e = record {
  laid = b.laid ++ (f ∷ []);
  graph = e ∙ (ap (λ z. with_burnt z (z.burnt ++ (f ∷ []))) b.graph ∙ ap (with_burnt o) (append_assoc o.burnt b.laid (f ∷ [])));
  edges = λ s. (
    (λ h. elim (Has-inserted (rotations_of o) b.laid [] f s h) [
      | inl q ↦ Has-after (rotations_of o) done (f ∷ stack) s (inl q)
      | inr (inl q) ↦ Has-after (rotations_of o) done (f ∷ stack) s (inr (inl q))
      | inr (inr k) ↦ Has-insert (rotations_of o) done stack f s ((b.edges s).0 (subst (λ l. Has (rotations_of o) l s) (append-nil b.laid) k))
    ]),
    (λ h. elim (Has-inserted (rotations_of o) done stack f s h) [
      | inl q ↦ Has-after (rotations_of o) b.laid (f ∷ []) s (inl q)
      | inr (inl q) ↦ Has-after (rotations_of o) b.laid (f ∷ []) s (inr (inl q))
      | inr (inr k) ↦ has_before (rotations_of o) b.laid (f ∷ []) s ((b.edges s).1 k)
    ]),
  );
}

-- what the graph says of an edge, and the test
pub test_of : (x : Graph) → IsRotationSystem (rotations_of x) → (s : ℕ) → IsTrue (burnt_in x s) ↔ IsBurnt x s
test_of x rot s = (
  (λ t. edge_from_has x rot x.burnt s ((tells x x.burnt s).0 t)),
  (λ b. (tells x x.burnt s).1 (has_from_edge x rot x.burnt s b)),
)

-- what is burnt now was burnt before or has been since
pub burnt_where : (o x : Graph) (order : List ℕ) → IsRotationSystem (rotations_of o) → IsBurntBy o x order → (s : ℕ) → IsBurnt x s ↔ (IsBurnt o s ⊎ Has (rotations_of o) order s)
burnt_where o x order rot b s = (
  (λ burnt. elim (has_of_two (rotations_of o) o.burnt b.laid s (has_from_edge o rot (o.burnt ++ b.laid) s (subst (λ y. IsBurnt y s) b.graph burnt))) [
    | inl h ↦ inl (edge_from_has o rot o.burnt s h)
    | inr h ↦ inr ((b.edges s).0 h)
  ]),
  (λ either. subst (λ y. IsBurnt y s) (sym b.graph) (edge_from_has o rot (o.burnt ++ b.laid) s (elim either [
    | inl h ↦ has_before (rotations_of o) o.burnt b.laid s (has_from_edge o rot o.burnt s h)
    | inr h ↦ Has-after (rotations_of o) o.burnt b.laid s ((b.edges s).1 h)
  ]))),
)

pub only_burnt : (o x : Graph) (order : List ℕ) → IsBurntBy o x order → x ≡ with_burnt o x.burnt
only_burnt o x order b = b.graph ∙ ap (with_burnt o) (sym (ap (λ (y : Graph). y.burnt) b.graph))
