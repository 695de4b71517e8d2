-- How often a place is an end: of the edges it is as often as of the half-edges of a cover, and as often as its degree says.
use Rattle.std.proofs.Common.{arith, ◌≡◌, ◌≢◌, ◌⊎◌, ℕ, ◌+◌, Bool, true, false, List, [], ◌∷◌, ◌++◌, length, inl, inr, refl, sym, ap, subst, ◌∙◌}
use Rattle.std.specs.Prelude.{Contains, All, AllPairs}
use Rattle.std.specs.Bool.{Decides}
use Rattle.std.proofs.lemmas.Bool.Decides.{not_from_Decides}
use Rattle.std.proofs.lemmas.List.Elements.{All-head, All-tail, All-contains, Contains-append_left, Contains-append_right, Contains-append_cases}
use Rattle.nest_base.specs.declared.places.Point.{Point}
use Rattle.nest_base.specs.declared.places.Edge.{Edge}
use Rattle.nest_base.specs.Order.{IsBefore, is_place}
use Rattle.nest_base.specs.Plane.{HalfEdge}
use Rattle.nest_base.specs.Selection.{Selects, HasCount, none, taken, passed}
use Rattle.nest_base.proofs.Lists.{Contains-head, Contains-later, Contains-cases, Contains-none, AllPairs-to_later, AllPairs-rest}
use Rattle.nest_base.proofs.Orders.{IsBefore-irrefl}
use Rattle.nest_base.proofs.Points.{Decides-is_place}
use Rattle.plate_sides.specs.HalfEdges.{IsHalfEdge, IsHalfEdgeOf}
use Rattle.plate_sides.proofs.HalfEdges.{one_edge}

abbrev one_if : Bool → ℕ
one_if true = 1
one_if false = 0

-- 1 where two places are one, else 0
pub same : Point → Point → ℕ
same u v = one_if (is_place u v)

pub same_tells : (u v : Point) → ((u ≡ v) × (same u v ≡ 1)) ⊎ ((u ≢ v) × (same u v ≡ 0))
unfolding same
same_tells u v = of (is_place u v) (Decides-is_place u v)
  where
    of : (b : Bool) → Decides b (u ≡ v) → ((u ≡ v) × (one_if b ≡ 1)) ⊎ ((u ≢ v) × (one_if b ≡ 0))
    of true decides = inl (decides.0 refl, refl)
    of false decides = inr (not_from_Decides false decides refl, refl)

-- how often v is an end of the half-edges of a list
abbrev pub ends : Point → List HalfEdge → ℕ
ends v [] = 0
ends v (h ∷ sides) = (same h.from v + same h.to v) + ends v sides

-- and of the edges of a list
abbrev pub edge_ends : Point → List Edge → ℕ
edge_ends v [] = 0
edge_ends v (e ∷ edges) = (same e.low v + same e.high v) + edge_ends v edges

abbrev InOrder : Edge → Type 0
InOrder e = IsBefore e.low e.high

-- the degree is the number of ends
pub degree_is : (v : Point) {edges some : List Edge} → All (λ (e : Edge). IsBefore e.low e.high) edges →
    Selects (λ (e : Edge). (e.low ≡ v) ⊎ (e.high ≡ v)) edges some → length some ≡ edge_ends v edges
degree_is v in_order none = refl
degree_is v in_order (taken {x} {xs} {ys} has rest) =
    let later : length ys ≡ edge_ends v xs = degree_is v (All-tail InOrder x xs in_order) rest in
    let apart : x.low ≢ x.high = IsBefore-irrefl x.low x.high (All-head InOrder x xs in_order) in
    elim (same_tells x.low v) [
      | inl a ↦ elim (same_tells x.high v) [
        | inl b ↦ absurd (apart (a.0 ∙ sym b.0))
        | inr b ↦ omega (arith, later, a.1, b.1)
      ]
      | inr a ↦ elim (same_tells x.high v) [
        | inl b ↦ omega (arith, later, a.1, b.1)
        | inr b ↦ elim has [ inl low ↦ absurd (a.0 low) | inr high ↦ absurd (b.0 high) ]
      ]
    ]
degree_is v in_order (passed {x} {xs} {ys} not rest) =
    let later : length ys ≡ edge_ends v xs = degree_is v (All-tail InOrder x xs in_order) rest in
    elim (same_tells x.low v) [
      | inl a ↦ absurd (not (inl a.0))
      | inr a ↦ elim (same_tells x.high v) [
        | inl b ↦ absurd (not (inr b.0))
        | inr b ↦ omega (arith, later, a.1, b.1)
      ]
    ]

-- an element of a list, and the list without it
ends_without : (v : Point) (us : List HalfEdge) (h : HalfEdge) (vs : List HalfEdge) →
    ends v (us ++ h ∷ vs) ≡ (same h.from v + same h.to v) + ends v (us ++ vs)
ends_without v [] h vs = refl
ends_without v (u ∷ us) h vs = let later = ends_without v us h vs in omega (arith, later)

Contains-with : {X : Type 0} (us : List X) (h : X) (vs : List X) (k : X) → Contains (us ++ vs) k → Contains (us ++ h ∷ vs) k
Contains-with us h vs k c = elim (Contains-append_cases us vs k c) [
  | inl m ↦ Contains-append_left us (h ∷ vs) k m
  | inr m ↦ Contains-append_right us (h ∷ vs) k (Contains-later h k vs m)
]

Selects-without : {X : Type 0} (P : X → Type 0) (us : List X) (h : X) (vs zs : List X) → (P h → ⊥) → Selects P (us ++ h ∷ vs) zs → Selects P (us ++ vs) zs
Selects-without P [] h vs zs off (taken p rest) = absurd (off p)
Selects-without P [] h vs zs off (passed not rest) = rest
Selects-without P (u ∷ us) h vs _ off (taken {ys} p rest) = taken p (Selects-without P us h vs ys off rest)
Selects-without P (u ∷ us) h vs zs off (passed not rest) = passed not (Selects-without P us h vs zs off rest)

none_selected : {X : Type 0} (P : X → Type 0) {xs ys : List X} → Selects P xs ys → length ys ≡ 0 → (k : X) → Contains xs k → P k → ⊥
none_selected P none e k c p = Contains-none k c
none_selected P (taken q rest) e k c p = absurd (omega arith)
none_selected P (passed {x} {xs} {ys} not rest) e k c p = elim (Contains-cases x k xs c) [
  | inl is ↦ not (subst P (sym is) p)
  | inr m ↦ none_selected P rest e k m p
]

-- the one element that has P, and those around it, which haven't
abbrev IsTakenOut : {X : Type 0} → (X → Type 0) → List X → Type 0
IsTakenOut {X} P xs = (us : List X) × (h : X) × (vs : List X) × (xs ≡ us ++ h ∷ vs) × P h × ((k : X) → Contains (us ++ vs) k → P k → ⊥)

taken_out : {X : Type 0} (P : X → Type 0) {xs ys : List X} → Selects P xs ys → length ys ≡ 1 → IsTakenOut P xs
taken_out P none e = absurd (omega arith)
taken_out P (taken {x} {xs} q rest) e = ([], x, xs, refl, q, none_selected P rest (omega arith))
taken_out {X} P (passed {x} {xs} not rest) e =
    let r = taken_out P rest e in
    let us : List X = r.0 in
    let h : X = r.1 in
    let vs : List X = r.2 in
    let is : xs ≡ us ++ h ∷ vs = r.3 in (
      x ∷ us,
      h,
      vs,
      ap (λ l. x ∷ l) is,
      r.4,
      λ k c p. elim (Contains-cases x k (us ++ vs) c) [
        | inl same_one ↦ not (subst P (sym same_one) p)
        | inr m ↦ r.5 k m p
      ],
    )

-- where each edge stands once, the half-edges have the ends of the edges
pub ends_of_cover : (v : Point) (edges : List Edge) (sides : List HalfEdge) → All (λ (e : Edge). IsBefore e.low e.high) edges → AllPairs (λ e f. e ≢ f) edges →
    ((h : HalfEdge) → Contains sides h → IsHalfEdge edges h) → ((e : Edge) → Contains edges e → HasCount (IsHalfEdgeOf e) sides 1) →
    ends v sides ≡ edge_ends v edges
ends_of_cover v [] [] in_order apart inside once = refl
ends_of_cover v [] (h ∷ sides) in_order apart inside once = let r = inside h (Contains-head h sides) in absurd (Contains-none r.0 r.1)
ends_of_cover v (e ∷ edges) sides in_order apart inside once =
    let count = once e (Contains-head e edges) in
    let r = taken_out (IsHalfEdgeOf e) count.1 count.2 in
    let us : List HalfEdge = r.0 in
    let h : HalfEdge = r.1 in
    let vs : List HalfEdge = r.2 in
    let is : sides ≡ us ++ h ∷ vs = r.3 in
    let of_e : IsHalfEdgeOf e h = r.4 in
    let fewer : (k : HalfEdge) → Contains (us ++ vs) k → IsHalfEdge edges k = λ k c.
    let at = inside k (subst (λ l. Contains l k) (sym is) (Contains-with us h vs k c)) in
    elim (Contains-cases e at.0 edges at.1) [
      | inl first ↦ absurd (r.5 k c (subst (λ f. IsHalfEdgeOf f k) (sym first) at.2))
      | inr later ↦ (at.0, later, at.2)
    ] in
    let still : (f : Edge) → Contains edges f → HasCount (IsHalfEdgeOf f) (us ++ vs) 1 = λ f c.
    let count_f = once f (Contains-later e f edges c) in
    let off : IsHalfEdgeOf f h → ⊥ = λ of_f.
    AllPairs-to_later (λ a b. a ≢ b) e f edges apart c (one_edge e f h (All-head InOrder e edges in_order) (All-contains InOrder edges f (All-tail InOrder e edges in_order) c) of_e of_f) in
    (count_f.0, Selects-without (IsHalfEdgeOf f) us h vs count_f.0 off (subst (λ l. Selects (IsHalfEdgeOf f) l count_f.0) is count_f.1), count_f.2) in
    let rest : ends v (us ++ vs) ≡ edge_ends v edges =
    ends_of_cover v edges (us ++ vs) (All-tail InOrder e edges in_order) (AllPairs-rest (λ a b. a ≢ b) e edges apart) fewer still in
    let split : ends v sides ≡ (same h.from v + same h.to v) + ends v (us ++ vs) = ap (ends v) is ∙ ends_without v us h vs in
    let own : same h.from v + same h.to v ≡ same e.low v + same e.high v = own_ends of_e in
    omega (arith, rest, split, own)
  where
    own_ends : {h : HalfEdge} → IsHalfEdgeOf e h → same h.from v + same h.to v ≡ same e.low v + same e.high v
    own_ends (inl p) = ap (λ (k : HalfEdge). same k.from v + same k.to v) p
    own_ends (inr p) = let t = ap (λ (k : HalfEdge). same k.from v + same k.to v) p in omega (arith, t)
