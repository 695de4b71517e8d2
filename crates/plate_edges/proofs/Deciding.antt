-- Whether a point lies on a segment, on one of some edges, or at a place, is decided.
use Rattle.std.proofs.Common.{◌⊎◌, pos, ◌*ℤ◌, ℤ, List, [], ◌∷◌, inl, inr, ap, subst, sym, arith}
use Rattle.std.specs.Prelude.{Contains}
use Rattle.std.proofs.lemmas.Int.{ints}
use Rattle.nest_base.specs.declared.places.Point.{Point}
use Rattle.nest_base.specs.declared.places.Edge.{Edge}
use Rattle.nest_base.specs.Plane.{RationalPoint, IsAt, IsOn, IsBetween, cross_product, direction, numerators, scaled}
use Rattle.nest_base.proofs.Lists.{Contains-head, Contains-later, Contains-cases, Contains-none}
use Rattle.nest_base.proofs.Points.{same_place}
use Rattle.segment_meeting.specs.Orientation.{LieBeyond}
use Rattle.segment_meeting.proofs.Between.{between_or_beyond}
use Rattle.segment_meeting.proofs.Factors.{same_or_not}
use Rattle.plate_edges.specs.Points.{IsOnEdges, IsEndOfEdge}

not_both : (m a b : ℤ) → LieBeyond m a b → IsBetween a m b → ⊥
not_both m a b (inl h) (inl k) = omega (arith, ints, h, k)
not_both m a b (inl h) (inr k) = omega (arith, ints, h, k)
not_both m a b (inr h) (inl k) = omega (arith, ints, h, k)
not_both m a b (inr h) (inr k) = omega (arith, ints, h, k)

pub on_or_not : (p : RationalPoint) (a b : Point) → IsOn p a b ⊎ (IsOn p a b → ⊥)
on_or_not p a b = elim (same_or_not (cross_product (direction (numerators p) (scaled a p.w)) (direction (numerators p) (scaled b p.w))) (pos 0)) [
  | inl line ↦ elim (between_or_beyond (a.x *ℤ p.w) p.x (b.x *ℤ p.w)) [
    | inl across ↦ elim (between_or_beyond (a.y *ℤ p.w) p.y (b.y *ℤ p.w)) [
      | inl up ↦ inl (record { on_line = line; between_x = across; between_y = up })
      | inr beyond ↦ inr (λ on. not_both p.y (a.y *ℤ p.w) (b.y *ℤ p.w) beyond on.between_y)
    ]
    | inr beyond ↦ inr (λ on. not_both p.x (a.x *ℤ p.w) (b.x *ℤ p.w) beyond on.between_x)
  ]
  | inr off ↦ inr (λ on. off on.on_line)
]

-- an element of a list has a property, or none has
pub some_or_none : {X : Type 0} (P : X → Type 0) → ((x : X) → P x ⊎ (P x → ⊥)) → (xs : List X) →
    ((x : X) × Contains xs x × P x) ⊎ ((x : X) × Contains xs x × P x → ⊥)
some_or_none P decide [] = inr (λ some. Contains-none some.0 some.1)
some_or_none P decide (x ∷ xs) = elim (decide x) [
  | inl has ↦ inl (x, Contains-head x xs, has)
  | inr not ↦ elim (some_or_none P decide xs) [
    | inl some ↦ inl (some.0, Contains-later x some.0 xs some.1, some.2)
    | inr none ↦ inr (λ some. elim (Contains-cases x some.0 xs some.1) [
      | inl first ↦ not (subst P (sym first) some.2)
      | inr later ↦ none (some.0, later, some.2)
    ])
  ]
]

pub on_edges_or_not : (edges : List Edge) (p : RationalPoint) → IsOnEdges edges p ⊎ (IsOnEdges edges p → ⊥)
on_edges_or_not edges p = some_or_none (λ (e : Edge). IsOn p e.low e.high) (λ (e : Edge). on_or_not p e.low e.high) edges

pub at_or_not : (p : RationalPoint) (a : Point) → IsAt p a ⊎ (IsAt p a → ⊥)
at_or_not p a = elim (same_or_not p.x (a.x *ℤ p.w)) [
  | inl across ↦ elim (same_or_not p.y (a.y *ℤ p.w)) [
    | inl up ↦ inl (same_place across up)
    | inr not ↦ inr (λ at. not (ap (λ (q : Point). q.y) at))
  ]
  | inr not ↦ inr (λ at. not (ap (λ (q : Point). q.x) at))
]

pub end_or_not : (e : Edge) (p : RationalPoint) → IsEndOfEdge e p ⊎ ((IsAt p e.low → ⊥) × (IsAt p e.high → ⊥))
end_or_not e p = elim (at_or_not p e.low) [
  | inl low ↦ inl (inl low)
  | inr not_low ↦ elim (at_or_not p e.high) [ inl high ↦ inl (inr high) | inr not_high ↦ inr (not_low, not_high) ]
]
