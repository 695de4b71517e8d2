-- Of two met edges neither of which is nearer, where edges meet at ends only: they are one. So one thing is seen from a place.
use Rattle.std.proofs.Common.{arith, ◌≡◌, ◌⊎◌, ℤ, pos, ◌+ℤ◌, ◌-ℤ◌, ◌*ℤ◌, ◌<ℤ◌, ◌≤ℤ◌, List, inl, inr, sym, refl, ap}
use Rattle.std.specs.Prelude.{AllPairs}
use Rattle.std.proofs.lemmas.Int.{ints}
use Rattle.nest_base.specs.declared.places.Point.{Point}
use Rattle.nest_base.specs.declared.places.Edge.{Edge}
use Rattle.nest_base.specs.Plane.{HalfEdge, twin, rational, IsOn}
use Rattle.nest_base.specs.Sight.{IsMet, IsNearer, fall, drift, x_at}
use Rattle.nest_base.proofs.Differences.{diff_of, diffs, diff_same}
use Rattle.nest_base.proofs.Points.{mul-one, on_first, on_last}
use Rattle.nest_base.proofs.Signs.{mul_nonneg}
use Rattle.plate_edges.specs.Points.{EdgesMeetAtEndsOnly}
use Rattle.plate_sides.specs.HalfEdges.{IsHalfEdge}
use Rattle.plate_sides.specs.Links.{Outer, At, IsSeen}
use Rattle.plate_sides.specs.Nesting.{SeesOne}
use Rattle.plate_nesting.proofs.Factors.{less_or_not, le_of_mul, eq_of_mul}
use Rattle.plate_nesting.proofs.Meetings.{meet_at_ends}

swapped : (x y : ℤ) → x *ℤ y ≡ y *ℤ x
swapped x y = rw (diff_of x, diff_of y) (simp diffs (diff_same _ _ _ _ (omega arith)))

upper_identity : (de fe dd fd Tx tx a b : ℤ) →
    (fd *ℤ ((Tx *ℤ fe) +ℤ (de *ℤ ((a -ℤ b) +ℤ fd)))) +ℤ ((((tx *ℤ fd) +ℤ (dd *ℤ b)) *ℤ fe) +ℤ ((fd -ℤ b) *ℤ (dd *ℤ fe))) ≡
    (fd *ℤ (fe *ℤ (tx +ℤ dd))) +ℤ ((((Tx *ℤ fe) +ℤ (de *ℤ a)) *ℤ fd) +ℤ ((fd -ℤ b) *ℤ (de *ℤ fd)))
upper_identity de fe dd fd Tx tx a b =
    rw (diff_of de, diff_of fe, diff_of dd, diff_of fd, diff_of Tx, diff_of tx, diff_of a, diff_of b) (simp diffs (diff_same _ _ _ _ (omega arith)))

lower_identity : (de fe dd fd Tx tx a b : ℤ) →
    (fd *ℤ ((Tx *ℤ fe) +ℤ (de *ℤ (a -ℤ b)))) +ℤ ((((tx *ℤ fd) +ℤ (dd *ℤ b)) *ℤ fe) +ℤ (b *ℤ (de *ℤ fd))) ≡
    (fd *ℤ (fe *ℤ tx)) +ℤ ((((Tx *ℤ fe) +ℤ (de *ℤ a)) *ℤ fd) +ℤ (b *ℤ (dd *ℤ fe)))
lower_identity de fe dd fd Tx tx a b =
    rw (diff_of de, diff_of fe, diff_of dd, diff_of fd, diff_of Tx, diff_of tx, diff_of a, diff_of b) (simp diffs (diff_same _ _ _ _ (omega arith)))

cross_at_end : (Fx Fy Tx Ty zx zy : ℤ) → ((Fx -ℤ zx) *ℤ (Ty -ℤ zy)) +ℤ ((Tx *ℤ (Fy -ℤ Ty)) +ℤ ((Fx -ℤ Tx) *ℤ (zy -ℤ Ty))) ≡
    ((Fy -ℤ zy) *ℤ (Tx -ℤ zx)) +ℤ ((Fy -ℤ Ty) *ℤ zx)
cross_at_end Fx Fy Tx Ty zx zy = rw (diff_of Fx, diff_of Fy, diff_of Tx, diff_of Ty, diff_of zx, diff_of zy) (simp diffs (diff_same _ _ _ _ (omega arith)))

rest_of_way : (Fx Fy Tx Ty zy : ℤ) → ((Fx -ℤ Tx) *ℤ (Fy -ℤ zy)) +ℤ (((Fx -ℤ Tx) *ℤ (zy -ℤ Ty)) +ℤ (Tx *ℤ (Fy -ℤ Ty))) ≡ (Fy -ℤ Ty) *ℤ Fx
rest_of_way Fx Fy Tx Ty zy = rw (diff_of Fx, diff_of Fy, diff_of Tx, diff_of Ty, diff_of zy) (simp diffs (diff_same _ _ _ _ (omega arith)))

flipped : (a b k : ℤ) → ((a -ℤ b) *ℤ k) +ℤ (((b -ℤ a) *ℤ k) +ℤ k) ≡ k
flipped a b k = rw (diff_of a, diff_of b, diff_of k) (simp diffs (diff_same _ _ _ _ (omega arith)))

-- z lies on the line of e, by x at its height
AtLine : HalfEdge → Point → Type 0
AtLine e z = ((e.to.x *ℤ fall e) +ℤ (drift e *ℤ (z.y -ℤ e.to.y))) ≡ (fall e *ℤ z.x)

on_edge : (e : HalfEdge) (z : Point) → e.to.y ≤ℤ z.y → z.y ≤ℤ e.from.y → pos 0 <ℤ fall e → AtLine e z → IsOn (rational z) e.from e.to
unfolding AtLine
on_edge e z low high falls at = record {
  on_line = rw (mul-one e.from.x, mul-one e.from.y, mul-one e.to.x, mul-one e.to.y)
      (omega (arith, ints, at, cross_at_end e.from.x e.from.y e.to.x e.to.y z.x z.y));
  between_x = across (less_or_not e.from.x e.to.x);
  between_y = inr (omega (arith, ints, low), omega (arith, ints, high));
}
  where
    across : (e.from.x <ℤ e.to.x) ⊎ (e.to.x ≤ℤ e.from.x) →
        (((e.from.x *ℤ pos 1) ≤ℤ z.x) × (z.x ≤ℤ (e.to.x *ℤ pos 1))) ⊎ (((e.to.x *ℤ pos 1) ≤ℤ z.x) × (z.x ≤ℤ (e.from.x *ℤ pos 1)))
    across (inr right) =
        let one : pos 0 ≤ℤ ((e.from.x -ℤ e.to.x) *ℤ (z.y -ℤ e.to.y)) = mul_nonneg (e.from.x -ℤ e.to.x) (z.y -ℤ e.to.y) (omega (arith, ints, right)) (omega (arith, ints, low)) in
        let two : pos 0 ≤ℤ ((e.from.x -ℤ e.to.x) *ℤ (e.from.y -ℤ z.y)) = mul_nonneg (e.from.x -ℤ e.to.x) (e.from.y -ℤ z.y) (omega (arith, ints, right)) (omega (arith, ints, high)) in
        let way = rest_of_way e.from.x e.from.y e.to.x e.to.y z.y in
        let first : e.to.x ≤ℤ z.x = le_of_mul (fall e) e.to.x z.x falls (omega (arith, ints, one, at, swapped e.to.x (fall e))) in
        let last : z.x ≤ℤ e.from.x = le_of_mul (fall e) z.x e.from.x falls (omega (arith, ints, two, at, way)) in
        inr (omega (arith, ints, first), omega (arith, ints, last))
    across (inl left) =
        let one : pos 0 ≤ℤ ((e.to.x -ℤ e.from.x) *ℤ (z.y -ℤ e.to.y)) = mul_nonneg (e.to.x -ℤ e.from.x) (z.y -ℤ e.to.y) (omega (arith, ints, left)) (omega (arith, ints, low)) in
        let two : pos 0 ≤ℤ ((e.to.x -ℤ e.from.x) *ℤ (e.from.y -ℤ z.y)) = mul_nonneg (e.to.x -ℤ e.from.x) (e.from.y -ℤ z.y) (omega (arith, ints, left)) (omega (arith, ints, high)) in
        let way = rest_of_way e.from.x e.from.y e.to.x e.to.y z.y in
        let f1 = flipped e.to.x e.from.x (z.y -ℤ e.to.y) in
        let f2 = flipped e.to.x e.from.x (e.from.y -ℤ z.y) in
        let first : z.x ≤ℤ e.to.x = le_of_mul (fall e) z.x e.to.x falls (omega (arith, ints, one, at, f1, swapped e.to.x (fall e))) in
        let last : e.from.x ≤ℤ z.x = le_of_mul (fall e) e.from.x z.x falls (omega (arith, ints, two, at, way, f2)) in
        inl (omega (arith, ints, last), omega (arith, ints, first))

module _ (p : Point) (d e : HalfEdge)
    (one_x : (x_at p.y e *ℤ fall d) ≡ (x_at p.y d *ℤ fall e)) (one_slope : (drift e *ℤ fall d) ≡ (drift d *ℤ fall e)) (falls : pos 0 <ℤ fall d) where
  upper_on : AtLine e d.from
  unfolding AtLine
  upper_on =
      let a : ℤ = p.y -ℤ e.to.y in
      let b : ℤ = p.y -ℤ d.to.y in
      let slope : (fall d -ℤ b) *ℤ (drift e *ℤ fall d) ≡ (fall d -ℤ b) *ℤ (drift d *ℤ fall e) = ap (λ k. (fall d -ℤ b) *ℤ k) one_slope in
      let id = upper_identity (drift e) (fall e) (drift d) (fall d) e.to.x d.to.x a b in
      let line : (e.to.x *ℤ fall e) +ℤ (drift e *ℤ ((a -ℤ b) +ℤ fall d)) ≡ fall e *ℤ (d.to.x +ℤ drift d) =
      eq_of_mul (fall d) ((e.to.x *ℤ fall e) +ℤ (drift e *ℤ ((a -ℤ b) +ℤ fall d))) (fall e *ℤ (d.to.x +ℤ drift d)) falls
      (omega (arith, ints, id, one_x, slope)) in
      let height : drift e *ℤ (d.from.y -ℤ e.to.y) ≡ drift e *ℤ ((a -ℤ b) +ℤ fall d) = ap (λ k. drift e *ℤ k) (omega (arith, ints)) in
      let across : fall e *ℤ d.from.x ≡ fall e *ℤ (d.to.x +ℤ drift d) = ap (λ k. fall e *ℤ k) (omega (arith, ints)) in
      omega (arith, ints, line, height, across)

  lower_on : AtLine e d.to
  unfolding AtLine
  lower_on =
      let a : ℤ = p.y -ℤ e.to.y in
      let b : ℤ = p.y -ℤ d.to.y in
      let slope : b *ℤ (drift e *ℤ fall d) ≡ b *ℤ (drift d *ℤ fall e) = ap (λ k. b *ℤ k) one_slope in
      let id = lower_identity (drift e) (fall e) (drift d) (fall d) e.to.x d.to.x a b in
      let line : (e.to.x *ℤ fall e) +ℤ (drift e *ℤ (a -ℤ b)) ≡ fall e *ℤ d.to.x =
      eq_of_mul (fall d) ((e.to.x *ℤ fall e) +ℤ (drift e *ℤ (a -ℤ b))) (fall e *ℤ d.to.x) falls (omega (arith, ints, id, one_x, slope)) in
      let height : drift e *ℤ (d.to.y -ℤ e.to.y) ≡ drift e *ℤ (a -ℤ b) = ap (λ k. drift e *ℤ k) (omega (arith, ints)) in
      omega (arith, ints, line, height)

module _ (edges : List Edge) (apart : AllPairs EdgesMeetAtEndsOnly edges) (p : Point) (d e : HalfEdge)
    (is_d : IsHalfEdge edges d) (is_e : IsHalfEdge edges e) (met_d : IsMet p d) (met_e : IsMet p e)
    (one_x : (x_at p.y e *ℤ fall d) ≡ (x_at p.y d *ℤ fall e)) (one_slope : (drift e *ℤ fall d) ≡ (drift d *ℤ fall e)) where
  falls_d : pos 0 <ℤ fall d
  falls_d = omega (arith, ints, met_d.lower_end, met_d.upper_end)

  falls_e : pos 0 <ℤ fall e
  falls_e = omega (arith, ints, met_e.lower_end, met_e.upper_end)

  not_turned : d ≡ twin e → ⊥
  not_turned t = let y : d.from.y ≡ e.to.y = ap (λ (h : HalfEdge). h.from.y) t in omega (arith, ints, y, met_d.upper_end, met_e.lower_end)

  pub upper_same : d.from.y ≤ℤ e.from.y → (d ≡ e) ⊎ (d.from ≡ e.from)
  upper_same le =
      elim (meet_at_ends edges apart d e d.from is_d is_e (on_first d.from d.to)
      (on_edge e d.from (omega (arith, ints, met_d.upper_end, met_e.lower_end)) le falls_e (upper_on p d e one_x one_slope falls_d))) [
        | inl same ↦ inl same
        | inr (inl t) ↦ absurd (not_turned t)
        | inr (inr (own, inl s)) ↦ inr s
        | inr (inr (own, inr s)) ↦ let y : d.from.y ≡ e.to.y = ap (λ (q : Point). q.y) s in absurd (omega (arith, ints, y, met_d.upper_end, met_e.lower_end))
      ]

  pub lower_same : e.to.y ≤ℤ d.to.y → (d ≡ e) ⊎ (d.to ≡ e.to)
  lower_same le =
      elim (meet_at_ends edges apart d e d.to is_d is_e (on_last d.from d.to)
      (on_edge e d.to le (omega (arith, ints, met_d.lower_end, met_e.upper_end)) falls_e (lower_on p d e one_x one_slope falls_d))) [
        | inl same ↦ inl same
        | inr (inl t) ↦ absurd (not_turned t)
        | inr (inr (own, inl s)) ↦ let y : d.to.y ≡ e.from.y = ap (λ (q : Point). q.y) s in absurd (omega (arith, ints, y, met_d.lower_end, met_e.upper_end))
        | inr (inr (own, inr s)) ↦ inr s
      ]

module _ (edges : List Edge) (apart : AllPairs EdgesMeetAtEndsOnly edges) (p : Point) (d e : HalfEdge)
    (is_d : IsHalfEdge edges d) (is_e : IsHalfEdge edges e) (met_d : IsMet p d) (met_e : IsMet p e)
    (one_x : (x_at p.y e *ℤ fall d) ≡ (x_at p.y d *ℤ fall e)) (one_slope : (drift e *ℤ fall d) ≡ (drift d *ℤ fall e)) where
  uppers : (d ≡ e) ⊎ (d.from ≡ e.from)
  uppers = elim (less_or_not d.from.y e.from.y) [
    | inl less ↦ upper_same edges apart p d e is_d is_e met_d met_e one_x one_slope (omega (arith, ints, less))
    | inr le ↦ elim (upper_same edges apart p e d is_e is_d met_e met_d (sym one_x) (sym one_slope) le) [
      | inl same ↦ inl (sym same)
      | inr at ↦ inr (sym at)
    ]
  ]

  lowers : (d ≡ e) ⊎ (d.to ≡ e.to)
  lowers = elim (less_or_not e.to.y d.to.y) [
    | inl less ↦ lower_same edges apart p d e is_d is_e met_d met_e one_x one_slope (omega (arith, ints, less))
    | inr le ↦ elim (lower_same edges apart p e d is_e is_d met_e met_d (sym one_x) (sym one_slope) le) [
      | inl same ↦ inl (sym same)
      | inr at ↦ inr (sym at)
    ]
  ]

  pub one_edge : d ≡ e
  one_edge = elim uppers [
    | inl same ↦ same
    | inr upper ↦ elim lowers [
      | inl same ↦ same
      | inr lower ↦ λ i. record { from = upper i; to = lower i }
    ]
  ]

-- of two met edges, where neither is nearer than the other, there is only one
pub nearest_is_one : (edges : List Edge) → AllPairs EdgesMeetAtEndsOnly edges → (p : Point) (d e : HalfEdge) → IsHalfEdge edges d → IsHalfEdge edges e →
    IsMet p d → IsMet p e → (IsNearer p d e → ⊥) → (IsNearer p e d → ⊥) → d ≡ e
nearest_is_one edges apart p d e is_d is_e met_d met_e not_d not_e = elim (less_or_not (x_at p.y e *ℤ fall d) (x_at p.y d *ℤ fall e)) [
  | inl less ↦ absurd (not_d (inl less))
  | inr le ↦ elim (less_or_not (x_at p.y d *ℤ fall e) (x_at p.y e *ℤ fall d)) [
    | inl less ↦ absurd (not_e (inl less))
    | inr ge ↦
        let one_x : (x_at p.y e *ℤ fall d) ≡ (x_at p.y d *ℤ fall e) = omega (arith, ints, le, ge) in
        elim (less_or_not (drift e *ℤ fall d) (drift d *ℤ fall e)) [
          | inl less ↦ absurd (not_d (inr (one_x, less)))
          | inr le_slope ↦ elim (less_or_not (drift d *ℤ fall e) (drift e *ℤ fall d)) [
            | inl less ↦ absurd (not_e (inr (sym one_x, less)))
            | inr ge_slope ↦ one_edge edges apart p d e is_d is_e met_d met_e one_x (omega (arith, ints, le_slope, ge_slope))
          ]
        ]
  ]
]

-- the edge that is seen from a place is one
pub seen_is_one : (edges : List Edge) → AllPairs EdgesMeetAtEndsOnly edges → (p : Point) (d e : HalfEdge) → IsSeen edges p d → IsSeen edges p e → d ≡ e
seen_is_one edges apart p d e one other =
    nearest_is_one edges apart p d e one.is_side other.is_side one.is_met other.is_met (other.none_nearer d one.is_side one.is_met) (one.none_nearer e other.is_side other.is_met)

-- one thing is seen from a place
pub one_is_seen : (edges : List Edge) → AllPairs EdgesMeetAtEndsOnly edges → SeesOne edges
one_is_seen edges apart q Outer Outer a b = refl
one_is_seen edges apart q Outer (At e) a b = absurd (a e b.is_side b.is_met)
one_is_seen edges apart q (At d) Outer a b = absurd (b d a.is_side a.is_met)
one_is_seen edges apart q (At d) (At e) a b = ap At (seen_is_one edges apart q d e a b)
