-- The edges keep the points of the segments.
use Rattle.std.proofs.Common.{◌⊎◌, arith, ◌≡◌, ℕ, zero, suc, ◌+◌, ◌<◌, ℤ, ◌-ℤ◌, List, inl, inr}
use Rattle.std.specs.Prelude.{Contains, unsigned_abs}
use Rattle.std.proofs.lemmas.Int.{ints}
use Rattle.std.proofs.lemmas.List.Elements.{All-contains}
use Rattle.nest_base.specs.declared.places.Point.{Point}
use Rattle.nest_base.specs.declared.places.Segment.{Segment}
use Rattle.nest_base.specs.declared.places.Edge.{Edge}
use Rattle.nest_base.specs.Plane.{RationalPoint, rational, IsOn, IsBetween}
use Rattle.nest_base.specs.Order.{IsBefore}
use Rattle.nest_base.proofs.Points.{turned_on, across_place, up_place}
use Rattle.plate_edges.specs.Cuts.{HasLength, IsCutPoint}
use Rattle.plate_edges.specs.Edges.{AreEdgesOf, IsEdge, IsInside}
use Rattle.plate_edges.specs.Laws.{EdgesKeepPoints}
use Rattle.plate_edges.specs.Points.{IsOnEdges}
use Rattle.plate_edges.proofs.ApartEdges.{first_cut, last_cut}
use Rattle.plate_edges.proofs.Deciding.{on_edges_or_not}
use Rattle.plate_edges.proofs.Halves.{on_half}
use Rattle.plate_edges.proofs.Insides.{on_part, between_inside}
use Rattle.plate_edges.proofs.Orders.{by_order}

-- how far a and b lie apart
size : Point → Point → ℕ
size a b = unsigned_abs (b.x -ℤ a.x) + unsigned_abs (b.y -ℤ a.y)

-- the halves add up
distance_halves : (a q b : ℤ) → IsBetween a q b → unsigned_abs (b -ℤ a) ≡ unsigned_abs (q -ℤ a) + unsigned_abs (b -ℤ q)
distance_halves a q b (inl h) = omega (arith, ints, h)
distance_halves a q b (inr h) = omega (arith, ints, h)

size_halves : (a q b : Point) → IsBetween a.x q.x b.x → IsBetween a.y q.y b.y → size a b ≡ size a q + size q b
unfolding size
size_halves a q b x y = omega (arith, distance_halves a.x q.x b.x x, distance_halves a.y q.y b.y y)

-- and neither is nothing
some_size : (a b : Point) → IsBefore a b → 0 < size a b
unfolding size
some_size a b (inl h) = omega (arith, ints, h)
some_size a b (inr h) = omega (arith, ints, h.1)

-- a and b are cut points of s, in order, and p lies on their part
record HoldPoint (segments : List Segment) (s : Segment) (p : RationalPoint) (a b : Point) : Type 0 where
  order : IsBefore a b
  low_cut : IsCutPoint segments s a
  high_cut : IsCutPoint segments s b
  on : IsOn p a b

-- with a cut point inside, those of one half do
record HaveSmaller (segments : List Segment) (s : Segment) (p : RationalPoint) (a b : Point) : Type 0 where
  low : Point
  high : Point
  smaller : size low high < size a b
  hold : HoldPoint segments s p low high

half : (segments : List Segment) (s : Segment) (p : RationalPoint) (a b : Point) → HoldPoint segments s p a b →
    (q : Point) → IsCutPoint segments s q → IsInside (rational q) a b → HaveSmaller segments s p a b
half segments s p a b h q cut inside =
    let between = between_inside a q b h.order inside in
    let sum = size_halves a q b (across_place q a b inside.0) (up_place q a b inside.0) in
    elim (on_half a b q p h.order inside h.on) [
      | inl on_low ↦ record {
        low = a;
        high = q;
        smaller = omega (arith, sum, some_size q b between.1);
        hold = record { order = between.0; low_cut = h.low_cut; high_cut = cut; on = on_low };
      }
      | inr on_high ↦ record {
        low = q;
        high = b;
        smaller = omega (arith, sum, some_size a q between.0);
        hold = record { order = between.1; low_cut = cut; high_cut = h.high_cut; on = on_high };
      }
    ]

-- So, by halves, an edge has p. It's found only by contradiction, since the cut points inside aren't listed.
kept_between : (segments : List Segment) (edges : List Edge) (s : Segment) → AreEdgesOf segments edges → Contains segments s →
    (p : RationalPoint) → (IsOnEdges edges p → ⊥) → (n : ℕ) (a b : Point) → size a b < n → HoldPoint segments s p a b → ⊥
kept_between segments edges s all c p none zero a b small h = omega (arith, small)
kept_between segments edges s all c p none (suc n) a b small h =
    let e : Edge = record { low = a; high = b } in
    let uncut : (q : Point) → IsCutPoint segments s q → IsInside (rational q) a b → ⊥ = λ q cut inside.
    (let part = half segments s p a b h q cut inside in
    kept_between segments edges s all c p none n part.low part.high (omega (arith, small, part.smaller)) part.hold) in
    let edge : IsEdge segments e =
    record { ends_in_order = h.order; piece = (s, c, record { low_cut = h.low_cut; high_cut = h.high_cut; uncut = uncut }) } in
    none (e, (all.are_all e).1 edge, h.on)

-- a segment, with its lesser end first, is such a part
whole : (segments : List Segment) (s : Segment) → Contains segments s → HasLength s → (p : RationalPoint) → IsOn p s.a s.b →
    HoldPoint segments s p s.a s.b ⊎ HoldPoint segments s p s.b s.a
whole segments s c long p on =
    let first = first_cut segments s c in
    let last = last_cut segments s c in
    by_order s.a s.b
    (λ before. inl (record { order = before; low_cut = first; high_cut = last; on = on }))
    (λ same. absurd (long same))
    (λ after. inr (record { order = after; low_cut = last; high_cut = first; on = turned_on s.a s.b p on }))

kept : (segments : List Segment) (edges : List Edge) (s : Segment) → AreEdgesOf segments edges → Contains segments s → HasLength s →
    (p : RationalPoint) → IsOn p s.a s.b → IsOnEdges edges p
kept segments edges s all c long p on = elim (on_edges_or_not edges p) [
  | inl some ↦ some
  | inr none ↦ elim (whole segments s c long p on) [
    | inl h ↦ absurd (kept_between segments edges s all c p none (suc (size s.a s.b)) s.a s.b (omega arith) h)
    | inr h ↦ absurd (kept_between segments edges s all c p none (suc (size s.b s.a)) s.b s.a (omega arith) h)
  ]
]

pub keep_points : EdgesKeepPoints
keep_points segments edges long all p = (
  (λ some. let edge : IsEdge segments some.0 = (all.are_all some.0).0 some.1 in
      let s = edge.piece.0 in
      (s, edge.piece.1, on_part s.a s.b some.0.low some.0.high p edge.piece.2.low_cut.0 edge.piece.2.high_cut.0 some.2)),
  (λ some. kept segments edges some.0 all some.1 (All-contains HasLength segments some.0 long some.1) p some.2),
)
