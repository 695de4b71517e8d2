-- The bounds of components, added up.
use Rattle.std.proofs.Common.{arith, ◌≡◌, inl, inr, ℕ, zero, suc, ◌+◌, ◌≤◌, cond, List, [], ◌∷◌, ◌++◌, length, take, ap}
use Rattle.std.specs.Prelude.{Some, slice_get, sum, ◌==◌}
use Rattle.std.specs.List.{AllZip}
use Rattle.std.proofs.lemmas.Bool.{cases_eq, eq-eqb, ne_eqb}
use Rattle.std.proofs.lemmas.List.Sums.{sum_by_push}
use Rattle.nest_base.specs.declared.places.Point.{Point}
use Rattle.nest_base.specs.declared.places.Edge.{Edge}
use Rattle.nest_base.specs.Limits.{most_half_edges}
use Rattle.plate_sides.specs.Odd.{AreOddVertices}
use Rattle.rotation_systems.specs.RotationSystem.{total}
use Rattle.half_edges.specs.Graph.{Graph, rotations_of, component_of}
use Rattle.half_edges.specs.PlaneGraphs.{IsPlaneGraph}
use Rattle.half_edges.proofs.GraphSizes.{length-vertices-le}
use Rattle.face_nesting.proofs.Prefixes.{AllZip-one_more}
use Rattle.cover_walks.specs.Walks.{odd_count}
use Rattle.cover_walks.proofs.Numbers.{total_none}
use Rattle.cover_plan.proofs.OddVertices.{odd_vertices}
use Rattle.plate_sides.specs.Bound.{IsBound, no_odd, some_odd}
use Rattle.plate_plans.proofs.OneBound.{same_many}
use Rattle.pierce_bound.proofs.Counted.{odd_at, odd-le}
use Rattle.pierce_bound.proofs.Tallies.{counted_for, total_more}

total_plus : (f g : ℕ → ℕ) (n : ℕ) → total (λ k. f k + g k) n ≡ total f n + total g n
total_plus f g zero = omega arith
total_plus f g (suc n) = omega (arith, total_plus f g n)

-- a thing counts for one place alone
one_place : (p w n : ℕ) → total (λ d. cond (p == d) w 0) n ≤ w
one_place p w zero = omega arith
one_place p w (suc n) = elim (cases_eq p n) [
  | inl is ↦
      let here : cond (p == n) w 0 ≡ w = ap (λ b. cond b w 0) (eq-eqb p n is) in
      let none : total (λ d. cond (p == d) w 0) n ≡ 0 = total_none (λ d. cond (p == d) w 0) n (λ k below. ap (λ b. cond b w 0) (ne_eqb p k (λ e. omega (arith, e, is, below)))) in
      omega (arith, here, none)
  | inr other ↦
      let elsewhere : cond (p == n) w 0 ≡ 0 = ap (λ b. cond b w 0) (ne_eqb p n other) in
      omega (arith, elsewhere, one_place p w n)
]

-- so what n things count for m places is no more than n, where each counts at most 1
all_few : (place weight : ℕ → ℕ) (n m : ℕ) → ((k : ℕ) → weight k ≤ 1) → total (λ d. total (counted_for place weight d) n) m ≤ n
all_few place weight zero m few = omega (arith, total_none (λ d. total (counted_for place weight d) zero) m (λ k below. omega arith))
all_few place weight (suc n) m few =
    omega (
      arith,
      total_plus (λ d. counted_for place weight d n) (λ d. total (counted_for place weight d) n) m,
      one_place (place n) (weight n) m,
      few n,
      all_few place weight n m few,
    )

-- the odd vertices of the first c components
abbrev pub odd_so_far : Graph → ℕ → ℕ
odd_so_far graph c = total (λ d. odd_count (rotations_of graph) (component_of graph) d (length graph.vertices) []) c

pub odd_so_far-le : (graph : Graph) (c : ℕ) → odd_so_far graph c ≤ length graph.vertices
odd_so_far-le graph c = all_few (component_of graph) (odd_at graph) (length graph.vertices) c (odd-le graph)

-- a bound is no more than the number of odd vertices, or 1
bound-le : (edges : List Edge) (mark : Point) (n : ℕ) (odd : List Point) → IsBound edges mark n → AreOddVertices edges mark odd → n ≤ 1 + length odd
bound-le edges mark n odd (no_odd none is) are = omega (arith, is)
bound-le edges mark n odd (some_odd are_too some is) are = omega (arith, is, same_many are_too are)

-- the bounds of the first c components have this sum
pub record AreSummed (graph : Graph) (c total : ℕ) : Type 0 where
  pub bounds : List ℕ
  pub are_bounds : AllZip (IsBound graph.edges) (take c graph.marks) bounds
  pub is_sum : total ≡ sum bounds
  pub few : total ≤ c + odd_so_far graph c

-- one bound more
pub one_more_bound : (graph : Graph) (c sum_so_far n : ℕ) (mark : Point) → IsPlaneGraph graph → AreSummed graph c sum_so_far → slice_get graph.marks c ≡ Some mark →
    IsBound graph.edges mark n → AreSummed graph (c + 1) (sum_so_far + n)
one_more_bound graph c sum_so_far n mark plane are at is =
    let (odd, are_odd, is_many) = odd_vertices plane c mark at in
    record {
      bounds = are.bounds ++ n ∷ [];
      are_bounds = AllZip-one_more (IsBound graph.edges) graph.marks are.bounds c mark n at are.are_bounds is;
      is_sum = omega (arith, are.is_sum, sum_by_push (λ (b : ℕ). b) are.bounds n);
      few = omega (
        arith,
        are.few,
        bound-le graph.edges mark n odd is are_odd,
        is_many,
        total_more (λ d. odd_count (rotations_of graph) (component_of graph) d (length graph.vertices) []) c,
      );
    }

-- the sum is small
pub summed_few : (graph : Graph) (c sum_so_far : ℕ) → IsPlaneGraph graph → AreSummed graph c sum_so_far → sum_so_far ≤ c + most_half_edges
summed_few graph c sum_so_far plane are =
    omega (arith, are.few, odd_so_far-le graph c, plane.few, length-vertices-le graph.edges graph.vertices plane.are_vertices)
