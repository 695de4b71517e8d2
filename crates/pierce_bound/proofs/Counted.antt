-- The odd vertices of components, counted vertex by vertex.
use Rattle.std.proofs.Common.{arith, ◌≡◌, ℕ, ◌+◌, ◌≤◌, ◌%◌, [], ap}
use Rattle.rotation_systems.specs.RotationSystem.{total, degree}
use Rattle.half_edges.specs.Graph.{Graph, rotations_of, component_of}
use Rattle.cover_walks.specs.Walks.{is_odd, odd_within}
use Rattle.pierce_bound.proofs.Tallies.{counted_few}

-- 1 for an odd vertex, 0 for each other
abbrev pub odd_at : Graph → ℕ → ℕ
odd_at graph v = is_odd (rotations_of graph) [] v

pub odd_is : (graph : Graph) (v : ℕ) → odd_at graph v ≡ degree (rotations_of graph) v % 2
odd_is graph v =
    let none : degree (rotations_of graph) v + 0 ≡ degree (rotations_of graph) v = omega arith in
    ap (λ n. n % 2) none

even_or_odd : (n : ℕ) → n % 2 ≤ 1
even_or_odd n = grind arith

pub odd-le : (graph : Graph) (v : ℕ) → odd_at graph v ≤ 1
odd-le graph v = even_or_odd (degree (rotations_of graph) v + 0)

-- no more than there are vertices
pub odd_few : (graph : Graph) (c n : ℕ) → total (odd_within (rotations_of graph) (component_of graph) c []) n ≤ n
odd_few graph c n = counted_few (component_of graph) (odd_at graph) c n (odd-le graph)
