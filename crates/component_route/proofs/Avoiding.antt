-- The half-edge to be avoided is the twin of the one that was moved last.
use Rattle.std.proofs.Common.{◌≡◌, sym, Option}
use Rattle.nest_base.specs.declared.numbers.Side.{Side}
use Rattle.rotation_systems.specs.Twins.{twin_number}
use Rattle.rotation_systems.specs.RotationSystem.{IsRotationSystem}
use Rattle.half_edges.specs.Graph.{Graph, rotations_of}
use Rattle.component_route.specs.Scans.{avoided_of, moved_last}

pub twin_of_moved : (x : Graph) → IsRotationSystem (rotations_of x) → (avoid : Option Side) → avoided_of (rotations_of x).sides avoid ≡ twin_number (moved_last (rotations_of x) avoid)
twin_of_moved x rot avoid = sym (rot.twin_twin (avoided_of (rotations_of x).sides avoid))
