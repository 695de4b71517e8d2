-- Which faces are scrap, where their names are told.
use Rattle.std.proofs.Common.{◌≡◌, ◌<◌, ℕ, List, length}
use Rattle.std.specs.Prelude.{◌↔◌, Option, Some, None, slice_get, slice_index}
use Rattle.nest_base.specs.declared.places.Point.{Point}
use Rattle.plate_sides.specs.Links.{At}
use Rattle.plate_parts.specs.Parts.{IsScrap}
use Rattle.half_edges.specs.Numbers.{half_edges_of}
use Rattle.half_edges.specs.Graph.{Graph}
use Rattle.cover_plan.specs.Trails.{half_edge_of}
use Rattle.cover_plan.proofs.GraphHalves.{has_number}
use Rattle.part_scrap.specs.Naming.{TellsScrap}

-- the face of a half-edge has no name exactly where it's scrap
pub scrap_told : (graph : Graph) (places : List Point) (faces : List ℕ) (names : List (Option ℕ)) (s : ℕ) → TellsScrap graph.edges places faces names →
    s < length (half_edges_of graph.edges) → (slice_get names (slice_index faces s) ≡ Some None) ↔ IsScrap graph.edges places (At (half_edge_of graph s))
scrap_told graph places faces names s told below = told s (half_edge_of graph s) (has_number graph s below)
