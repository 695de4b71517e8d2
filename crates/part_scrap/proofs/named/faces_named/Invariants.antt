use Rattle.std.proofs.Common.{◌<◌, take}
use Rattle.std.specs.Prelude.{All}
use Rattle.plate_parts.specs.Parts.{IsWellPlaced}
use Rattle.face_nesting.specs.Numbering.{face_numbers_of}
use Rattle.part_scrap.specs.Naming.{places_of, AreFacesAt}
use Rattle.part_scrap.proofs.named.faces_named.Given as goal

abbrev pub invariant-loop-name : goal.invariant-loop-name
invariant-loop-name l =
    AreFacesAt l.graph.edges l.faces.faces (take l.name-index (places_of l.names)) (face_numbers_of l.named.items) ×
    All (λ f. f.0 < l.faces.count) l.named.items × All (IsWellPlaced l.graph.edges) (take l.name-index (places_of l.names))
