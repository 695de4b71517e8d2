-- Names that each name a part of their own aren't refused.
use Rattle.std.proofs.Common.{◌≡◌, ◌≢◌, List, [], ◌∷◌, ◌++◌, length, refl, subst, sym}
use Rattle.std.specs.Prelude.{All, Some, slice_get}
use Rattle.nest_base.proofs.ListReads.{All-read}
use Rattle.nest_base.specs.declared.places.Point.{Point}
use Rattle.nest_base.specs.declared.places.Edge.{Edge}
use Rattle.nest_base.specs.declared.drawing.Name.{Name}
use Rattle.plate_parts.specs.Parts.{AreDistinct, NameFault, IsFirstFault, IsWellPlaced, on_edge, in_outer_face, one_face, OnEdge, InOuterFace, OneFace}
use Rattle.part_scrap.specs.Naming.{places_of}
use Rattle.part_scrap.specs.Refusals.{IsPartRefusal}
use Rattle.part_scrap.specs.declared.error.PartError.{PartError}
use Rattle.part_scrap.specs.declared.error.PartError.TheVariants.{OnLine, NamesOuter, TwoNames, OutOfMemory}

middle_read : (before after : List Point) (p : Point) → slice_get (before ++ p ∷ after) (length before) ≡ Some p
middle_read [] after p = refl
middle_read (q ∷ before) after p = middle_read before after p

-- the middle one of places that are well placed is
well_placed_at : (edges : List Edge) (names before after : List Point) (p : Point) → All (IsWellPlaced edges) names → names ≡ before ++ p ∷ after → IsWellPlaced edges p
well_placed_at edges names before after p all split =
    All-read (IsWellPlaced edges) names (length before) p all (subst (λ l. slice_get l (length before) ≡ Some p) (sym split) (middle_read before after p))

fault_not_distinct : (edges : List Edge) (names : List Point) (fault : NameFault) → IsFirstFault edges names (Some fault) → AreDistinct edges names → ⊥
fault_not_distinct edges names fault (on_edge before after p split front on) distinct = (well_placed_at edges names before after p distinct.well_placed split).off_edges on
fault_not_distinct edges names fault (in_outer_face before after p split front off outer) distinct = (well_placed_at edges names before after p distinct.well_placed split).inside outer
fault_not_distinct edges names fault (one_face before between after p q placed split apart one) distinct = distinct.apart before between after p q split one

pub names_not_refused : (edges : List Edge) (names : List Name) (e : PartError) → AreDistinct edges (places_of names) → IsPartRefusal edges names e → e ≢ OutOfMemory → ⊥
names_not_refused edges names (OnLine line) distinct refused some = fault_not_distinct edges (places_of names) (OnEdge refused.0) refused.1 distinct
names_not_refused edges names (NamesOuter line) distinct refused some = fault_not_distinct edges (places_of names) (InOuterFace refused.0) refused.1 distinct
names_not_refused edges names (TwoNames first second) distinct refused some = fault_not_distinct edges (places_of names) (OneFace refused.0 refused.1) refused.2 distinct
names_not_refused edges names OutOfMemory distinct refused some = some refl
