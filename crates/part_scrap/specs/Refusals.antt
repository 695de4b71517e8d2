-- Why names don't name parts, by the lines of the file that they come from.
use Rattle.std.specs.Prelude.{◌≡◌, ℕ, ◌<◌, List, Some, slice_get}
use Rattle.nest_base.specs.declared.places.Edge.{Edge}
use Rattle.nest_base.specs.declared.drawing.Name.{Name}
use Rattle.plate_parts.specs.Parts.{IsFirstFault, OnEdge, InOuterFace, OneFace}
use Rattle.part_scrap.specs.declared.error.PartError.{PartError}
use Rattle.part_scrap.specs.declared.error.PartError.TheVariants.{OnLine, NamesOuter, TwoNames, OutOfMemory}
use Rattle.part_scrap.specs.Naming.{places_of, file_lines_of}

-- it tells the first thing that is wrong with the names
abbrev pub IsPartRefusal : List Edge → List Name → PartError → Type 0
IsPartRefusal edges names (OnLine line) =
    (i : ℕ) × IsFirstFault edges (places_of names) (Some (OnEdge i)) × (slice_get (file_lines_of names) i ≡ Some line)
IsPartRefusal edges names (NamesOuter line) =
    (i : ℕ) × IsFirstFault edges (places_of names) (Some (InOuterFace i)) × (slice_get (file_lines_of names) i ≡ Some line)
IsPartRefusal edges names (TwoNames first second) =
    (i j : ℕ) × IsFirstFault edges (places_of names) (Some (OneFace i j)) × (slice_get (file_lines_of names) i ≡ Some first) ×
    (slice_get (file_lines_of names) j ≡ Some second)
IsPartRefusal edges names OutOfMemory = Unit {0}

-- the first number that stands a second time in a list stands at place j, and before at place i
pub record IsFirstTwice (xs : List ℕ) (i j : ℕ) : Type 0 where
  pub number : ℕ
  pub first : slice_get xs i ≡ Some number
  pub second : slice_get xs j ≡ Some number
  pub in_order : i < j
  pub once_before : (k l x : ℕ) → k < l → l < j → slice_get xs k ≡ Some x → slice_get xs l ≡ Some x → ⊥

-- it tells the first two names that name one face, where by number of a name these are the faces and the lines
abbrev pub IsClash : List ℕ → List ℕ → PartError → Type 0
IsClash named lines (TwoNames first second) =
    (i j : ℕ) × IsFirstTwice named i j × (slice_get lines i ≡ Some first) × (slice_get lines j ≡ Some second)
IsClash named lines OutOfMemory = Unit {0}
IsClash named lines _ = ⊥
