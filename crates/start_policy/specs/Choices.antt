-- Which site of a list is chosen.
use Rattle.std.specs.Borrow.{Bor}
use Rattle.std.specs.Prelude.{◌≡◌, ◌<◌, ℕ, ℤ, ◌+ℤ◌, ◌-ℤ◌, ◌*ℤ◌, ◌<ℤ◌, List, Some, slice_get}
use Rattle.nest_base.specs.declared.places.Point.{Point}
use Rattle.nest_base.specs.Order.{IsMarkedBefore}
use Rattle.nest_base.specs.Range.{IsWithin}
use Rattle.start_policy.specs.declared.site.Site.{Site}

-- the site at this place of the list comes before all others: no site goes before it, and it goes before each that stands in front of it
pub record IsFirstBy (goes_before : Site → Site → Type 0) (sites : List Site) (index : ℕ) : Type 0 where
  pub site : Site
  pub stands : slice_get sites index ≡ Some site
  pub first : (k : ℕ) (other : Site) → slice_get sites k ≡ Some other → goes_before other site → ⊥
  pub earliest : (k : ℕ) (other : Site) → k < index → slice_get sites k ≡ Some other → goes_before site other

-- a lies west of b, or north of it at the same x
abbrev pub IsWestOf : Site → Site → Type 0
IsWestOf a b = IsMarkedBefore a.at b.at

-- the square of the distance of two places
abbrev pub squared_distance : Point → Point → ℤ
squared_distance p q = ((p.x -ℤ q.x) *ℤ (p.x -ℤ q.x)) +ℤ ((p.y -ℤ q.y) *ℤ (p.y -ℤ q.y))

-- a lies nearer to this place than b
abbrev pub IsNearer : Point → Site → Site → Type 0
IsNearer last a b = squared_distance a.at last <ℤ squared_distance b.at last

-- both coordinates of its place lie within plus and minus n
abbrev pub IsSiteWithin : ℕ → Site → Type 0
IsSiteWithin n site = IsWithin n site.at

-- a chooser may answer this index for these sites and this place: that's what is known of its calls
abbrev pub IsAnswer : (Bor (List Site) → Point → ℕ → Type 0) → List Site → Point → ℕ → Type 0
IsAnswer answers sites last index = (list : Bor (List Site)) × (list.now ≡ sites) × answers list last index
