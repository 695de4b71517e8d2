-- Vertices with an odd number of half-edges.
use Rattle.std.specs.Prelude.{◌≡◌, ◌⊎◌, ℕ, ◌%◌, List}
use Rattle.nest_base.specs.declared.places.Point.{Point}
use Rattle.nest_base.specs.declared.places.Edge.{Edge}
use Rattle.nest_base.specs.Selection.{HasCount, Enumerates}
use Rattle.plate_sides.specs.Components.{SameComponent}

-- n edges have an end at v, which is the number of half-edges that leave it
abbrev pub HasDegree : List Edge → Point → ℕ → Type 0
HasDegree edges v n = HasCount (λ (e : Edge). (e.low ≡ v) ⊎ (e.high ≡ v)) edges n

abbrev pub IsOdd : List Edge → Point → Type 0
IsOdd edges v = (n : ℕ) × HasDegree edges v n × (n % 2 ≡ 1)

-- the odd vertices of the component with this mark vertex, each once
abbrev pub AreOddVertices : List Edge → Point → List Point → Type 0
AreOddVertices edges mark vs = Enumerates (λ v. SameComponent edges v mark × IsOdd edges v) vs
