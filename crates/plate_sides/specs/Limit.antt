-- How many pierces a component may take.
use Rattle.std.specs.Prelude.{◌≡◌, ℕ, ◌-◌, ◌<◌, List, length, Contains, []}
use Rattle.nest_base.specs.declared.places.Point.{Point}
use Rattle.nest_base.specs.declared.places.Edge.{Edge}
use Rattle.plate_sides.specs.Links.{IsOuterVertex}
use Rattle.plate_sides.specs.Odd.{AreOddVertices}

-- one of these vertices of the component is an outer vertex
abbrev pub HasOuter : List Edge → Point → List Point → Type 0
HasOuter edges mark odd = (v : Point) × Contains odd v × IsOuterVertex edges mark v

-- 1 where there is no odd vertex, else their number, less 1 where one of them is an outer vertex
pub data IsLimit (edges : List Edge) (mark : Point) (n : ℕ) : Type 0 where
  no_odd : AreOddVertices edges mark [] → n ≡ 1 → IsLimit edges mark n
  outer_odd : {odd : List Point} → AreOddVertices edges mark odd → HasOuter edges mark odd → n ≡ length odd - 1 → IsLimit edges mark n
  inner_odd : {odd : List Point} → AreOddVertices edges mark odd → 0 < length odd → (HasOuter edges mark odd → ⊥) →
      n ≡ length odd → IsLimit edges mark n
