-- So many chains are within the limit of a component.
use Rattle.std.proofs.Common.{arith, ◌≡◌, ◌⊎◌, inl, inr, ℕ, ◌+◌, ◌-◌, ◌<◌, ◌≤◌, List, [], ◌∷◌, length, refl}
use Rattle.nest_base.specs.declared.places.Point.{Point}
use Rattle.nest_base.specs.declared.places.Edge.{Edge}
use Rattle.plate_sides.specs.Odd.{AreOddVertices}
use Rattle.plate_sides.specs.Limit.{IsLimit, HasOuter, no_odd, outer_odd, inner_odd}

-- root is 1 where the first vertex is odd, as it is exactly where some odd vertex is an outer one, and else 0
pub within_limit : (edges : List Edge) (mark : Point) (odd : List Point) → AreOddVertices edges mark odd →
    (root : ℕ) → ((root ≡ 1) × HasOuter edges mark odd) ⊎ ((root ≡ 0) × (HasOuter edges mark odd → ⊥)) →
    (chains : ℕ) → 0 < chains → (chains + root ≤ length odd) ⊎ ((chains ≡ 1) × (root ≡ 0)) → (n : ℕ) × IsLimit edges mark n × (chains ≤ n)
within_limit edges mark [] are root first chains some (inl few) = absurd (omega (arith, few, some))
within_limit edges mark [] are root first chains some (inr (one, even)) = (1, no_odd are refl, omega (arith, one))
within_limit edges mark (v ∷ odd) are root (inl (first, outer)) chains some (inl few) =
    (length (v ∷ odd) - 1, outer_odd are outer refl, omega (arith, few, first))
within_limit edges mark (v ∷ odd) are root (inl (first, outer)) chains some (inr (one, even)) = absurd (omega (arith, first, even))
within_limit edges mark (v ∷ odd) are root (inr (first, inner)) chains some (inl few) =
    (length (v ∷ odd), inner_odd are (omega arith) inner refl, omega (arith, few))
within_limit edges mark (v ∷ odd) are root (inr (first, inner)) chains some (inr (one, even)) =
    (length (v ∷ odd), inner_odd are (omega arith) inner refl, omega (arith, one))
