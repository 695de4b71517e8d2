-- One edge from vertex 0 to vertex 1.
use Rattle.std.proofs.Common.{◌≡◌, ◌≢◌, ℕ, ◌<◌, ◌≤◌, [], ◌∷◌, ◌⊎◌, inl, inr, refl, sym, arith, suc, zero}
use Rattle.rotation_systems.specs.Twins.{twin_number}
use Rattle.rotation_systems.specs.RotationSystem.{RotationSystem, IsRotationSystem, degree}
use Rattle.rotation_systems.proofs.Twins.{twin_twice}
use Rattle.cover_walks.specs.Orders.{at_outer, by_across}
use Rattle.cover_walks.specs.Walks.{odd_within, odd_count}
use Rattle.cover_walks.specs.Covers.{IsCoverOrder}
use Rattle.cover_walks.proofs.Numbers.{without, without_other, total_without}

-- round each end there is one half-edge
abbrev pub edge : RotationSystem
edge = record { sides = 2; twin = twin_number; ccw = λ s. s; cw = λ s. s; from = λ s. s }

two : (P : ℕ → Type 0) → P 0 → P 1 → (s : ℕ) → s < 2 → P s
two P a b zero h = a
two P a b (suc zero) h = b
two P a b (suc (suc n)) h = absurd (omega arith)

leaves_each : (v : ℕ) → v < 2 → 0 < degree edge v
leaves_each = two (λ v. 0 < degree edge v) (omega arith) (omega arith)

pub edge_is_rotation_system : IsRotationSystem edge
edge_is_rotation_system = record {
  twin_in = two (λ s. twin_number s < 2) (omega arith) (omega arith);
  ccw_in = λ s b. b;
  cw_in = λ s b. b;
  twin_twin = twin_twice;
  no_loop = two (λ s. twin_number s ≢ s) (λ e. omega arith) (λ e. omega arith);
  cw_ccw = λ s b. refl;
  ccw_cw = λ s b. refl;
  ccw_from = λ s b. refl;
  cw_from = λ s b. refl;
  whole = λ r s b c e. (0, leaves_each r b, sym e);
}

-- both its ends are odd
two_odd : (vertices : ℕ) → 2 ≤ vertices → 2 ≤ odd_count edge (λ _. 0) 0 vertices []
two_odd vertices h =
    let f = λ (v : ℕ). odd_within edge (λ _. 0) 0 [] v in
    let at_0 = total_without f 0 vertices (omega arith) in
    let at_1 = total_without (without f 0) 1 vertices (omega arith) in
    let kept : without f 0 1 ≡ f 1 = without_other f 0 1 (λ e. omega arith) in
    let one_0 : f 0 ≡ 1 = refl in
    let one_1 : f 1 ≡ 1 = refl in
    omega arith

pub edge_is_covered : IsCoverOrder edge (λ _. 0) 0 (1 ∷ [])
edge_is_covered = record {
  some = omega arith;
  inside = (omega arith, refl, tt);
  once = (λ h. h, tt);
  whole = λ s b e. two (λ s. (1 ≡ s) ⊎ (0 ≡ s) ⊎ ⊥) (inr (inl refl)) (inl refl) s b;
  encloses = (by_across (inl refl) (at_outer refl), at_outer refl, tt);
  last = refl;
  few = λ vertices below. inl (let n = below 1 (omega arith) in let odd = two_odd vertices (omega (arith, n)) in omega (arith, odd));
}
