-- Steps round a vertex.
use Rattle.std.proofs.Common.{◌≡◌, ℕ, ◌<◌, sym, ap, subst, refl, ◌∙◌, suc, zero}
use Rattle.rotation_systems.specs.RotationSystem.{RotationSystem, IsRotationSystem, turn, mirrored, degree}

module _ (g : RotationSystem) (r : IsRotationSystem g) where
  pub turn_in : (k s : ℕ) → s < g.sides → turn g k s < g.sides
  turn_in zero s b = b
  turn_in (suc k) s b = r.ccw_in (turn g k s) (turn_in k s b)

  pub back_in : (k s : ℕ) → s < g.sides → turn (mirrored g) k s < g.sides
  back_in zero s b = b
  back_in (suc k) s b = r.cw_in (turn (mirrored g) k s) (back_in k s b)

  pub turn_from : (k s : ℕ) → s < g.sides → g.from (turn g k s) ≡ g.from s
  turn_from zero s b = refl
  turn_from (suc k) s b = r.ccw_from (turn g k s) (turn_in k s b) ∙ turn_from k s b

  pub back_from : (k s : ℕ) → s < g.sides → g.from (turn (mirrored g) k s) ≡ g.from s
  back_from zero s b = refl
  back_from (suc k) s b = r.cw_from (turn (mirrored g) k s) (back_in k s b) ∙ back_from k s b

  back_shift : (k u : ℕ) → g.cw (turn (mirrored g) k u) ≡ turn (mirrored g) k (g.cw u)
  back_shift zero u = refl
  back_shift (suc k) u = ap g.cw (back_shift k u)

  pub back_turn : (k s : ℕ) → s < g.sides → turn (mirrored g) k (turn g k s) ≡ s
  back_turn zero s b = refl
  back_turn (suc k) s b =
      back_shift k (turn g (suc k) s) ∙ (ap (turn (mirrored g) k) (r.cw_ccw (turn g k s) (turn_in k s b)) ∙ back_turn k s b)

  -- clockwise too one meets all half-edges of the vertex
  whole_back : (a s : ℕ) → a < g.sides → s < g.sides → g.from s ≡ g.from a → (k : ℕ) × (k < degree g (g.from a)) × (turn (mirrored g) (suc k) a ≡ s)
  whole_back a s b c e =
      let w = r.whole s a c b (sym e) in
      (w.0, subst (λ v. w.0 < degree g v) e w.1, ap (turn (mirrored g) (suc w.0)) (sym w.2) ∙ back_turn (suc w.0) s c)

  -- seen from behind too it is a rotation system
  pub mirrored_rotation : IsRotationSystem (mirrored g)
  mirrored_rotation = record {
    twin_in = r.twin_in;
    ccw_in = r.cw_in;
    cw_in = r.ccw_in;
    twin_twin = r.twin_twin;
    no_loop = r.no_loop;
    cw_ccw = r.ccw_cw;
    ccw_cw = r.cw_ccw;
    ccw_from = r.cw_from;
    cw_from = r.ccw_from;
    whole = λ a s b c e. whole_back a s b c e;
  }
