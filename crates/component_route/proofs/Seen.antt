-- A rotation system seen either way round.
use Rattle.std.proofs.Common.{◌≡◌, ℕ, ◌<◌, Bool, refl}
use Rattle.rotation_systems.specs.RotationSystem.{RotationSystem, IsRotationSystem, mirrored, degree}
use Rattle.cover_walks.specs.Choices.{HasUnburnt, Passes}
use Rattle.cover_walks.proofs.Turns.{mirrored_rotation}
use Rattle.cover_walks.proofs.Scans.{passes_in}
use Rattle.component_route.specs.declared.scan.Turn.{Turn}
use Rattle.component_route.specs.declared.scan.Turn.TheVariants.{Ccw, Cw}
use Rattle.component_route.specs.Scans.{seen}

module _ (g : RotationSystem) where
  pub seen_sides : (turn : Turn) → (seen turn g).sides ≡ g.sides
  seen_sides Ccw = refl
  seen_sides Cw = refl

  pub seen_degree : (turn : Turn) (s : ℕ) → degree (seen turn g) ((seen turn g).from s) ≡ degree g (g.from s)
  seen_degree Ccw s = refl
  seen_degree Cw s = refl

  pub seen_free : (turn : Turn) (burnt : ℕ → Bool) (s : ℕ) → HasUnburnt g burnt (g.from s) → HasUnburnt (seen turn g) burnt ((seen turn g).from s)
  seen_free Ccw burnt s h = h
  seen_free Cw burnt s h = h

  pub seen_in : (turn : Turn) (s : ℕ) → s < g.sides → s < (seen turn g).sides
  seen_in Ccw s b = b
  seen_in Cw s b = b

  pub seen_rotation : IsRotationSystem g → (turn : Turn) → IsRotationSystem (seen turn g)
  seen_rotation r Ccw = r
  seen_rotation r Cw = mirrored_rotation g r

  -- a half-edge to which a scan has come is one of the system
  pub seen_at : IsRotationSystem g → (turn : Turn) (burnt : ℕ → Bool) (a avoid k t : ℕ) → a < g.sides → Passes (seen turn g) burnt a avoid k t → t < g.sides
  seen_at r Ccw burnt a avoid k t b p = passes_in g r burnt a avoid b p
  seen_at r Cw burnt a avoid k t b p = passes_in (mirrored g) (mirrored_rotation g r) burnt a avoid b p
