use Rattle.cover_walks.proofs.Scans.{passes_no_end, turned_all, turned_free}
use Rattle.cover_walks.proofs.Turns.{mirrored_rotation}
use Rattle.rotation_systems.specs.RotationSystem.{mirrored}
use Rattle.std.proofs.Common.{refl}
use Rattle.cover_walks.proofs.laws.scans_end.Goals as goal

pub returns-clause-end : goal.returns-clause-end
returns-clause-end c = λ g burnt a avoid k t r b some many.
    (λ p. passes_no_end g r burnt a avoid b p many some, λ p. passes_no_end (mirrored g) (mirrored_rotation g r) burnt a avoid b p many some)

pub returns-clause-all : goal.returns-clause-all
returns-clause-all c = λ g burnt a k t r b p many. turned_all g r burnt a b p many

pub returns-clause-one : goal.returns-clause-one
returns-clause-one c = λ g burnt a k t r b p n. turned_free g r burnt a b p refl n
