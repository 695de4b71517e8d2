-- Orders one behind the other: the edges of both.
use Rattle.std.proofs.Common.{◌⊎◌, inl, inr, ℕ, ◌+◌, ◌≤◌, ◌<◌, List, [], ◌∷◌, ◌++◌, length, refl}
use Rattle.std.specs.Prelude.{All, Contains}
use Rattle.std.proofs.lemmas.List.Elements.{All-contains}
use Rattle.nest_base.proofs.Lists.{Contains-none, Contains-head, Contains-later, Contains-cases, All-from_contains}
use Rattle.rotation_systems.specs.RotationSystem.{RotationSystem, IsRotationSystem}
use Rattle.cover_walks.specs.Orders.{Has, Once}
use Rattle.cover_walks.specs.Walks.{Inside}
use Rattle.cover_walks.proofs.Holdings.{has_inside}
use Rattle.cover_walks.proofs.Parity.{few_edges}

module _ (g : RotationSystem) where
  -- an edge of both orders is one of either
  pub Has-either : (xs ys : List ℕ) (s : ℕ) → Has g (xs ++ ys) s → Has g xs s ⊎ Has g ys s
  Has-either [] ys s has = inr has
  Has-either (x ∷ xs) ys s (inl is) = inl (inl is)
  Has-either (x ∷ xs) ys s (inr (inl is)) = inl (inr (inl is))
  Has-either (x ∷ xs) ys s (inr (inr has)) = elim (Has-either xs ys s has) [ inl first ↦ inl (inr (inr first)) | inr second ↦ inr second ]

  pub Has-before : (xs ys : List ℕ) (s : ℕ) → Has g xs s → Has g (xs ++ ys) s
  Has-before [] ys s has = absurd has
  Has-before (x ∷ xs) ys s (inl is) = inl is
  Has-before (x ∷ xs) ys s (inr (inl is)) = inr (inl is)
  Has-before (x ∷ xs) ys s (inr (inr has)) = inr (inr (Has-before xs ys s has))

  pub Has-contained : (xs : List ℕ) (s : ℕ) → Contains xs s → Has g xs s
  Has-contained [] s stands = absurd (Contains-none s stands)
  Has-contained (x ∷ xs) s stands = elim (Contains-cases x s xs stands) [ inl is ↦ inl is | inr later ↦ inr (inr (Has-contained xs s later)) ]

  -- no edge stands twice in both
  pub Once-both : (xs ys : List ℕ) → Once g xs → Once g ys → ((s : ℕ) → Has g xs s → Has g ys s → ⊥) → Once g (xs ++ ys)
  Once-both [] ys once_x once_y apart = once_y
  Once-both (x ∷ xs) ys once_x once_y apart = (
    λ twice. elim (Has-either xs ys x twice) [ inl first ↦ once_x.0 first | inr second ↦ apart x (inl refl) second ],
    Once-both xs ys once_x.1 once_y (λ s has_x has_y. apart s (inr (inr has_x)) has_y),
  )

  inside_all : (xs : List ℕ) → ((s : ℕ) → Contains xs s → s < g.sides) → Inside g (λ v. 0) 0 xs
  inside_all [] within = tt
  inside_all (x ∷ xs) within = (within x (Contains-head x xs), refl, inside_all xs (λ s stands. within s (Contains-later x s xs stands)))

  -- so they have no more edges than there are
  pub all_few : (xs : List ℕ) → IsRotationSystem g → All (λ s. s < g.sides) xs → Once g xs → length xs + length xs ≤ g.sides
  all_few xs rotation within once =
      few_edges g rotation (λ v. 0) 0 xs (inside_all xs (λ s stands. All-contains (λ t. t < g.sides) xs s within stands)) once

  pub all_within : (component : ℕ → ℕ) (c : ℕ) (xs : List ℕ) → IsRotationSystem g → Inside g component c xs → All (λ s. s < g.sides) xs
  all_within component c xs rotation inside = All-from_contains (λ s. s < g.sides) xs (λ s stands. has_inside g rotation component c xs s inside (Has-contained xs s stands))
