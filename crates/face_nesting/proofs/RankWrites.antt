-- Ranks after one more face has got one.
use Rattle.std.proofs.Common.{arith, ◌≡◌, ◌⊎◌, inl, inr, ℕ, ◌+◌, ◌<◌, cond, List, length, set, ap, get_or-set_same, get_or-set_other}
use Rattle.std.specs.Prelude.{◌==◌}
use Rattle.std.proofs.lemmas.Bool.{cases_eq, cases_lt}
use Rattle.std.proofs.lemmas.Bool.Decides.{nat_tests}
use Rattle.std.proofs.lemmas.List.{get_or_past}
use Rattle.std.proofs.lemmas.List.Sums.{sum_by-set}
use Rattle.face_nesting.specs.Ranks.{no_rank, rank_at, unranked}

-- a face with a rank is one of the faces
pub ranked_within : (ranks : List ℕ) (f : ℕ) → rank_at ranks f < no_rank → f < length ranks
ranked_within ranks f ranked = elim (cases_lt f (length ranks)) [ inl less ↦ less | inr past ↦ absurd (omega (arith, get_or_past ranks f no_rank past, ranked)) ]

pub set_gives : (ranks : List ℕ) (g r : ℕ) → g < length ranks → rank_at (set ranks g r) g ≡ r
set_gives ranks g r within = get_or-set_same ranks g r no_rank within

pub set_keeps : (ranks : List ℕ) (g r f : ℕ) → rank_at ranks g ≡ no_rank → rank_at ranks f < no_rank → rank_at (set ranks g r) f ≡ rank_at ranks f
set_keeps ranks g r f bare ranked = get_or-set_other ranks g f r no_rank (λ same. omega (arith, ap (rank_at ranks) same, bare, ranked))

-- what has a rank then is that face, or had one before
pub set_ranks : (ranks : List ℕ) (g r f : ℕ) → rank_at (set ranks g r) f < no_rank → (f ≡ g) ⊎ (rank_at ranks f < no_rank)
set_ranks ranks g r f ranked = elim (cases_eq f g) [
  | inl same ↦ inl same
  | inr other ↦ inr (omega (arith, get_or-set_other ranks g f r no_rank other, ranked))
]

abbrev missing : ℕ → ℕ
missing n = cond (n == no_rank) 1 0

missing_not : (r : ℕ) → r < no_rank → missing r ≡ 0
missing_not r some = grind (arith, nat_tests)

-- one face fewer has none
pub unranked-set : (ranks : List ℕ) (g r : ℕ) → g < length ranks → rank_at ranks g ≡ no_rank → r < no_rank → unranked (set ranks g r) + 1 ≡ unranked ranks
unranked-set ranks g r within bare some =
    let step : unranked (set ranks g r) + missing (rank_at ranks g) ≡ unranked ranks + missing r = sum_by-set missing ranks g r no_rank within in
    let one : missing (rank_at ranks g) ≡ 1 = ap missing bare in
    omega (arith, step, one, missing_not r some)
