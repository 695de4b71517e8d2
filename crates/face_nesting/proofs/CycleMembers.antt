-- Which half-edges stand in a cycle, and which cycle each stands in, by number.
use Rattle.std.proofs.Common.{arith, ◌≡◌, ℕ, zero, suc, ◌+◌, ◌<◌, ◌≤◌, inl, inr, List, [], ◌∷◌, ◌++◌, length, get_or, sym, ap, subst, ◌∙◌}
use Rattle.std.specs.Prelude.{Contains, Some, slice_get}
use Rattle.std.proofs.lemmas.Bool.{cases_lt}
use Rattle.std.proofs.lemmas.Option.{slice_get_within, slice_get-get_or}
use Rattle.rotation_systems.specs.RotationSystem.{RotationSystem, along}
use Rattle.nest_base.proofs.ListReads.{read_below, one_read, Contains-from_read, read_from_Contains, read_kept, read_pushed}
use Rattle.face_nesting.specs.Cycles.{IsCycleFrom, AreAllCycles}
use Rattle.face_nesting.proofs.Zips.{zip_first, zip_second}
use Rattle.face_nesting.proofs.CycleSteps.{path_goes}
use Rattle.face_nesting.proofs.CycleLists.{joined_read, cycles_few, sides_few}

-- a cycle goes on within itself
pub cycle_after : (g : RotationSystem) (first : ℕ) (cycle : List ℕ) (s : ℕ) → IsCycleFrom g first cycle → Contains cycle s → Contains cycle (along g s)
cycle_after g first cycle s is stands = let place = read_from_Contains cycle s stands in of place.0 place.1
  where
    of : (k : ℕ) → slice_get cycle k ≡ Some s → Contains cycle (along g s)
    of k at = elim (cases_lt (k + 1) (length cycle)) [
      | inl inside ↦
          let next = slice_get-get_or cycle (k + 1) 0 inside in
          let goes = path_goes g cycle first k s (get_or cycle (k + 1) 0) is.goes_round (read_kept cycle first k s at) (read_kept cycle first (k + 1) (get_or cycle (k + 1) 0) next) in
          subst (Contains cycle) (sym goes) (Contains-from_read cycle (k + 1) (get_or cycle (k + 1) 0) next)
      | inr last ↦
          let end : k + 1 ≡ length cycle = omega (arith, last, slice_get_within cycle k s at) in
          let goes = path_goes g cycle first k s first is.goes_round (read_kept cycle first k s at) (ap (slice_get (cycle ++ first ∷ [])) end ∙ read_pushed cycle first) in
          subst (Contains cycle) (sym goes) (Contains-from_read cycle 0 first is.begins)
    ]

-- what holds of the first of a cycle, and of the next with each one, holds of each
pub cycle_keeps : (P : ℕ → Type 0) (g : RotationSystem) (first : ℕ) (cycle : List ℕ) → IsCycleFrom g first cycle → P first →
    ((s : ℕ) → Contains cycle s → P s → P (along g s)) → (s : ℕ) → Contains cycle s → P s
cycle_keeps P g first cycle is begins goes s stands = let place = read_from_Contains cycle s stands in to place.0 s place.1
  where
    to : (k t : ℕ) → slice_get cycle k ≡ Some t → P t
    to zero t at = subst P (one_read cycle 0 first t is.begins at) begins
    to (suc k) t at =
        let inside : k < length cycle = omega (arith, slice_get_within cycle (suc k) t at) in
        let before = slice_get-get_or cycle k 0 inside in
        let next : k + 1 ≡ suc k = omega arith in
        let comes = path_goes g cycle first k (get_or cycle k 0) t is.goes_round (read_kept cycle first k (get_or cycle k 0) before)
        (ap (slice_get (cycle ++ first ∷ [])) next ∙ read_kept cycle first (suc k) t at) in
        subst P comes (goes (get_or cycle k 0) (Contains-from_read cycle k (get_or cycle k 0) before) (to k (get_or cycle k 0) before))

module _ {g : RotationSystem} {firsts cycle_of sides starts : List ℕ} (all : AreAllCycles g firsts cycle_of sides starts) where
  -- the first half-edge of each cycle, and the cycles
  abbrev pub heads : List ℕ
  heads = firsts ++ all.rest

  abbrev pub cycles : List (List ℕ)
  cycles = all.are_cycles.cycles

  -- s stands in the cycle with the number r
  pub record IsMember (s r : ℕ) : Type 0 where
    pub head : ℕ
    pub cycle : List ℕ
    pub is_head : slice_get heads r ≡ Some head
    pub is_there : slice_get cycles r ≡ Some cycle
    pub is_cycle : IsCycleFrom g head cycle
    pub stands : Contains cycle s

  pub number_of : (s : ℕ) → s < g.sides → (r : ℕ) × (slice_get cycle_of s ≡ Some r)
  number_of s below = read_below cycle_of s (omega (arith, below, all.are_cycles.as_many))

  pub side_within : (s r : ℕ) → slice_get cycle_of s ≡ Some r → s < g.sides
  side_within s r at = omega (arith, slice_get_within cycle_of s r at, all.are_cycles.as_many)

  pub member_at : (s r : ℕ) → slice_get cycle_of s ≡ Some r → IsMember s r
  member_at s r at =
      let found = joined_read cycles s (subst (λ xs. Contains xs s) all.are_cycles.are_sides (all.all s (side_within s r at))) in
      let same = one_read cycle_of s found.0 r (all.are_cycles.numbered found.0 s found.1 found.2 found.3) at in
      let there = subst (λ n. slice_get cycles n ≡ Some found.1) same found.2 in
      let head = zip_first (IsCycleFrom g) heads cycles r found.1 all.are_cycles.each there in
      record { head = head.0; cycle = found.1; is_head = head.1; is_there = there; is_cycle = head.2; stands = found.3 }

  -- the cycle of a head has its number
  pub head_numbered : (r s : ℕ) → slice_get heads r ≡ Some s → slice_get cycle_of s ≡ Some r
  head_numbered r s at =
      let cycle = zip_second (IsCycleFrom g) heads cycles r s all.are_cycles.each at in
      all.are_cycles.numbered r s cycle.0 cycle.1 (Contains-from_read cycle.0 0 s cycle.2.begins)

  -- and each number below that of all cycles is that of a head
  pub head_below : (r : ℕ) → r < length cycles → (s : ℕ) × (slice_get heads r ≡ Some s)
  head_below r below =
      let cycle = read_below cycles r below in
      let head = zip_first (IsCycleFrom g) heads cycles r cycle.0 all.are_cycles.each cycle.1 in
      (head.0, head.1)

  pub number_below : (s r : ℕ) → slice_get cycle_of s ≡ Some r → r < length cycles
  number_below s r at = let member = member_at s r at in slice_get_within cycles r member.cycle member.is_there

  -- a half-edge goes along within its cycle
  pub along_within : (s r : ℕ) → slice_get cycle_of s ≡ Some r → slice_get cycle_of (along g s) ≡ Some r
  along_within s r at =
      let member = member_at s r at in
      all.are_cycles.numbered r (along g s) member.cycle member.is_there (cycle_after g member.head member.cycle s member.is_cycle member.stands)

  -- and comes from its cycle
  pub along_from : (s r : ℕ) → s < g.sides → slice_get cycle_of (along g s) ≡ Some r → slice_get cycle_of s ≡ Some r
  along_from s r below at =
      let own = number_of s below in
      own.1 ∙ ap Some (one_read cycle_of (along g s) own.0 r (along_within s own.0 own.1) at)

  -- what holds of the head of a cycle, and of the next with each one, holds of each that stands in it
  pub members_keep : (P : ℕ → Type 0) (r head : ℕ) → slice_get heads r ≡ Some head → P head → ((s : ℕ) → slice_get cycle_of s ≡ Some r → P s → P (along g s)) →
      (s : ℕ) → slice_get cycle_of s ≡ Some r → P s
  members_keep P r head at begins goes s is =
      let member = member_at s r is in
      cycle_keeps P g member.head member.cycle member.is_cycle (subst P (one_read heads r head member.head at member.is_head) begins)
      (λ t stands. goes t (all.are_cycles.numbered r t member.cycle member.is_there stands)) s member.stands

  pub few_cycles : length cycles ≤ g.sides
  few_cycles = omega (arith, cycles_few g heads cycles all.are_cycles.each, ap length all.are_cycles.are_sides, sides_few all.are_cycles)
