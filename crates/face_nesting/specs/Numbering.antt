-- Faces by number: those inside a component first, then those of its outer cycles, which each lie in the face that is seen.
use Rattle.std.specs.Prelude.{◌≡◌, ℕ, ◌+◌, ◌-◌, ◌<◌, nat_lt, if◌then◌else◌, List, Option, Some, None, map, option_map, slice_get, slice_index}
use Rattle.nest_base.specs.declared.numbers.Side.{Side}
use Rattle.face_nesting.specs.declared.cycles.CycleId.{CycleId}
use Rattle.face_nesting.specs.declared.numbering.FaceId.{FaceId}

-- the numbers of cycles, faces; of half-edges that may be missing
abbrev pub cycle_numbers_of : List CycleId → List ℕ
cycle_numbers_of cycles = map (λ (r : CycleId). r.0) cycles

abbrev pub face_numbers_of : List FaceId → List ℕ
face_numbers_of faces = map (λ (f : FaceId). f.0) faces

abbrev pub number_seen : Option Side → Option ℕ
number_seen sight = option_map (λ (s : Side). s.0) sight

abbrev pub sight_numbers_of : List (Option Side) → List (Option ℕ)
sight_numbers_of sights = map number_seen sights

-- the face that holds Outer
abbrev pub outer_face : ℕ
outer_face = 0

-- the face of a cycle: the first cycles are those of the components, whose faces are told; each cycle behind them has one of its own
abbrev pub face_of_cycle : ℕ → List ℕ → ℕ → ℕ
face_of_cycle components outer cycle = if nat_lt cycle components then slice_index outer cycle else cycle - components + 1

-- the face in which a component lies that sees this: the outer one, or that of what it sees
abbrev pub face_seen : ℕ → List ℕ → List ℕ → Option ℕ → ℕ
face_seen components cycle_of outer None = outer_face
face_seen components cycle_of outer (Some s) = face_of_cycle components outer (slice_index cycle_of s)

-- each component lies in the face that it sees
abbrev pub AreOuterFaces : List ℕ → List (Option ℕ) → ℕ → List ℕ → Type 0
AreOuterFaces cycle_of sights components outer =
    (c : ℕ) (sight : Option ℕ) → slice_get sights c ≡ Some sight → slice_get outer c ≡ Some (face_seen components cycle_of outer sight)

-- what is seen lies on the cycle of an earlier component, or on one inside a component
abbrev pub SeesEarlier : List ℕ → List (Option ℕ) → ℕ → Type 0
SeesEarlier cycle_of sights components =
    (c s : ℕ) → slice_get sights c ≡ Some (Some s) → slice_index cycle_of s < components → slice_index cycle_of s < c
