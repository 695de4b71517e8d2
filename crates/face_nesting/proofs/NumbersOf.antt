-- The numbers of what stands in lists of cycles, faces and half-edges that may be missing.
use Rattle.std.proofs.Common.{arith, ◌≡◌, ℕ, ◌+◌, ◌-◌, ◌<◌, ◌≤◌, List, [], ◌∷◌, ◌++◌, length, take, drop, get_or, sym, ap, ◌∙◌}
use Rattle.std.specs.Prelude.{All, Option, Some, None, slice_get, slice_index}
use Rattle.std.proofs.lemmas.List.{length-map, get_or-map, map_push, take-map, drop-map}
use Rattle.std.proofs.lemmas.Option.{slice_get-get_or}
use Rattle.nest_base.specs.declared.numbers.Side.{Side}
use Rattle.nest_base.proofs.ListReads.{read-map, read-between, between}
use Rattle.face_nesting.specs.declared.numbering.FaceId.{FaceId}
use Rattle.face_nesting.specs.declared.cycles.CycleId.{CycleId}
use Rattle.face_nesting.specs.Numbering.{face_numbers_of, cycle_numbers_of, sight_numbers_of, number_seen, face_seen, SeesEarlier}
use Rattle.nest_base.specs.NumberLists.{side_numbers}
use Rattle.face_nesting.proofs.CycleFaces.{AreFirstFaces, AreFirstFaces-more}

abbrev pub face_number : FaceId → ℕ
face_number f = f.0

abbrev pub side_number : Side → ℕ
side_number s = s.0

abbrev cycle_number : CycleId → ℕ
cycle_number r = r.0

-- what reads give
pub cycle_read : (cycles : List CycleId) (s : ℕ) (r : CycleId) → s < length cycles → (get_or cycles s r).0 ≡ slice_index (cycle_numbers_of cycles) s
cycle_read cycles s r within = sym (get_or-map cycle_number cycles s r 0 within)

pub sight_read : (sights : List (Option Side)) (c : ℕ) (sight : Option Side) → c < length sights → get_or sights c None ≡ sight →
    slice_get (sight_numbers_of sights) c ≡ Some (number_seen sight)
sight_read sights c sight within is = read-map number_seen sights c sight (slice_get-get_or sights c None within ∙ ap Some is)

pub seen_within : (sights : List (Option Side)) (sides c : ℕ) (s : Side) → All (λ sight. (t : ℕ) → number_seen sight ≡ Some t → t < sides) sights →
    c < length sights → get_or sights c None ≡ Some s → s.0 < sides
seen_within sights sides c s all within is = all c None within s.0 (ap number_seen is)

-- one face more is told
pub faces_more : (cycles : List CycleId) (sights : List (Option Side)) (outer : List FaceId) (face : FaceId) (sight : Option Side) (n : ℕ) →
    SeesEarlier (cycle_numbers_of cycles) (sight_numbers_of sights) (length sights) → length outer ≡ n → n < length sights → get_or sights n None ≡ sight →
    face.0 ≡ face_seen (length sights) (cycle_numbers_of cycles) (face_numbers_of outer) (number_seen sight) →
    AreFirstFaces n (cycle_numbers_of cycles) (sight_numbers_of sights) (length sights) (face_numbers_of outer) →
    AreFirstFaces (n + 1) (cycle_numbers_of cycles) (sight_numbers_of sights) (length sights) (face_numbers_of (outer ++ face ∷ []))
faces_more cycles sights outer face sight n earlier as_many within seen is before =
    let long : length (face_numbers_of outer) ≡ n = length-map outer face_number ∙ as_many in
    rw (map_push face_number outer face)
    (AreFirstFaces-more (cycle_numbers_of cycles) (sight_numbers_of sights) (length sights) (face_numbers_of outer) face.0 (number_seen sight) n earlier long (sight_read sights n sight within seen) is before)

-- the half-edges of a slice, by number
pub side_numbers-between : (sides : List Side) (first behind : ℕ) → side_numbers (between first behind sides) ≡ between first behind (side_numbers sides)
side_numbers-between sides first behind = sym (ap (take (behind - first)) (drop-map side_number first sides) ∙ take-map side_number (behind - first) (drop first sides))

-- the first of them
pub first_between : (sides : List Side) (first behind : ℕ) (s : Side) → first < behind → behind ≤ length sides → s ≡ get_or sides first s →
    slice_get (between first behind (side_numbers sides)) 0 ≡ Some s.0
first_between sides first behind s some within is =
    let read : slice_get (side_numbers sides) first ≡ Some s.0 = read-map side_number sides first s (slice_get-get_or sides first s (omega (arith, some, within)) ∙ ap Some (sym is)) in
    read-between first behind 0 (side_numbers sides) (omega (arith, some)) ∙ ap (slice_get (side_numbers sides)) (omega arith) ∙ read
