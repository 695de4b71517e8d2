-- The numbers of faces: none stands too high, and each is that of the outer face or of a cycle inside a component.
use Rattle.std.proofs.Common.{arith, ◌≡◌, ◌⊎◌, inl, inr, ℕ, zero, suc, ◌+◌, ◌-◌, ◌<◌, ◌≤◌, List, length, map, refl}
use Rattle.std.specs.Prelude.{Option, Some, None, slice_get, slice_index, All, Contains}
use Rattle.std.proofs.lemmas.Bool.{cases_lt}
use Rattle.std.proofs.lemmas.Option.{get_or_from_slice_get}
use Rattle.std.proofs.lemmas.List.{get_or_past}
use Rattle.std.proofs.lemmas.List.Elements.{All-get_or, All-map, All-weaker}
use Rattle.plate_edges.proofs.Lists.{Contains-map}
use Rattle.nest_base.proofs.ListReads.{read_below}
use Rattle.face_nesting.specs.Numbering.{outer_face, face_of_cycle, face_seen, SeesEarlier, AreOuterFaces}
use Rattle.face_nesting.specs.Nesting.{IsFaceCount}
use Rattle.face_nesting.proofs.CycleFaces.{told_face, own_face}

-- the cycle of a half-edge is one of the cycles
cycle_below : (cycle_of : List ℕ) (cycles s : ℕ) → 0 < cycles → All (λ r. r < cycles) cycle_of → slice_index cycle_of s < cycles
cycle_below cycle_of cycles s some below = by_order (cases_lt s (length cycle_of))
  where
    by_order : (s < length cycle_of) ⊎ (length cycle_of ≤ s) → slice_index cycle_of s < cycles
    by_order (inl within) = All-get_or (λ r. r < cycles) cycle_of s 0 within below
    by_order (inr past) = omega (arith, get_or_past cycle_of s 0 past)

own_below : (components cycles : ℕ) (outer : List ℕ) (r : ℕ) → components ≤ r → r < cycles → face_of_cycle components outer r < cycles - components + 1
own_below components cycles outer r behind below = omega (arith, own_face components outer r behind)

-- where no face of an earlier component has a number past the cycles inside components, this component's has none
next_below : (cycle_of : List ℕ) (sights : List (Option ℕ)) (components cycles : ℕ) (outer : List ℕ) →
    AreOuterFaces cycle_of sights components outer → SeesEarlier cycle_of sights components → length sights ≡ components → components ≤ cycles →
    All (λ r. r < cycles) cycle_of → (c : ℕ) → c < components → ((d : ℕ) → d < c → slice_index outer d < cycles - components + 1) →
    slice_index outer c < cycles - components + 1
next_below cycle_of sights components cycles outer faces earlier as_many enough below c within before =
    let seen = read_below sights c (omega (arith, as_many)) in
    rw (get_or_from_slice_get outer c (face_seen components cycle_of outer seen.0) 0 (faces c seen.0 seen.1)) (by_sight seen.0 seen.1)
  where
    by_order : (s : ℕ) → slice_get sights c ≡ Some (Some s) → (slice_index cycle_of s < components) ⊎ (components ≤ slice_index cycle_of s) →
        face_of_cycle components outer (slice_index cycle_of s) < cycles - components + 1
    by_order s at (inl first) = rw (told_face components outer (slice_index cycle_of s) first) (before (slice_index cycle_of s) (earlier c s at first))
    by_order s at (inr behind) = own_below components cycles outer (slice_index cycle_of s) behind (cycle_below cycle_of cycles s (omega arith) below)

    by_sight : (sight : Option ℕ) → slice_get sights c ≡ Some sight → face_seen components cycle_of outer sight < cycles - components + 1
    by_sight None at = omega arith
    by_sight (Some s) at = by_order s at (cases_lt (slice_index cycle_of s) components)

outer_below : (cycle_of : List ℕ) (sights : List (Option ℕ)) (components cycles : ℕ) (outer : List ℕ) →
    AreOuterFaces cycle_of sights components outer → SeesEarlier cycle_of sights components → length sights ≡ components → components ≤ cycles →
    All (λ r. r < cycles) cycle_of → (n c : ℕ) → c < n → c < components → slice_index outer c < cycles - components + 1
outer_below cycle_of sights components cycles outer faces earlier as_many enough below zero c before within = absurd (omega arith)
outer_below cycle_of sights components cycles outer faces earlier as_many enough below (suc n) c before within =
    next_below cycle_of sights components cycles outer faces earlier as_many enough below c within
    (λ d less. outer_below cycle_of sights components cycles outer faces earlier as_many enough below n d (omega (arith, before, less)) (omega (arith, within, less)))

-- and so no cycle's face has
pub below_count : (cycle_of : List ℕ) (sights : List (Option ℕ)) (components cycles : ℕ) (outer : List ℕ) →
    AreOuterFaces cycle_of sights components outer → SeesEarlier cycle_of sights components → length sights ≡ components → components ≤ cycles →
    All (λ r. r < cycles) cycle_of → (r : ℕ) → r < cycles → face_of_cycle components outer r < cycles - components + 1
below_count cycle_of sights components cycles outer faces earlier as_many enough below r within = by_order (cases_lt r components)
  where
    by_order : (r < components) ⊎ (components ≤ r) → face_of_cycle components outer r < cycles - components + 1
    by_order (inl first) = rw (told_face components outer r first) (outer_below cycle_of sights components cycles outer faces earlier as_many enough below components r first first)
    by_order (inr behind) = own_below components cycles outer r behind within

-- each number below is that of the outer face, or of the cycle inside a component that has it for its own
pub each_is_used : (components cycles : ℕ) (outer : List ℕ) (f : ℕ) → f < cycles - components + 1 →
    (f ≡ outer_face) ⊎ ((r : ℕ) × (components ≤ r) × (r < cycles) × (face_of_cycle components outer r ≡ f))
each_is_used components cycles outer zero h = inl refl
each_is_used components cycles outer (suc f) h =
    inr (components + f, omega arith, omega arith, omega (arith, own_face components outer (components + f) (omega arith)))

-- so the faces of the half-edges are so many, where each cycle inside a component has a half-edge
pub IsFaceCount-cycles : (cycle_of : List ℕ) (sights : List (Option ℕ)) (components cycles : ℕ) (outer : List ℕ) →
    AreOuterFaces cycle_of sights components outer → SeesEarlier cycle_of sights components → length sights ≡ components → components ≤ cycles →
    All (λ r. r < cycles) cycle_of → ((r : ℕ) → components ≤ r → r < cycles → Contains cycle_of r) →
    IsFaceCount (map (face_of_cycle components outer) cycle_of) (cycles - components + 1)
IsFaceCount-cycles cycle_of sights components cycles outer faces earlier as_many enough below each = record {
  outer_counts = omega arith;
  below = All-map (λ f. f < cycles - components + 1) (face_of_cycle components outer) cycle_of
      (All-weaker (λ r. r < cycles) (λ r. face_of_cycle components outer r < cycles - components + 1) (below_count cycle_of sights components cycles outer faces earlier as_many enough below) cycle_of below);
  each = λ f less. used f (each_is_used components cycles outer f less);
}
  where
    used : (f : ℕ) → (f ≡ outer_face) ⊎ ((r : ℕ) × (components ≤ r) × (r < cycles) × (face_of_cycle components outer r ≡ f)) →
        (f ≡ outer_face) ⊎ Contains (map (face_of_cycle components outer) cycle_of) f
    used f (inl is) = inl is
    used f (inr (r, behind, within, is)) = inr (rw is at (Contains-map (face_of_cycle components outer) cycle_of r (each r behind within)))
