-- The face of a cycle: told for the cycle of a component, and one of its own for each cycle behind these; and lists of faces that grow.
use Rattle.std.proofs.Common.{arith, ◌≡◌, ◌⊎◌, inl, inr, ℕ, ◌+◌, ◌-◌, ◌<◌, ◌≤◌, List, [], ◌∷◌, ◌++◌, length, refl, sym, ap, ◌∙◌}
use Rattle.std.specs.Prelude.{Option, Some, None, slice_get, slice_index}
use Rattle.std.proofs.Math.ListN.{get_or-append}
use Rattle.std.proofs.lemmas.Bool.{lt-ltb, le-ltb, cases_lt}
use Rattle.std.proofs.lemmas.Option.{slice_get_within, same_Some}
use Rattle.nest_base.proofs.ListReads.{read_kept, read_pushed}
use Rattle.face_nesting.specs.Numbering.{face_of_cycle, face_seen, SeesEarlier, AreOuterFaces}

pub told_face : (components : ℕ) (outer : List ℕ) (r : ℕ) → r < components → face_of_cycle components outer r ≡ slice_index outer r
told_face components outer r h = rw (lt-ltb r components h) refl

pub own_face : (components : ℕ) (outer : List ℕ) (r : ℕ) → components ≤ r → face_of_cycle components outer r ≡ r - components + 1
own_face components outer r h = rw (le-ltb r components h) refl

-- a read that stands in a list stays when it grows
face_kept : (components : ℕ) (outer : List ℕ) (face r : ℕ) → (r < components → r < length outer) →
    face_of_cycle components (outer ++ face ∷ []) r ≡ face_of_cycle components outer r
face_kept components outer face r known = by_order (cases_lt r components)
  where
    by_order : (r < components) ⊎ (components ≤ r) → face_of_cycle components (outer ++ face ∷ []) r ≡ face_of_cycle components outer r
    by_order (inl first) =
        told_face components (outer ++ face ∷ []) r first ∙ get_or-append outer (face ∷ []) 0 r (known first) ∙ sym (told_face components outer r first)
    by_order (inr behind) = own_face components (outer ++ face ∷ []) r behind ∙ sym (own_face components outer r behind)

-- the faces of the first n components are told
abbrev pub AreFirstFaces : ℕ → List ℕ → List (Option ℕ) → ℕ → List ℕ → Type 0
AreFirstFaces n cycle_of sights components outer =
    (c : ℕ) (sight : Option ℕ) → c < n → slice_get sights c ≡ Some sight → slice_get outer c ≡ Some (face_seen components cycle_of outer sight)

seen_kept : (cycle_of : List ℕ) (sights : List (Option ℕ)) (components : ℕ) (outer : List ℕ) (face c : ℕ) (sight : Option ℕ) →
    SeesEarlier cycle_of sights components → c ≤ length outer → slice_get sights c ≡ Some sight →
    face_seen components cycle_of (outer ++ face ∷ []) sight ≡ face_seen components cycle_of outer sight
seen_kept cycle_of sights components outer face c None earlier within at = refl
seen_kept cycle_of sights components outer face c (Some s) earlier within at =
    face_kept components outer face (slice_index cycle_of s) (λ first. omega (arith, earlier c s at first))

pub AreFirstFaces-more : (cycle_of : List ℕ) (sights : List (Option ℕ)) (components : ℕ) (outer : List ℕ) (face : ℕ) (sight : Option ℕ) (n : ℕ) →
    SeesEarlier cycle_of sights components → length outer ≡ n → slice_get sights n ≡ Some sight → face ≡ face_seen components cycle_of outer sight →
    AreFirstFaces n cycle_of sights components outer → AreFirstFaces (n + 1) cycle_of sights components (outer ++ face ∷ [])
AreFirstFaces-more cycle_of sights components outer face sight n earlier as_many at is before c seen within at_c = by_order (cases_lt c n)
  where
    kept : face_seen components cycle_of (outer ++ face ∷ []) seen ≡ face_seen components cycle_of outer seen
    kept = seen_kept cycle_of sights components outer face c seen earlier (omega (arith, as_many)) at_c

    by_order : (c < n) ⊎ (n ≤ c) → slice_get (outer ++ face ∷ []) c ≡ Some (face_seen components cycle_of (outer ++ face ∷ []) seen)
    by_order (inl less) = rw kept (read_kept outer face c (face_seen components cycle_of outer seen) (before c seen less at_c))
    by_order (inr behind) =
        let last : c ≡ n = omega (arith, within) in
        let same : sight ≡ seen = same_Some sight seen (sym at ∙ ap (slice_get sights) (sym last) ∙ at_c) in
        rw (kept, last ∙ sym as_many) (read_pushed outer face ∙ ap Some (is ∙ ap (face_seen components cycle_of outer) same))

pub AreOuterFaces-from_first : (cycle_of : List ℕ) (sights : List (Option ℕ)) (components : ℕ) (outer : List ℕ) →
    AreFirstFaces (length sights) cycle_of sights components outer → AreOuterFaces cycle_of sights components outer
AreOuterFaces-from_first cycle_of sights components outer first c sight at = first c sight (slice_get_within sights c sight at) at
