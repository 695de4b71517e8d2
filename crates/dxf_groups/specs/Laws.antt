-- What holds of the pairs and of the refusal of any bytes.
use Rattle.std.specs.Prelude.{◌≡◌, ℕ, List, [], ◌∷◌, ◌++◌, Option, Some, None, flat_map}
use Rattle.dxf_groups.specs.declared.answers.GroupError.{GroupError}
use Rattle.dxf_groups.specs.Pairs.{Pair, pairs_of, fault_of, group_refusal_of}
use Rattle.dxf_groups.specs.declared.answers.Found.TheVariants.{Refused}
use Rattle.dxf_groups.specs.Taking.{Progress, GroupsAt, EndedAt, stop_so_far, pairs_so_far, completed, completed_by_end, found_at, found_at_end, found_last}

-- a pair alone, or nothing
abbrev pub listed : Option Pair → List Pair
listed None = []
listed (Some p) = p ∷ []

-- the pairs that bytes complete, one after the other, are those of all these bytes
abbrev pub PairsComeOneByOne : Type 0
PairsComeOneByOne = (bytes : List ℕ) (byte : ℕ) → pairs_so_far (bytes ++ byte ∷ []) ≡ pairs_so_far bytes ++ listed (completed (bytes ++ byte ∷ []))

-- the end of the input completes the others, one at most
abbrev pub EndGivesTheRest : Type 0
EndGivesTheRest = (bytes : List ℕ) → pairs_of bytes ≡ pairs_so_far bytes ++ listed (completed_by_end bytes)

-- pairs that have come stay, whatever follows
abbrev pub PairsStay : Type 0
PairsStay = (bytes more : List ℕ) → (later : List Pair) × (pairs_of (bytes ++ more) ≡ pairs_so_far bytes ++ later)

-- a refusal that has come stays, whatever follows
abbrev pub RefusalStays : Type 0
RefusalStays = (bytes more : List ℕ) (e : GroupError) → fault_of (stop_so_far bytes) ≡ Some e → group_refusal_of (bytes ++ more) ≡ Some e

-- a refusal has come as soon as it stands whatever follows
abbrev pub RefusalComesAtOnce : Type 0
RefusalComesAtOnce = (bytes : List ℕ) (e : GroupError) → ((more : List ℕ) → group_refusal_of (bytes ++ more) ≡ Some e) → fault_of (stop_so_far bytes) ≡ Some e

-- behind these bytes `take` and each call of `end` answer `Refused`, and this is the reason that a reader tells and that a whole drawing has
pub record IsRefusedFor (e : GroupError) (bytes : List ℕ) : Type 0 where
  pub by_take : found_at bytes ≡ Refused
  pub by_end : found_at_end bytes ≡ Refused
  pub by_end_again : found_last bytes ≡ Refused
  pub so_far : (g : Progress) → GroupsAt g bytes → fault_of g.stop ≡ Some e
  pub ended : (g : Progress) → EndedAt g bytes → fault_of g.stop ≡ Some e
  pub whole : group_refusal_of bytes ≡ Some e

-- once a byte has told a refusal, the bytes behind it tell the same one, whatever they are, and so does every `end`
abbrev pub TakeStaysRefused : Type 0
TakeStaysRefused = (bytes : List ℕ) → found_at bytes ≡ Refused → (e : GroupError) × ((more : List ℕ) → IsRefusedFor e (bytes ++ more))

-- once `end` has told a refusal, every further `end` tells the same one
abbrev pub EndStaysRefused : Type 0
EndStaysRefused = (bytes : List ℕ) → found_at_end bytes ≡ Refused →
    (e : GroupError) × (group_refusal_of bytes ≡ Some e) × (found_last bytes ≡ Refused) × ((g : Progress) → EndedAt g bytes → fault_of g.stop ≡ Some e)

-- bytes that come in pieces
abbrev pub concatenation : List (List ℕ) → List ℕ
concatenation pieces = flat_map (λ (piece : List ℕ). piece) pieces

-- what a reader knows depends on the bytes, and not on how they were cut
abbrev pub CuttingIsFree : Type 0
CuttingIsFree = (g h : Progress) (pieces others : List (List ℕ)) → concatenation pieces ≡ concatenation others →
    GroupsAt g (concatenation pieces) → GroupsAt h (concatenation others) → (g.taken ≡ h.taken) × (g.stop ≡ h.stop) × (g.value ≡ h.value)
