-- Ranks by number: how many edges are crossed from a face to the outer one, and how ranks spread outward from it.
use Rattle.std.specs.Prelude.{◌≡◌, ℕ, ◌+◌, ◌<◌, ◌≤◌, ◌==◌, List, length, Option, Some, None, slice_get, slice_index, slice_index_or, count_by, slice_set, ◌++◌, ◌∷◌, [], ◌⊎◌}
use Rattle.nest_base.specs.declared.numbers.Side.{Side}
use Rattle.nest_base.specs.Walks.{Walk, here, on, against}
use Rattle.rotation_systems.specs.Twins.{twin_number}
use Rattle.face_nesting.specs.Numbering.{outer_face}

-- an edge has the face f on one side and g on the other
abbrev pub AreNeighbours : List ℕ → ℕ → ℕ → Type 0
AreNeighbours faces f g = (s : ℕ) × (slice_get faces s ≡ Some f) × (slice_get faces (twin_number s) ≡ Some g)

-- a way from face to face out to the outer one
abbrev pub IsWayOut : List ℕ → ℕ → Type 0
IsWayOut faces f = Walk (AreNeighbours faces) outer_face f

-- how many links a walk has
abbrev pub step_count : {X : Type 0} {link : X → X → Type 0} {goal a : X} → Walk link goal a → ℕ
step_count here = 0
step_count (on link walk) = step_count walk + 1
step_count (against link walk) = step_count walk + 1

-- the fewest edges to cross from the face f to the outer one
pub record IsDistance (faces : List ℕ) (f n : ℕ) : Type 0 where
  pub reached : (way : IsWayOut faces f) × (step_count way ≡ n)
  pub fewest : (way : IsWayOut faces f) → n ≤ step_count way

-- by number of a face: its distance, where there is a way out
abbrev pub AreDistances : List ℕ → List ℕ → Type 0
AreDistances faces ranks = (f : ℕ) → IsWayOut faces f → IsDistance faces f (slice_index ranks f)

-- the number after that of a half-edge, or the first one where there is none
abbrev pub behind : Option Side → ℕ
behind None = 0
behind (Some s) = s.0 + 1

-- the last half-edge of the face f whose number is below n, if there is one
pub record IsLastBelow (faces : List ℕ) (f n : ℕ) (last : Option Side) : Type 0 where
  pub below : behind last ≤ n
  pub of_face : (s : Side) → last ≡ Some s → slice_get faces s.0 ≡ Some f
  pub is_last : (s : ℕ) → behind last ≤ s → s < n → slice_get faces s ≡ Some f → ⊥

-- of the first n half-edges: by number of a face its last one, and by number of a half-edge the one before it of its face
pub record AreLinked (faces : List ℕ) (n : ℕ) (last before : List (Option Side)) : Type 0 where
  pub lasts : (f : ℕ) (s : Option Side) → slice_get last f ≡ Some s → IsLastBelow faces f n s
  pub befores : (t f : ℕ) (s : Option Side) → slice_get before t ≡ Some s → slice_get faces t ≡ Some f → IsLastBelow faces f t s

-- stands in place of a rank where a face has none yet
abbrev pub no_rank : ℕ
no_rank = 4294967295

abbrev pub rank_at : List ℕ → ℕ → ℕ
rank_at ranks f = slice_index_or ranks f no_rank

-- how many faces have none
abbrev pub unranked : List ℕ → ℕ
unranked ranks = count_by (λ r. r == no_rank) ranks

-- while ranks spread: the faces of the queue have one, in the order in which they got it, and so have those across the edges of the first `done`
pub record IsSpread (faces ranks queue : List ℕ) (done : ℕ) : Type 0 where
  pub outer : rank_at ranks outer_face ≡ 0
  pub attained : (f : ℕ) → rank_at ranks f < no_rank → (way : IsWayOut faces f) × (step_count way ≡ rank_at ranks f)
  pub queued : (f : ℕ) → rank_at ranks f < no_rank → (k : ℕ) × (slice_get queue k ≡ Some f)
  pub ranked : (k f : ℕ) → slice_get queue k ≡ Some f → rank_at ranks f < length queue
  pub in_order : (j k e f : ℕ) → j < k → slice_get queue j ≡ Some e → slice_get queue k ≡ Some f → rank_at ranks e ≤ rank_at ranks f
  pub next_at_most : (e f : ℕ) → slice_get queue done ≡ Some e → rank_at ranks f < no_rank → rank_at ranks f ≤ rank_at ranks e + 1
  pub closed : (k e f : ℕ) → k < done → slice_get queue k ≡ Some e → AreNeighbours faces e f → (rank_at ranks f < no_rank) × (rank_at ranks f ≤ rank_at ranks e + 1)
  pub few : length queue + unranked ranks ≤ length ranks

-- f gets the rank r and joins the queue, unless it had a rank
abbrev pub GetsRank : List ℕ → List ℕ → ℕ → ℕ → List ℕ → List ℕ → Type 0
GetsRank ranks queue f r later more =
    ((rank_at ranks f ≡ no_rank) × (later ≡ slice_set ranks f r) × (more ≡ queue ++ f ∷ []))
    ⊎ ((rank_at ranks f < no_rank) × (later ≡ ranks) × (more ≡ queue))
