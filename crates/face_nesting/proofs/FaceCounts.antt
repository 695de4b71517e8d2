-- How many faces there are: as many as cycles inside components, and the outer one.
use Rattle.std.proofs.Common.{arith, ◌≡◌, ℕ, ◌+◌, ◌-◌, ◌<◌, ◌≤◌, List, Option, length, map, subst}
use Rattle.std.specs.Prelude.{Contains, All}
use Rattle.half_edges.specs.Graph.{Graph}
use Rattle.nest_base.proofs.ListReads.{All-from_reads, Contains-from_read}
use Rattle.face_nesting.specs.Numbering.{face_of_cycle, AreOuterFaces, SeesEarlier}
use Rattle.face_nesting.specs.Nesting.{IsFaceCount}
use Rattle.face_nesting.proofs.FaceNumbers.{IsFaceCount-cycles}
use Rattle.face_nesting.proofs.CycleMembers.{cycles, head_below, head_numbered, number_below}
use Rattle.face_nesting.proofs.FoundCycles.{AreFound, as_many_mark_sides, as_many_sights, sees_earlier}
use Rattle.face_nesting.proofs.NestingLists.{enough_cycles, starts_of_cycles}

module _ {graph : Graph} {mark_sides cycle_of sides starts : List ℕ} {sights : List (Option ℕ)} (found : AreFound graph mark_sides cycle_of sides starts sights)
    (components : ℕ) (outer : List ℕ) (as_many : components ≡ length graph.marks) (are_outer : AreOuterFaces cycle_of sights components outer) where
  below_cycles : All (λ r. r < length (cycles found.are_cycles)) cycle_of
  below_cycles = All-from_reads (λ r. r < length (cycles found.are_cycles)) cycle_of (number_below found.are_cycles)

  -- each cycle has a half-edge
  cycle_used : (r : ℕ) → components ≤ r → r < length (cycles found.are_cycles) → Contains cycle_of r
  cycle_used r inside below =
      let head = head_below found.are_cycles r below in
      Contains-from_read cycle_of head.0 r (head_numbered found.are_cycles r head.0 head.1)

  pub is_face_count : (count : ℕ) → count ≡ length starts - 1 - length mark_sides + 1 → IsFaceCount (map (face_of_cycle components outer) cycle_of) count
  is_face_count count is =
      let many : length sights ≡ components = omega (arith, as_many, as_many_sights found) in
      let earlier = subst (SeesEarlier cycle_of sights) many (sees_earlier found) in
      let same : length (cycles found.are_cycles) - components + 1 ≡ count = omega (arith, is, as_many, as_many_mark_sides found, starts_of_cycles found) in
      let counted = IsFaceCount-cycles cycle_of sights components (length (cycles found.are_cycles)) outer are_outer earlier many (omega (arith, as_many, enough_cycles found)) below_cycles cycle_used in
      subst (IsFaceCount (map (face_of_cycle components outer) cycle_of)) same counted
