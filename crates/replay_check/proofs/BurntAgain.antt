-- Which edges are burnt after so many of the burns, and the first one that burns again.
use Rattle.std.proofs.Common.{arith, ◌≡◌, ℕ, ◌+◌, ◌*◌, ◌/◌, ◌<◌, Bool, true, false, List, length, take, set, get_or, refl}
use Rattle.std.specs.Prelude.{All, Some, slice_get, IsTrue}
use Rattle.std.proofs.lemmas.Bool.{both_ways}
use Rattle.nest_base.proofs.ListReads.{All-read, read-map}
use Rattle.face_nesting.proofs.Prefixes.{take_read}
use Rattle.half_edges.specs.Burns.{AreFlagsOf}
use Rattle.half_edges.proofs.BurntEdges.{flags_burnt}
use Rattle.replay_check.specs.declared.burns.Burn.{Burn}
use Rattle.replay_check.specs.Burning.{burnt_sides, IsFirstAgain}

module _ (burns : List Burn) (i : ℕ) (b : Burn) (flags : List Bool) (at : slice_get burns i ≡ Some b) (edges : ℕ)
    (as_many : length flags ≡ edges) (within : All (λ s. s < 2 * edges) (burnt_sides burns)) (so_far : AreFlagsOf flags (take i (burnt_sides burns))) where
  side_at : slice_get (burnt_sides burns) i ≡ Some b.side.0
  side_at = read-map (λ (c : Burn). c.side.0) burns i b at

  side_within : b.side.0 < 2 * length flags
  side_within = rw as_many (All-read (λ s. s < 2 * edges) (burnt_sides burns) i b.side.0 within side_at)

  -- its edge is one of those
  pub edge_within : b.side.0 / 2 < length flags
  edge_within = omega (arith, side_within)

  -- its edge is burnt already
  pub is_again : IsTrue (get_or flags (b.side.0 / 2) false) → IsFirstAgain burns b.line
  is_again is = record {
    place = i;
    burn = b;
    at = at;
    line_is = refl;
    again = (so_far.flag b.side.0 side_within).0 is;
    once_before = so_far.once;
  }

  -- it isn't, and burns
  pub burnt_more : get_or flags (b.side.0 / 2) false ≡ false → AreFlagsOf (set flags (b.side.0 / 2) true) (take (i + 1) (burnt_sides burns))
  burnt_more off = rw (take_read (burnt_sides burns) i b.side.0 side_at)
      (flags_burnt flags (take i (burnt_sides burns)) b.side.0 so_far side_within (λ has. both_ways _ off ((so_far.flag b.side.0 side_within).1 has)))
