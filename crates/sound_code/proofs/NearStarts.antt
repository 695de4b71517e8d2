-- First lead-ins start near their vertices, and so within the range of places in code.
use Rattle.std.proofs.Common.{arith, ◌≡◌, ℕ, ℤ, pos, negsuc, ◌+◌, ◌≤◌, ◌+ℤ◌, ◌*ℤ◌, Bool, true, List, [], ◌∷◌, ◌++◌, None, Some, map, refl, sym, subst}
use Rattle.std.specs.Prelude.{All, Option, ◌&&◌, nat_le, unsigned_abs}
use Rattle.std.specs.List.{AllByRecursion, list_all}
use Rattle.std.proofs.lemmas.Bool.{and_parts, leb-true}
use Rattle.std.proofs.lemmas.Int.{ints}
use Rattle.std.proofs.lemmas.List.Elements.{All-append, All-contains, All-from_recursion, All-map, All-weaker, Contains-append_right, recursion_from_All}
use Rattle.nest_base.specs.declared.places.Point.{Point}
use Rattle.nest_base.specs.declared.places.Edge.{Edge}
use Rattle.nest_base.specs.Plane.{HalfEdge}
use Rattle.nest_base.specs.Range.{IsNear, IsWithin, IsEdgeWithin}
use Rattle.nest_base.proofs.Lists.{Contains-head}
use Rattle.plate_sides.specs.Cover.{IsTrail}
use Rattle.plate_parts.specs.declared.leads.Lead.{Lead}
use Rattle.plate_parts.specs.LeadIns.{Left, Right, FitsHand, sixteen_ways, away_from, tried_around, IsFirstFit, IsFirstLeadIn, AreFirstLeadIns, with_lead}
use Rattle.plate_parts.specs.LeadIns.IsFirstFit.{first}
use Rattle.plate_parts.specs.LeadIns.IsFirstLeadIn.{left, right}
use Rattle.plate_parts.specs.LeadIns.AreFirstLeadIns.{next}
use Rattle.code_moves.specs.Meaning.{code_range}
use Rattle.sound_code.specs.Lightings.{first_sides}
use Rattle.sound_code.specs.Plans.{FirstLeadInsAreNear}
use Rattle.sound_code.proofs.FreeLeadIns.{same_start}
use Rattle.sound_code.proofs.Trails.{trail_sides}
use Rattle.sound_code.proofs.WritableChains.{StartsWithin, leg_is_within}

-- as a test that computes
abbrev is_short : Point → Bool
is_short way = nat_le (unsigned_abs way.x) 2 && nat_le (unsigned_abs way.y) 2

near_two : (z : ℤ) → unsigned_abs z ≤ 2 → IsNear 2 z
near_two (pos n) small = (omega (arith, ints, small), omega (arith, ints, small))
near_two (negsuc n) small = (omega (arith, ints, small), omega (arith, ints, small))

short_ways : (ways : List Point) → list_all is_short ways ≡ true → AllByRecursion (IsWithin 2) ways
short_ways [] short = tt
short_ways (way ∷ ways) short =
    let parts = and_parts (is_short way) (list_all is_short ways) short in
    let both = and_parts (nat_le (unsigned_abs way.x) 2) (nat_le (unsigned_abs way.y) 2) parts.0 in
    (record { x = near_two way.x (leb-true (unsigned_abs way.x) 2 both.0); y = near_two way.y (leb-true (unsigned_abs way.y) 2 both.1) }, short_ways ways parts.1)

module _ (n : ℕ) (small : n + 4000 ≤ code_range) where
  near_long : (z w : ℤ) → IsNear n z → IsNear 2 w → IsNear code_range (z +ℤ (w *ℤ pos 2000))
  near_long z w h k = (omega (arith, ints, small, h.0, k.0), omega (arith, ints, small, h.1, k.1))

  near_brief : (z w : ℤ) → IsNear n z → IsNear 2 w → IsNear code_range (z +ℤ (w *ℤ pos 500))
  near_brief z w h k = (omega (arith, ints, small, h.0, k.0), omega (arith, ints, small, h.1, k.1))

  -- all places that are tried around v lie so
  tried_are_within : (v : Point) → IsWithin n v → All (IsWithin code_range) (tried_around v)
  tried_are_within v within =
      let ways : All (IsWithin 2) sixteen_ways = All-from_recursion (IsWithin 2) sixteen_ways (short_ways sixteen_ways refl) in
      All-append (IsWithin code_range) (map (away_from v (pos 2000)) sixteen_ways) (map (away_from v (pos 500)) sixteen_ways)
      (All-map (IsWithin code_range) (away_from v (pos 2000)) sixteen_ways
      (All-weaker (IsWithin 2) (λ way. IsWithin code_range (away_from v (pos 2000) way))
      (λ way short. record { x = near_long v.x way.x within.x short.x; y = near_long v.y way.y within.y short.y }) sixteen_ways ways))
      (All-map (IsWithin code_range) (away_from v (pos 500)) sixteen_ways
      (All-weaker (IsWithin 2) (λ way. IsWithin code_range (away_from v (pos 500) way))
      (λ way short. record { x = near_brief v.x way.x within.x short.x; y = near_brief v.y way.y within.y short.y }) sixteen_ways ways))

  fit_is_within : (fits : Point → Type 0) (v q : Point) → IsWithin n v → IsFirstFit fits (tried_around v) (Some q) → IsWithin code_range q
  fit_is_within fits v q within (first before after are none_before is) =
      All-contains (IsWithin code_range) (before ++ q ∷ after) q (subst (All (IsWithin code_range)) are (tried_are_within v within))
      (Contains-append_right before (q ∷ after) q (Contains-head q after))

  first_is_within : (edges : List Edge) (names : List Point) (earlier : List Lead) (s : HalfEdge) (lead : Option Point) → IsWithin n s.from →
      IsFirstLeadIn edges names earlier s lead → StartsWithin lead
  first_is_within edges names earlier s None within is = tt
  first_is_within edges names earlier s (Some q) within (left p is fit) =
      subst (IsWithin code_range) (sym (same_start q p is)) (fit_is_within (FitsHand edges names earlier s Left) s.from p within fit)
  first_is_within edges names earlier s (Some q) within (right no_left fit) = fit_is_within (FitsHand edges names earlier s Right) s.from q within fit

  firsts_are_within : (edges : List Edge) (names : List Point) (earlier : List Lead) (trails : List (List HalfEdge)) (leads : List (Option Point)) →
      All (IsEdgeWithin n) edges → AllByRecursion (IsTrail edges) trails → AreFirstLeadIns edges names earlier (first_sides trails) leads → AllByRecursion StartsWithin leads
  firsts_are_within edges names earlier [] [] within are firsts = tt
  firsts_are_within edges names earlier [] (lead ∷ leads) within are firsts = elim firsts [ ]
  firsts_are_within edges names earlier ([] ∷ trails) leads within are firsts = absurd are.0
  firsts_are_within edges names earlier ((s ∷ rest) ∷ trails) [] within are firsts = elim firsts [ ]
  firsts_are_within edges names earlier ((s ∷ rest) ∷ trails) (lead ∷ leads) within are (next is later) = (
    first_is_within edges names earlier s lead (leg_is_within n edges within s (trail_sides edges (s ∷ rest) are.0).0).0 is,
    firsts_are_within edges names (with_lead s lead earlier) trails leads within are.1 later,
  )

pub first_lead_ins_are_near : FirstLeadInsAreNear
first_lead_ins_are_near n edges names trails leads small within plan =
    All-from_recursion StartsWithin leads
    (firsts_are_within n small edges names [] trails leads within (recursion_from_All (IsTrail edges) trails plan.covers.are_trails) plan.first_leads)
