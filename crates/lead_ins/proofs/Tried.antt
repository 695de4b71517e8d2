-- The places that are tried around a vertex.
use Rattle.std.proofs.Common.{arith, ◌≡◌, ◌<◌, ◌≤◌, ◌+◌, ◌*◌, ◌%◌, ℕ, suc, ℤ, pos, negsuc, ◌+ℤ◌, ◌*ℤ◌, List, [], ◌∷◌, ◌++◌, length, get_or, map, w64, to_z, of_z, FitsSigned, ap, ◌∙◌}
use Rattle.std.specs.Prelude.{All, Contains, Some, slice_get, unsigned_abs}
use Rattle.std.proofs.lemmas.Int.{ints, to_z-of_z, unsigned_abs-mul}
use Rattle.std.proofs.lemmas.Nat.{mul-le}
use Rattle.std.proofs.lemmas.List.Elements.{All-from_recursion, All-append, All-contains, All-map, All-weaker}
use Rattle.std.proofs.lemmas.Option.{slice_get-get_or}
use Rattle.nest_base.specs.declared.places.Point.{Point}
use Rattle.nest_base.specs.Range.{IsNear, IsWithin, widest}
use Rattle.nest_base.proofs.ListReads.{read-front, read-map}
use Rattle.plate_parts.specs.LeadIns.{sixteen_ways, away_from, tried_around}
use Rattle.lead_ins.specs.Tries.{lead_range, lead_reach}

near_abs : (n : ℕ) (z : ℤ) → IsNear n z → unsigned_abs z ≤ n
near_abs n (pos k) h = omega (arith, ints, h.0, h.1)
near_abs n (negsuc k) h = omega (arith, ints, h.0, h.1)

near_from_abs : (n : ℕ) (z : ℤ) → unsigned_abs z ≤ n → IsNear n z
near_from_abs n (pos k) h = (omega (arith, ints), omega (arith, ints))
near_from_abs n (negsuc k) h = (omega (arith, ints), omega (arith, ints))

-- products of small numbers are small
near_product : (m n : ℕ) (a b : ℤ) → IsNear m a → IsNear n b → IsNear (m * n) (a *ℤ b)
near_product m n a b p q = near_from_abs (m * n) (a *ℤ b) (rw (unsigned_abs-mul a b) (mul-le (unsigned_abs a) (unsigned_abs b) m n (near_abs m a p) (near_abs n b q)))

-- a coordinate, so many times a step away
pub record IsStep (v a b : ℤ) : Type 0 where
  from : IsNear lead_range v
  step : IsNear 2 a
  times : IsNear 2000 b

pub steps : (v way : Point) (b : ℤ) → IsWithin lead_range v → IsWithin 2 way → IsNear 2000 b → IsStep v.x way.x b × IsStep v.y way.y b
steps v way b in_v in_way in_b = (record { from = in_v.x; step = in_way.x; times = in_b }, record { from = in_v.y; step = in_way.y; times = in_b })

module _ (v a b : ℤ) (is : IsStep v a b) where
  gone : IsNear 4000 (a *ℤ b)
  gone = near_product 2 2000 a b is.step is.times

  exact_from : to_z w64 (of_z w64 v) ≡ v
  exact_from = to_z-of_z w64 v (omega (arith, ints, is.from.0, is.from.1))

  exact_step : to_z w64 (of_z w64 a) ≡ a
  exact_step = to_z-of_z w64 a (omega (arith, ints, is.step.0, is.step.1))

  exact_times : to_z w64 (of_z w64 b) ≡ b
  exact_times = to_z-of_z w64 b (omega (arith, ints, is.times.0, is.times.1))

  -- so the code's numbers fit
  pub product_fits : FitsSigned w64 (to_z w64 (of_z w64 a) *ℤ to_z w64 (of_z w64 b))
  product_fits = rw (exact_step, exact_times) (let near = gone in omega (arith, ints, near.0, near.1))

  exact_product : to_z w64 (of_z w64 (to_z w64 (of_z w64 a) *ℤ to_z w64 (of_z w64 b))) ≡ a *ℤ b
  exact_product = rw (exact_step, exact_times) (to_z-of_z w64 (a *ℤ b) (let near = gone in omega (arith, ints, near.0, near.1)))

  sum_near : FitsSigned w64 (v +ℤ (a *ℤ b))
  sum_near = let near = gone in omega (arith, ints, near.0, near.1, is.from.0, is.from.1)

  pub sum_fits : FitsSigned w64 (to_z w64 (of_z w64 v) +ℤ to_z w64 (of_z w64 (to_z w64 (of_z w64 a) *ℤ to_z w64 (of_z w64 b))))
  sum_fits = rw (exact_from, exact_product) sum_near

  -- and are exact
  pub sum_exact : to_z w64 (of_z w64 (to_z w64 (of_z w64 v) +ℤ to_z w64 (of_z w64 (to_z w64 (of_z w64 a) *ℤ to_z w64 (of_z w64 b))))) ≡ v +ℤ (a *ℤ b)
  sum_exact = rw (exact_from, exact_product) (to_z-of_z w64 (v +ℤ (a *ℤ b)) sum_near)

-- the tried places lie near the vertex
pub away_within : (n : ℕ) (v way : Point) (times : ℤ) → IsWithin n v → IsWithin 2 way → IsNear 2000 times → IsWithin (n + lead_reach) (away_from v times way)
away_within n v way times in_v in_way in_times =
    let across = near_product 2 2000 way.x times in_way.x in_times in
    let up = near_product 2 2000 way.y times in_way.y in_times in
    record {
      x = (omega (arith, ints, across.0, across.1, in_v.x.0, in_v.x.1), omega (arith, ints, across.0, across.1, in_v.x.0, in_v.x.1));
      y = (omega (arith, ints, up.0, up.1, in_v.y.0, in_v.y.1), omega (arith, ints, up.0, up.1, in_v.y.0, in_v.y.1));
    }

-- what lies within a range lies within a wider one
pub wider : (m n : ℕ) (p : Point) → m ≤ n → IsWithin m p → IsWithin n p
wider m n p h is = record {
  x = (omega (arith, ints, is.x.0), omega (arith, ints, is.x.1));
  y = (omega (arith, ints, is.y.0), omega (arith, ints, is.y.1));
}

pub away_in_range : (v way : Point) (times : ℤ) → IsWithin lead_range v → IsWithin 2 way → IsNear 2000 times → IsWithin widest (away_from v times way)
away_in_range v way times in_v in_way in_times = wider (lead_range + lead_reach) widest (away_from v times way) (omega arith) (away_within lead_range v way times in_v in_way in_times)

-- each way is short
two : IsNear 2 (pos 2)
two = (omega (arith, ints), omega (arith, ints))

one : IsNear 2 (pos 1)
one = (omega (arith, ints), omega (arith, ints))

none : IsNear 2 (pos 0)
none = (omega (arith, ints), omega (arith, ints))

back : IsNear 2 (negsuc 0)
back = (omega (arith, ints), omega (arith, ints))

two_back : IsNear 2 (negsuc 1)
two_back = (omega (arith, ints), omega (arith, ints))

pub ways_short : All (IsWithin 2) sixteen_ways
ways_short = All-from_recursion (IsWithin 2) sixteen_ways
    (record { x = two; y = none }, (record { x = two; y = one }, (record { x = two; y = two }, (record { x = one; y = two }, (record { x = none; y = two }, (record { x = back; y = two }, (record { x = two_back; y = two }, (record { x = two_back; y = one }, (record { x = two_back; y = none }, (record { x = two_back; y = back }, (record { x = two_back; y = two_back }, (record { x = back; y = two_back }, (record { x = none; y = two_back }, (record { x = one; y = two_back }, (record { x = two; y = two_back }, (record { x = two; y = back }, tt))))))))))))))))

pub way_short : (k : ℕ) (d : Point) → k < 32 → IsWithin 2 (get_or sixteen_ways (k % 16) d)
way_short k d below = ways_short (k % 16) d (omega arith)

-- what stands behind the first list
read-behind : {X : Type 0} (xs ys : List X) (k : ℕ) → slice_get (xs ++ ys) (length xs + k) ≡ slice_get ys k
read-behind [] ys k = ap (slice_get ys) (omega arith)
read-behind (x ∷ xs) ys k =
    let next : suc (length xs) + k ≡ suc (length xs + k) = omega arith in
    ap (slice_get ((x ∷ xs) ++ ys)) next ∙ read-behind xs ys k

-- first the long ones are tried
pub long_place : (v : Point) (k : ℕ) (d : Point) → k < 16 → slice_get (tried_around v) k ≡ Some (away_from v (pos 2000) (get_or sixteen_ways (k % 16) d))
long_place v k d below =
    let same : k ≡ k % 16 = omega arith in
    read-front (map (away_from v (pos 2000)) sixteen_ways) (map (away_from v (pos 500)) sixteen_ways) k below
    ∙ ap (slice_get (map (away_from v (pos 2000)) sixteen_ways)) same
    ∙ read-map (away_from v (pos 2000)) sixteen_ways (k % 16) (get_or sixteen_ways (k % 16) d) (slice_get-get_or sixteen_ways (k % 16) d (omega arith))

-- then the short ones
pub short_place : (v : Point) (k : ℕ) (d : Point) → 16 ≤ k → k < 32 → slice_get (tried_around v) k ≡ Some (away_from v (pos 500) (get_or sixteen_ways (k % 16) d))
short_place v k d low high =
    let same : k ≡ 16 + k % 16 = omega arith in
    ap (slice_get (tried_around v)) same
    ∙ read-behind (map (away_from v (pos 2000)) sixteen_ways) (map (away_from v (pos 500)) sixteen_ways) (k % 16)
    ∙ read-map (away_from v (pos 500)) sixteen_ways (k % 16) (get_or sixteen_ways (k % 16) d) (slice_get-get_or sixteen_ways (k % 16) d (omega arith))

pub long_near : IsNear 2000 (pos 2000)
long_near = (omega (arith, ints), omega (arith, ints))

pub short_near : IsNear 2000 (pos 500)
short_near = (omega (arith, ints), omega (arith, ints))

-- all of them do
pub tried_within : (n : ℕ) (v q : Point) → IsWithin n v → Contains (tried_around v) q → IsWithin (n + lead_reach) q
tried_within n v q in_v = All-contains (IsWithin (n + lead_reach)) (tried_around v) q (
    All-append (IsWithin (n + lead_reach)) (map (away_from v (pos 2000)) sixteen_ways) (map (away_from v (pos 500)) sixteen_ways) (gone (pos 2000) long_near) (gone (pos 500) short_near)
    ) where
      gone : (times : ℤ) → IsNear 2000 times → All (IsWithin (n + lead_reach)) (map (away_from v times) sixteen_ways)
      gone times in_times =
          All-map (IsWithin (n + lead_reach)) (away_from v times) sixteen_ways
          (All-weaker (IsWithin 2) (λ way. IsWithin (n + lead_reach) (away_from v times way)) (λ way short. away_within n v way times in_v short in_times) sixteen_ways ways_short)
