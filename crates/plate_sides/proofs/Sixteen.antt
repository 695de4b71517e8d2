-- What the sixteen directions are to one another, by computing all pairs and triples.
use Rattle.std.proofs.Common.{◌≡◌, ℕ, zero, suc, ◌<◌, Bool, true, false, cond, not, ◌&&◌, ◌==◌, ltb, get_or, Decides, ◌∙◌, sym, refl}
use Rattle.std.specs.Prelude.{◌↔◌}
use Rattle.std.proofs.lemmas.Bool.Decides.{Decides-eqb, Decides-ltb, Decides-and, Decides-below_and}
use Rattle.std.proofs.lemmas.Option.{slice_get_within, get_or_from_slice_get}
use Rattle.nest_base.specs.declared.places.Point.{Point}
use Rattle.nest_base.specs.Turn.{IsInsideAngle, west}
use Rattle.plate_sides.specs.Sixteen.{sixteen, IsDirectionAt, steps, angle_steps, IsTurnOf, StepsTellTurns, AnglesHoldPlacesBetween}
use Rattle.plate_sides.proofs.Angles.{turns_left, is_same, is_opposite, is_inside, Decides-turns_left, Decides-is_same, Decides-is_opposite, Decides-is_inside}

-- two tests have the same answer
abbrev agree : Bool → Bool → Bool
agree x y = cond x y (not y)

equal-from_agree : (x y : Bool) → agree x y ≡ true → x ≡ y
equal-from_agree true true h = refl
equal-from_agree true false h = sym h
equal-from_agree false true h = h
equal-from_agree false false h = refl

-- such tests decide the same
same_decided : {P Q : Type 0} (x y : Bool) → x ≡ y → Decides x P → Decides y Q → P ↔ Q
same_decided x y same (p, x_true) (q, y_true) = (λ h. q (sym same ∙ x_true h), λ h. p (same ∙ y_true h))

-- the test holds at each place below n
abbrev all_places : ℕ → (ℕ → Bool) → Bool
all_places zero test = true
all_places (suc n) test = test n && all_places n test

at_each_place : (n : ℕ) (test : ℕ → Bool) → all_places n test ≡ true → (k : ℕ) → k < n → test k ≡ true
at_each_place n test = (Decides-below_and test (λ k. test k ≡ true) (λ m. all_places m test) (λ k. (λ h. h, λ h. h)) refl (λ m. refl) n).0

-- the direction at place i
abbrev at : ℕ → Point
at i = get_or sixteen i west

-- a test of places and a test of their directions agree at all pairs
abbrev agree_at_pairs : (ℕ → ℕ → Bool) → (Point → Point → Bool) → Bool
agree_at_pairs x y = all_places 16 (λ i. all_places 16 (λ j. agree (x i j) (y (at i) (at j))))

at_each_pair : (x : ℕ → ℕ → Bool) (y : Point → Point → Bool) → agree_at_pairs x y ≡ true →
    (i j : ℕ) → i < 16 → j < 16 → x i j ≡ y (at i) (at j)
at_each_pair x y all i j p q =
    let row = at_each_place 16 (λ i. all_places 16 (λ j. agree (x i j) (y (at i) (at j)))) all i p in
    equal-from_agree _ _ (at_each_place 16 (λ j. agree (x i j) (y (at i) (at j))) row j q)

-- each `refl` computes 256 pairs
turn_at : (i j : ℕ) → i < 16 → j < 16 → IsTurnOf (steps i j) (at i) (at j)
turn_at i j p q = record {
  none = same_decided _ _ (at_each_pair (λ i j. steps i j == 0) is_same refl i j p q) (Decides-eqb (steps i j) 0) (Decides-is_same (at i) (at j));
  left =
      same_decided _ _ (at_each_pair (λ i j. ltb 0 (steps i j) && ltb (steps i j) 8) turns_left refl i j p q)
      (Decides-and _ _ (Decides-ltb 0 (steps i j)) (Decides-ltb (steps i j) 8)) (Decides-turns_left (at i) (at j));
  half = same_decided _ _ (at_each_pair (λ i j. steps i j == 8) is_opposite refl i j p q) (Decides-eqb (steps i j) 8) (Decides-is_opposite (at i) (at j));
  right =
      same_decided _ _ (at_each_pair (λ i j. ltb 8 (steps i j)) (λ a b. turns_left b a) refl i j p q)
      (Decides-ltb 8 (steps i j)) (Decides-turns_left (at j) (at i));
}

abbrev is_between : ℕ → ℕ → ℕ → Bool
is_between i l j = ltb 0 (steps i l) && ltb (steps i l) (angle_steps i j)

-- the angles from place i on hold the directions between
abbrev holds_between : ℕ → Bool
holds_between i = agree_at_pairs (λ l j. is_between i l j) (λ d b. is_inside (at i) d b)

-- all 4096 triples, computed
all_hold_between : all_places 16 holds_between ≡ true
all_hold_between = refl

angle_at : (i l j : ℕ) → i < 16 → l < 16 → j < 16 → IsInsideAngle (at i) (at l) (at j) ↔ ((0 < steps i l) × (steps i l < angle_steps i j))
angle_at i l j p q r =
    let same = at_each_pair (λ l j. is_between i l j) (λ d b. is_inside (at i) d b) (at_each_place 16 holds_between all_hold_between i p) l j q r in
    same_decided _ _ (sym same) (Decides-is_inside (at i) (at l) (at j))
    (Decides-and _ _ (Decides-ltb 0 (steps i l)) (Decides-ltb (steps i l) (angle_steps i j)))

within : (i : ℕ) (a : Point) → IsDirectionAt i a → i < 16
within i a is = slice_get_within sixteen i a is

at_is : (i : ℕ) (a : Point) → IsDirectionAt i a → at i ≡ a
at_is i a is = get_or_from_slice_get sixteen i a west is

pub steps_tell_turns : StepsTellTurns
steps_tell_turns i j a b is_a is_b = rw (← at_is i a is_a, ← at_is j b is_b) (turn_at i j (within i a is_a) (within j b is_b))

pub angles_hold_places_between : AnglesHoldPlacesBetween
angles_hold_places_between i l j a d b is_a is_d is_b =
    rw (← at_is i a is_a, ← at_is l d is_d, ← at_is j b is_b) (angle_at i l j (within i a is_a) (within l d is_d) (within j b is_b))
