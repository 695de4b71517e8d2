-- Tests that decide the facts about angles, so that these can be computed.
use Rattle.std.proofs.Common.{Bool, not, ◌&&◌, ◌||◌, ◌⊎◌, inl, inr, ℤ, pos, ◌<ℤ◌, Decides, arith}
use Rattle.std.specs.Int.Signed.{lt_z}
use Rattle.std.specs.Ordering.{int_eq}
use Rattle.std.proofs.lemmas.Int.{ints}
use Rattle.std.proofs.lemmas.Bool.Decides.{Decides-int_eq, Decides-not, Decides-and, Decides-or, Decides-like}
use Rattle.nest_base.specs.declared.places.Point.{Point}
use Rattle.nest_base.specs.Plane.{cross_product, dot_product}
use Rattle.nest_base.specs.Turn.{TurnsLeft, IsSameDirection, IsOpposite, IsInsideAngle, below_half, above_half, half, whole}

Decides-lt_z : (x y : ℤ) → Decides (lt_z x y) (x <ℤ y)
Decides-lt_z x y = grind (arith, ints)

abbrev pub turns_left : Point → Point → Bool
turns_left a b = lt_z (pos 0) (cross_product a b)

abbrev pub is_same : Point → Point → Bool
is_same a b = int_eq (cross_product a b) (pos 0) && lt_z (pos 0) (dot_product a b)

abbrev pub is_opposite : Point → Point → Bool
is_opposite a b = int_eq (cross_product a b) (pos 0) && lt_z (dot_product a b) (pos 0)

pub Decides-turns_left : (a b : Point) → Decides (turns_left a b) (TurnsLeft a b)
Decides-turns_left a b = Decides-lt_z (pos 0) (cross_product a b)

pub Decides-is_same : (a b : Point) → Decides (is_same a b) (IsSameDirection a b)
Decides-is_same a b = Decides-and _ _ (Decides-int_eq (cross_product a b) (pos 0)) (Decides-lt_z (pos 0) (dot_product a b))

pub Decides-is_opposite : (a b : Point) → Decides (is_opposite a b) (IsOpposite a b)
Decides-is_opposite a b = Decides-and _ _ (Decides-int_eq (cross_product a b) (pos 0)) (Decides-lt_z (dot_product a b) (pos 0))

-- the four cases of an angle that holds d, as facts and as tests
abbrev IsBelowHalf : Point → Point → Point → Type 0
IsBelowHalf a d b = TurnsLeft a b × (TurnsLeft a d × TurnsLeft d b)

abbrev pub is_below_half : Point → Point → Point → Bool
is_below_half a d b = turns_left a b && (turns_left a d && turns_left d b)

abbrev IsAboveHalf : Point → Point → Point → Type 0
IsAboveHalf a d b =
    TurnsLeft b a × ((IsSameDirection d a → ⊥) × ((IsSameDirection d b → ⊥) × (TurnsLeft b d × TurnsLeft d a → ⊥)))

abbrev pub is_above_half : Point → Point → Point → Bool
is_above_half a d b = turns_left b a && (not (is_same d a) && (not (is_same d b) && not (turns_left b d && turns_left d a)))

abbrev IsHalf : Point → Point → Point → Type 0
IsHalf a d b = IsOpposite a b × TurnsLeft a d

abbrev pub is_half : Point → Point → Point → Bool
is_half a d b = is_opposite a b && turns_left a d

abbrev IsWhole : Point → Point → Point → Type 0
IsWhole a d b = IsSameDirection a b × (IsSameDirection d a → ⊥)

abbrev pub is_whole : Point → Point → Point → Bool
is_whole a d b = is_same a b && not (is_same d a)

abbrev pub is_inside : Point → Point → Point → Bool
is_inside a d b = is_below_half a d b || (is_above_half a d b || (is_half a d b || is_whole a d b))

Decides-is_below_half : (a d b : Point) → Decides (is_below_half a d b) (IsBelowHalf a d b)
Decides-is_below_half a d b =
    Decides-and _ _ (Decides-turns_left a b) (Decides-and _ _ (Decides-turns_left a d) (Decides-turns_left d b))

Decides-is_above_half : (a d b : Point) → Decides (is_above_half a d b) (IsAboveHalf a d b)
Decides-is_above_half a d b =
    Decides-and _ _ (Decides-turns_left b a)
    (Decides-and _ _ (Decides-not _ (Decides-is_same d a))
    (Decides-and _ _ (Decides-not _ (Decides-is_same d b)) (Decides-not _ (Decides-and _ _ (Decides-turns_left b d) (Decides-turns_left d a)))))

Decides-is_half : (a d b : Point) → Decides (is_half a d b) (IsHalf a d b)
Decides-is_half a d b = Decides-and _ _ (Decides-is_opposite a b) (Decides-turns_left a d)

Decides-is_whole : (a d b : Point) → Decides (is_whole a d b) (IsWhole a d b)
Decides-is_whole a d b = Decides-and _ _ (Decides-is_same a b) (Decides-not _ (Decides-is_same d a))

abbrev IsAnyCase : Point → Point → Point → Type 0
IsAnyCase a d b = IsBelowHalf a d b ⊎ (IsAboveHalf a d b ⊎ (IsHalf a d b ⊎ IsWhole a d b))

inside-from_case : (a d b : Point) → IsAnyCase a d b → IsInsideAngle a d b
inside-from_case a d b (inl (left, (after, before))) = below_half left after before
inside-from_case a d b (inr (inl (right, (not_first, (not_last, not_outside))))) = above_half right not_first not_last not_outside
inside-from_case a d b (inr (inr (inl (opposite, after)))) = half opposite after
inside-from_case a d b (inr (inr (inr (same, not_first)))) = whole same not_first

case-from_inside : (a d b : Point) → IsInsideAngle a d b → IsAnyCase a d b
case-from_inside a d b (below_half left after before) = inl (left, (after, before))
case-from_inside a d b (above_half right not_first not_last not_outside) = inr (inl (right, (not_first, (not_last, not_outside))))
case-from_inside a d b (half opposite after) = inr (inr (inl (opposite, after)))
case-from_inside a d b (whole same not_first) = inr (inr (inr (same, not_first)))

pub Decides-is_inside : (a d b : Point) → Decides (is_inside a d b) (IsInsideAngle a d b)
Decides-is_inside a d b =
    Decides-like (is_inside a d b) (inside-from_case a d b) (case-from_inside a d b)
    (Decides-or _ _ (Decides-is_below_half a d b)
    (Decides-or _ _ (Decides-is_above_half a d b) (Decides-or _ _ (Decides-is_half a d b) (Decides-is_whole a d b))))
