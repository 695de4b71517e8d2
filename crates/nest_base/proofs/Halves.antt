-- Directions of one half of all: what turns say of them.
use Rattle.std.proofs.Common.{arith, ◌≡◌, pos, ◌*ℤ◌, ◌<ℤ◌, ◌≤ℤ◌, refl, sym, ap, ◌∙◌}
use Rattle.std.specs.Prelude.{neg_ℤ}
use Rattle.std.proofs.lemmas.Int.{ints, by_lt_z}
use Rattle.nest_base.specs.declared.places.Point.{Point}
use Rattle.nest_base.specs.Plane.{cross_product, dot_product}
use Rattle.nest_base.specs.Turn.{TurnsLeft, IsSameDirection, IsOpposite}
use Rattle.nest_base.specs.Angles.{IsDirection, half_of}
use Rattle.nest_base.proofs.Differences.{neg-mul}
use Rattle.nest_base.proofs.Directions.{cross_product-turned, balance_y}
use Rattle.nest_base.proofs.Signs.{mul_pos, mul_nonneg, mul_nonpos, mul_nonpos_nonpos, neg-mul-neg, by_sign}

-- from west on as far as just before east
pub data IsSouthern (d : Point) : Type 0 where
  due_west : d.y ≡ pos 0 → d.x <ℤ pos 0 → IsSouthern d
  south : d.y <ℤ pos 0 → IsSouthern d

-- from east on as far as just before west
pub data IsNorthern (d : Point) : Type 0 where
  due_east : d.y ≡ pos 0 → pos 0 <ℤ d.x → IsNorthern d
  north : pos 0 <ℤ d.y → IsNorthern d

-- these are the halves 1 and 2
pub half-southern : (d : Point) → IsSouthern d → half_of d ≡ 1
half-southern d (due_west level west) = grind (arith, ints)
half-southern d (south down) = grind (arith, ints)

pub half-northern : (d : Point) → IsNorthern d → half_of d ≡ 2
half-northern d (due_east level east) = grind (arith, ints)
half-northern d (north up) = grind (arith, ints)

-- a direction belongs to one of the halves
pub by_half : {P : Type 0} (d : Point) → IsDirection d → (IsSouthern d → P) → (IsNorthern d → P) → P
by_half d some low up = by_sign d.y (λ is_up. up (north is_up))
    (λ level. by_sign d.x (λ east. up (due_east level east)) (λ none. absurd (some (none, level))) (λ west. low (due_west level west)))
    (λ is_low. low (south is_low))

-- the same way back
abbrev pub opposite : Point → Point
opposite d = record { x = neg_ℤ d.x; y = neg_ℤ d.y }

-- no northern direction leads down
pub not_below : (d : Point) → IsNorthern d → pos 0 ≤ℤ d.y
not_below d (due_east level east) = omega (arith, ints, level)
not_below d (north up) = omega (arith, ints)

-- of northern directions: what lies on the left of b, or is b, lies on the left of each a that has b on its left
pub left_of_first-north : (a b c : Point) → IsNorthern a → IsNorthern b → IsNorthern c → TurnsLeft a b → pos 0 ≤ℤ cross_product b c → TurnsLeft a c
left_of_first-north a b c na (north up) (north also) l m = by_lt_z (pos 0) (cross_product a c) (λ left. left)
    (λ not_left. absurd (omega (
      arith,
      ints,
      not_left,
      balance_y a.x a.y b.x b.y c.x c.y,
      mul_pos (cross_product a b) c.y l also,
      mul_nonneg (cross_product b c) a.y m (not_below a na),
      mul_nonpos b.y (cross_product a c) (omega (arith, ints)) not_left,
    )))
left_of_first-north a b c na (north up) (due_east level east) l m = absurd (omega (arith, ints, m, ap (λ z. b.x *ℤ z) level, mul_pos b.y c.x up east))
left_of_first-north a b c na (due_east level east) nc l m = absurd (omega (arith, ints, l, ap (λ z. a.x *ℤ z) level, mul_nonneg a.y b.x (not_below a na) (omega (arith, ints))))

-- turned round, both keep the turn between them
pub cross_product-opposite : (a b : Point) → cross_product (opposite a) (opposite b) ≡ cross_product a b
cross_product-opposite a b = omega (arith, ints, neg-mul-neg a.x b.y, neg-mul-neg a.y b.x)

-- with one of them turned round, the turn is the other way
pub cross_product-opposite_left : (a b : Point) → cross_product (opposite a) b ≡ neg_ℤ (cross_product a b)
cross_product-opposite_left a b = omega (arith, ints, neg-mul a.x b.y, neg-mul a.y b.x)

-- a southern direction turned round is a northern one
pub northern-opposite : (d : Point) → IsSouthern d → IsNorthern (opposite d)
northern-opposite d (due_west level west) = due_east (omega (arith, ints, level)) (omega (arith, ints))
northern-opposite d (south down) = north (omega (arith, ints))

left_of_first-south : (a b c : Point) → IsSouthern a → IsSouthern b → IsSouthern c → TurnsLeft a b → pos 0 ≤ℤ cross_product b c → TurnsLeft a c
left_of_first-south a b c sa sb sc l m =
    let left = left_of_first-north (opposite a) (opposite b) (opposite c) (northern-opposite a sa) (northern-opposite b sb) (northern-opposite c sc)
    (omega (arith, ints, l, cross_product-opposite a b)) (omega (arith, ints, m, cross_product-opposite b c)) in
    omega (arith, ints, left, cross_product-opposite a c)

half-nowhere : (d : Point) → d.x ≡ pos 0 → d.y ≡ pos 0 → half_of d ≡ 0
half-nowhere d x y = rw (x, y) refl

-- what is in half 1 or 2 is southern or northern
pub southern-from_half : (d : Point) → half_of d ≡ 1 → IsSouthern d
southern-from_half d h = by_half d (λ none. omega (arith, h, half-nowhere d none.0 none.1)) (λ is. is) (λ up. absurd (omega (arith, h, half-northern d up)))

pub northern-from_half : (d : Point) → half_of d ≡ 2 → IsNorthern d
northern-from_half d h = by_half d (λ none. omega (arith, h, half-nowhere d none.0 none.1)) (λ low. absurd (omega (arith, h, half-southern d low))) (λ is. is)

direction-from_turn : (a b : Point) → TurnsLeft a b → IsDirection a
direction-from_turn a b l none = omega (arith, ints, l, ap (λ z. z *ℤ b.y) none.0, ap (λ z. z *ℤ b.x) none.1)

-- the same of directions of one half
pub left_of_first : (a b c : Point) → half_of a ≡ half_of b → half_of b ≡ half_of c → TurnsLeft a b → pos 0 ≤ℤ cross_product b c → TurnsLeft a c
left_of_first a b c p q l m = by_half a (direction-from_turn a b l)
    (λ sa. let h = half-southern a sa in
    left_of_first-south a b c sa (southern-from_half b (omega (arith, p, h))) (southern-from_half c (omega (arith, p, q, h))) l m)
    (λ na. let h = half-northern a na in
    left_of_first-north a b c na (northern-from_half b (omega (arith, p, h))) (northern-from_half c (omega (arith, p, q, h))) l m)

-- and what lies on the left of b lies on the left of each a that has b on its left, or is b
pub left_of_second : (a b c : Point) → half_of a ≡ half_of b → half_of b ≡ half_of c → pos 0 ≤ℤ cross_product a b → TurnsLeft b c → TurnsLeft a c
left_of_second a b c p q l m = by_lt_z (pos 0) (cross_product a c) (λ left. left)
    (λ not_left. absurd (omega (arith, ints, l, left_of_first b c a q (sym q ∙ sym p) m (omega (arith, ints, not_left)))))

-- directions of one half on one line with b are on one line
pub on_one_line : (a b c : Point) → half_of a ≡ half_of b → half_of b ≡ half_of c → cross_product a b ≡ pos 0 → cross_product b c ≡ pos 0 → cross_product a c ≡ pos 0
on_one_line a b c p q l m = by_sign (cross_product a c)
    (λ left. absurd (omega (arith, ints, l, left_of_first a c b (p ∙ q) (sym q) left (omega (arith, ints, m)))))
    (λ straight. straight)
    (λ right. absurd (omega (arith, ints, m, left_of_first c a b (sym q ∙ sym p) p (omega (arith, ints, right)) (omega (arith, ints, l)))))

-- northern directions on one line are one direction
same-north : (a b : Point) → IsNorthern a → IsNorthern b → cross_product a b ≡ pos 0 → pos 0 <ℤ dot_product a b
same-north a b (north p) (north q) e = by_lt_z (pos 0) a.x
    (λ right. by_lt_z (pos 0) b.x
    (λ also. omega (arith, ints, mul_pos a.y b.y p q, mul_pos a.x b.x right also))
    (λ other. absurd (omega (arith, ints, e, mul_pos a.x b.y right q, mul_nonpos a.y b.x (omega (arith, ints)) other))))
    (λ left. by_lt_z (pos 0) b.x
    (λ other. absurd (omega (arith, ints, e, mul_nonpos b.y a.x (omega (arith, ints)) left, mul_pos a.y b.x p other)))
    (λ also. omega (arith, ints, mul_pos a.y b.y p q, mul_nonpos_nonpos a.x b.x left also)))
same-north a b (north p) (due_east q r) e = absurd (omega (arith, ints, e, mul_pos a.y b.x p r, ap (λ z. a.x *ℤ z) q))
same-north a b (due_east p r) (north q) e = absurd (omega (arith, ints, e, mul_pos a.x b.y r q, ap (λ z. z *ℤ b.x) p))
same-north a b (due_east p r) (due_east q s) e = omega (arith, ints, mul_pos a.x b.x r s, ap (λ z. z *ℤ b.y) p)

-- directions of one half on one line are one direction
pub same_in_half : (a b : Point) → IsDirection a → half_of a ≡ half_of b → cross_product a b ≡ pos 0 → IsSameDirection a b
same_in_half a b some h line = (line, by_half a some low up)
  where
    up : IsNorthern a → pos 0 <ℤ dot_product a b
    up na = same-north a b na (northern-from_half b (sym h ∙ half-northern a na)) line

    low : IsSouthern a → pos 0 <ℤ dot_product a b
    low sa =
        let ahead = same-north (opposite a) (opposite b) (northern-opposite a sa) (northern-opposite b (southern-from_half b (sym h ∙ half-southern a sa))) (cross_product-opposite a b ∙ line) in
        omega (arith, ints, ahead, neg-mul-neg a.x b.x, neg-mul-neg a.y b.y)

-- directions of both halves on one line are opposite
pub opposite_across : (a b : Point) → IsSouthern a → IsNorthern b → cross_product a b ≡ pos 0 → IsOpposite a b
opposite_across a b sa nb line =
    let ahead = same-north (opposite a) b (northern-opposite a sa) nb (omega (arith, ints, line, cross_product-opposite_left a b)) in
    (line, omega (arith, ints, ahead, neg-mul a.x b.x, neg-mul a.y b.y))

-- so directions that are the same are in one half
pub half-same : (a b : Point) → IsDirection a → IsDirection b → IsSameDirection a b → half_of a ≡ half_of b
half-same a b is_a is_b same = by_half a is_a
    (λ sa. by_half b is_b
    (λ sb. half-southern a sa ∙ sym (half-southern b sb))
    (λ nb. let across = opposite_across a b sa nb same.0 in absurd (omega (arith, ints, across.1, same.1))))
    (λ na. by_half b is_b
    (λ sb. let across = opposite_across b a sb na (cross_product-turned a b same.0) in absurd (omega (arith, ints, across.1, same.1)))
    (λ nb. half-northern a na ∙ sym (half-northern b nb)))
