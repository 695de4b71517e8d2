-- Of three different directions the second or the third lies between the other two, counterclockwise from the first.
use Rattle.std.proofs.Common.{◌⊎◌, inl, inr}
use Rattle.nest_base.specs.declared.places.Point.{Point}
use Rattle.nest_base.specs.Turn.{IsSameDirection, IsInsideAngle}
use Rattle.nest_base.specs.Angles.{IsDirection}
use Rattle.nest_base.proofs.Directions.{IsSameDirection-sym}
use Rattle.nest_base.proofs.Earlier.{IsEarlier, by_angle}
use Rattle.nest_base.proofs.Halves.{same_in_half}
use Rattle.nest_base.proofs.InsideAngles.{earlier_apart, inside_in_order, inside_turned}

pub same_or_apart : (a b : Point) → IsDirection a → IsDirection b → IsSameDirection a b ⊎ (IsSameDirection a b → ⊥)
same_or_apart a b is_a is_b = by_angle a b (λ earlier. inr (earlier_apart a b is_a is_b earlier)) (λ level. inl (same_in_half a b is_a level.0 level.1))
    (λ later. inr (λ same. earlier_apart b a is_b is_a later (IsSameDirection-sym a b same)))

-- different directions come one before the other, from west on
in_order : (a b : Point) → IsDirection a → (IsSameDirection a b → ⊥) → IsEarlier a b ⊎ IsEarlier b a
in_order a b is_a apart = by_angle a b (λ earlier. inl earlier) (λ level. absurd (apart (same_in_half a b is_a level.0 level.1))) (λ later. inr later)

pub three_ways : (a b c : Point) → IsDirection a → IsDirection b → IsDirection c →
    (IsSameDirection a b → ⊥) → (IsSameDirection a c → ⊥) → (IsSameDirection b c → ⊥) → IsInsideAngle a b c ⊎ IsInsideAngle a c b
three_ways a b c is_a is_b is_c a_b a_c b_c = of (in_order a b is_a a_b) (in_order a c is_a a_c) (in_order b c is_b b_c)
  where
    b_a : IsSameDirection b a → ⊥
    b_a same = a_b (IsSameDirection-sym b a same)

    c_a : IsSameDirection c a → ⊥
    c_a same = a_c (IsSameDirection-sym c a same)

    c_b : IsSameDirection c b → ⊥
    c_b same = b_c (IsSameDirection-sym c b same)

    of : IsEarlier a b ⊎ IsEarlier b a → IsEarlier a c ⊎ IsEarlier c a → IsEarlier b c ⊎ IsEarlier c b → IsInsideAngle a b c ⊎ IsInsideAngle a c b
    of (inl ab) z (inl bc) = inl (inside_in_order a b c is_a is_b is_c ab bc)
    of y (inl ac) (inr cb) = inr (inside_in_order a c b is_a is_c is_b ac cb)
    of (inl ab) (inr ca) (inr cb) = inl (inside_turned c a b is_c is_a is_b c_b (inside_in_order c a b is_c is_a is_b ca ab))
    of (inr ba) (inl ac) (inl bc) = inr (inside_turned b a c is_b is_a is_c b_c (inside_in_order b a c is_b is_a is_c ba ac))
    of (inr ba) (inr ca) (inl bc) =
        inl (inside_turned c a b is_c is_a is_b c_b (inside_turned b c a is_b is_c is_a b_a (inside_in_order b c a is_b is_c is_a bc ca)))
    of (inr ba) (inr ca) (inr cb) =
        inr (inside_turned b a c is_b is_a is_c b_c (inside_turned c b a is_c is_b is_a c_a (inside_in_order c b a is_c is_b is_a cb ba)))
