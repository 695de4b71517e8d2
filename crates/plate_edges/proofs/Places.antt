-- The ends and the middle of a segment.
use Rattle.std.proofs.Common.{arith, ◌≡◌, ℤ, pos, ◌+ℤ◌, ◌-ℤ◌, ◌*ℤ◌, ◌⊎◌, sym, ap, inl, inr, subst, ◌∙◌}
use Rattle.std.specs.Prelude.{neg_ℤ}
use Rattle.std.proofs.lemmas.Int.{ints, by_lt_z}
use Rattle.nest_base.specs.declared.places.Point.{Point}
use Rattle.nest_base.specs.Plane.{RationalPoint, rational, IsAt, IsOn, IsBetween}
use Rattle.nest_base.proofs.Differences.{diff_of, diff_same, diffs}
use Rattle.nest_base.proofs.Points.{same_place, mul-one, turned_on}

-- a place that is at another is that one
pub place_at : (q a : Point) → IsAt (rational q) a → q ≡ a
place_at q a h = same_place (ap (λ (p : Point). p.x) h ∙ mul-one a.x) (ap (λ (p : Point). p.y) h ∙ mul-one a.y)

pub at_place : (q a : Point) → q ≡ a → IsAt (rational q) a
at_place q a e = same_place (ap (λ (p : Point). p.x) e ∙ sym (mul-one a.x)) (ap (λ (p : Point). p.y) e ∙ sym (mul-one a.y))

-- the middle between two places
abbrev pub middle : Point → Point → RationalPoint
middle a b = record { x = a.x +ℤ b.x; y = a.y +ℤ b.y; w = pos 2; positive = record { lt = tt } }

opposite_products : (u v : ℤ) → u *ℤ neg_ℤ v ≡ v *ℤ neg_ℤ u
opposite_products u v = rw (diff_of u, diff_of v) (simp diffs (diff_same _ _ _ _ (omega arith)))

-- the cross product of opposite directions is 0
no_turn_back : (u v u' v' : ℤ) → u' ≡ neg_ℤ u → v' ≡ neg_ℤ v → ((u *ℤ v') -ℤ (v *ℤ u')) ≡ pos 0
no_turn_back u v u' v' e f = rw (e, f) (omega (arith, ints, opposite_products u v))

middle_between : (a b : ℤ) → IsBetween (a *ℤ pos 2) (a +ℤ b) (b *ℤ pos 2)
middle_between a b = by_lt_z b a (λ less. inr (omega (arith, ints), omega (arith, ints))) (λ at_least. inl (omega (arith, ints), omega (arith, ints)))

pub on_middle : (a b : Point) → IsOn (middle a b) a b
on_middle a b = record {
  on_line = no_turn_back (a.x *ℤ pos 2 -ℤ (a.x +ℤ b.x)) (a.y *ℤ pos 2 -ℤ (a.y +ℤ b.y)) (b.x *ℤ pos 2 -ℤ (a.x +ℤ b.x)) (b.y *ℤ pos 2 -ℤ (a.y +ℤ b.y))
      (omega (arith, ints)) (omega (arith, ints));
  between_x = middle_between a.x b.x;
  between_y = middle_between a.y b.y;
}

-- two pairs of places are the same, in either order
abbrev pub AreSameEnds : Point → Point → Point → Point → Type 0
AreSameEnds a b c d = ((a ≡ c) × (b ≡ d)) ⊎ ((a ≡ d) × (b ≡ c))

pub same_ends_back : (a b c d : Point) → AreSameEnds a b c d → AreSameEnds c d a b
same_ends_back a b c d (inl e) = inl (sym e.0, sym e.1)
same_ends_back a b c d (inr e) = inr (sym e.1, sym e.0)

pub on_same_ends : (p : RationalPoint) (a b c d : Point) → AreSameEnds a b c d → IsOn p a b → IsOn p c d
on_same_ends p a b c d (inl e) on = subst (IsOn p c) e.1 (subst (λ q. IsOn p q b) e.0 on)
on_same_ends p a b c d (inr e) on = turned_on d c p (subst (IsOn p d) e.1 (subst (λ q. IsOn p q b) e.0 on))

-- the middle is no end, unless the ends are one place
pub middle_at_first : (a b : Point) → IsAt (middle a b) a → a ≡ b
middle_at_first a b h = same_place (omega (arith, ints, ap (λ (p : Point). p.x) h)) (omega (arith, ints, ap (λ (p : Point). p.y) h))

pub middle_at_last : (a b : Point) → IsAt (middle a b) b → a ≡ b
middle_at_last a b h = same_place (omega (arith, ints, ap (λ (p : Point). p.x) h)) (omega (arith, ints, ap (λ (p : Point). p.y) h))
