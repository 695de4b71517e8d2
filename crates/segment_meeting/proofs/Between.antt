-- Numbers between others, and intervals.
use Rattle.std.proofs.Common.{arith, ◌≡◌, ℤ, pos, ◌+ℤ◌, ◌-ℤ◌, ◌*ℤ◌, ◌<ℤ◌, ◌⊎◌, inl, inr, sym, ◌∙◌}
use Rattle.std.specs.Prelude.{neg_ℤ}
use Rattle.std.proofs.lemmas.Int.{ints, by_lt_z}
use Rattle.nest_base.specs.Plane.{IsBetween}
use Rattle.nest_base.proofs.Differences.{neg-mul}
use Rattle.nest_base.proofs.Signs.{mul_pos, mean_pos}
use Rattle.segment_meeting.specs.Orientation.{LieBeyond, AreBefore}
use Rattle.segment_meeting.proofs.Factors.{sub-mul, positive_factor, negative_factor}

-- between a number and itself lies no other
pub only_between : (a m b : ℤ) → a ≡ b → IsBetween a m b → m ≡ a
only_between a m b e (inl h) = omega (arith, ints, h)
only_between a m b e (inr h) = omega (arith, ints, h)

pub turned_beyond : (m a b : ℤ) → LieBeyond m a b → LieBeyond m b a
turned_beyond m a b (inl h) = inl (h.1, h.0)
turned_beyond m a b (inr h) = inr (h.1, h.0)

pub negated_beyond : (a b c d : ℤ) → c ≡ neg_ℤ a → d ≡ neg_ℤ b → LieBeyond (pos 0) c d → LieBeyond (pos 0) a b
negated_beyond a b c d e f (inl h) = inr (omega (arith, ints, h), omega (arith, ints, h))
negated_beyond a b c d e f (inr h) = inl (omega (arith, ints, h), omega (arith, ints, h))

-- a number lies between two others, or both of these lie on one side of it
pub between_or_beyond : (a m b : ℤ) → IsBetween a m b ⊎ LieBeyond m a b
between_or_beyond a m b = by_lt_z m a
    (λ above. by_lt_z m b (λ h. inr (inl (above, h))) (λ h. inl (inr (h, omega (arith, ints)))))
    (λ below. by_lt_z b m (λ h. by_lt_z a m (λ g. inr (inr (g, h))) (λ g. inl (inr (omega (arith, ints), g)))) (λ h. inl (inl (below, h))))

-- the mean of two positive numbers at m, between a and b, is 0 only where all three are one
pub zero_mean : (a m b f g : ℤ) → IsBetween a m b → pos 0 <ℤ f → pos 0 <ℤ g → (b -ℤ m) *ℤ f +ℤ (m -ℤ a) *ℤ g ≡ pos 0 → (m ≡ a) × (m ≡ b)
zero_mean a m b f g (inl h) p q e = by_lt_z a b
    (λ less. absurd (omega (arith, ints, e, mean_pos (b -ℤ m) (m -ℤ a) f g (omega (arith, ints, h)) (omega (arith, ints, h)) (omega (arith, ints)) p q)))
    (λ same. (omega (arith, ints, h), omega (arith, ints, h)))
zero_mean a m b f g (inr h) p q e = by_lt_z b a
    (λ less. absurd (omega (arith, ints, e, neg-mul (b -ℤ m) f, neg-mul (m -ℤ a) g, mean_pos (neg_ℤ (b -ℤ m)) (neg_ℤ (m -ℤ a)) f g (omega (arith, ints, h)) (omega (arith, ints, h)) (omega (arith, ints)) p q)))
    (λ same. (omega (arith, ints, h), omega (arith, ints, h)))

-- no number is between two others and between two greater ones; all are compared after multiplying by w
pub not_before : (a b c d w v : ℤ) → pos 0 <ℤ w → IsBetween (a *ℤ w) v (b *ℤ w) → IsBetween (c *ℤ w) v (d *ℤ w) → AreBefore a b c d → ⊥
not_before a b c d w v some ab cd h = split ab cd (less a c h.0) (less a d h.1) (less b c h.2) (less b d h.3)
  where
    less : (l m : ℤ) → l <ℤ m → (l *ℤ w) <ℤ (m *ℤ w)
    less l m h = omega (arith, ints, sub-mul m l w, mul_pos (m -ℤ l) w (omega (arith, ints)) some)

    split : {k l m n : ℤ} → IsBetween k v l → IsBetween m v n → k <ℤ m → k <ℤ n → l <ℤ m → l <ℤ n → ⊥
    split (inl h) (inl g) p q r s = omega (arith, ints)
    split (inl h) (inr g) p q r s = omega (arith, ints)
    split (inr h) (inl g) p q r s = omega (arith, ints)
    split (inr h) (inr g) p q r s = omega (arith, ints)

-- neither of two intervals lies before the other
abbrev pub Overlap : ℤ → ℤ → ℤ → ℤ → Type 0
Overlap a b c d = (AreBefore a b c d → ⊥) × (AreBefore c d a b → ⊥)

-- of two such intervals one holds an end of the other
pub held_end : (a b c d : ℤ) → Overlap a b c d → IsBetween c a d ⊎ (IsBetween c b d ⊎ IsBetween a c b)
held_end a b c d over = cases (between_or_beyond c a d) (between_or_beyond c b d)
  where
    cases : IsBetween c a d ⊎ LieBeyond a c d → IsBetween c b d ⊎ LieBeyond b c d → IsBetween c a d ⊎ (IsBetween c b d ⊎ IsBetween a c b)
    cases (inl h) g = inl h
    cases (inr h) (inl g) = inr (inl g)
    cases (inr (inl h)) (inr (inl g)) = absurd (over.0 (h.0, h.1, g.0, g.1))
    cases (inr (inl h)) (inr (inr g)) = inr (inr (inl (omega (arith, ints, h), omega (arith, ints, g))))
    cases (inr (inr h)) (inr (inl g)) = inr (inr (inr (omega (arith, ints, g), omega (arith, ints, h))))
    cases (inr (inr h)) (inr (inr g)) = absurd (over.1 (h.0, g.0, h.1, g.1))

-- two such intervals of one number each are one
pub one_number : (a b c d : ℤ) → Overlap a b c d → a ≡ b → c ≡ d → a ≡ c
one_number a b c d over e f = cases (held_end a b c d over)
  where
    cases : IsBetween c a d ⊎ (IsBetween c b d ⊎ IsBetween a c b) → a ≡ c
    cases (inl h) = only_between c a d f h
    cases (inr (inl h)) = e ∙ only_between c b d f h
    cases (inr (inr h)) = sym (only_between a c b e h)

-- numbers on one side of o, where a number between o and u is, times w
beyond_one : (o u w x : ℤ) → pos 0 <ℤ w → IsBetween (o *ℤ w) x (u *ℤ w) → (o *ℤ w) <ℤ x → o <ℤ u
beyond_one o u w x some between up = omega (arith, ints, positive_factor (u -ℤ o) w some (above between))
  where
    above : IsBetween (o *ℤ w) x (u *ℤ w) → pos 0 <ℤ ((u -ℤ o) *ℤ w)
    above (inl h) = omega (arith, ints, h, sub-mul u o w)
    above (inr h) = absurd (omega (arith, ints, h))

below_one : (o u w x : ℤ) → pos 0 <ℤ w → IsBetween (o *ℤ w) x (u *ℤ w) → x <ℤ (o *ℤ w) → u <ℤ o
below_one o u w x some between down = omega (arith, ints, negative_factor (u -ℤ o) w some (under between))
  where
    under : IsBetween (o *ℤ w) x (u *ℤ w) → ((u -ℤ o) *ℤ w) <ℤ pos 0
    under (inl h) = absurd (omega (arith, ints, h))
    under (inr h) = omega (arith, ints, h, sub-mul u o w)

-- where a point other than o lies between o and u, and between o and v, these lie on one side of o
pub one_way : (o u v w x : ℤ) → pos 0 <ℤ w → (x ≡ o *ℤ w → ⊥) → IsBetween (o *ℤ w) x (u *ℤ w) → IsBetween (o *ℤ w) x (v *ℤ w) → LieBeyond o u v
one_way o u v w x some apart to_u to_v = by_lt_z (o *ℤ w) x
    (λ up. inl (beyond_one o u w x some to_u up, beyond_one o v w x some to_v up))
    (λ low. by_lt_z x (o *ℤ w) (λ down. inr (below_one o u w x some to_u down, below_one o v w x some to_v down)) (λ h. absurd (apart (omega (arith, ints)))))
