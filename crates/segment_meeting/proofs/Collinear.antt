-- Two segments of one line meet, unless one lies wholly before the other.
use Rattle.std.proofs.Common.{arith, ◌≡◌, pos, ◌+ℤ◌, ◌-ℤ◌, ◌*ℤ◌, ◌⊎◌, inl, inr, ◌∙◌}
use Rattle.std.specs.Prelude.{neg_ℤ}
use Rattle.std.proofs.lemmas.Int.{ints}
use Rattle.nest_base.specs.declared.places.Point.{Point}
use Rattle.nest_base.specs.Plane.{IsBetween, rational}
use Rattle.nest_base.proofs.Differences.{diff_of, diffs, diff_same}
use Rattle.nest_base.proofs.Intervals.{first_between}
use Rattle.nest_base.proofs.Points.{on_place, on_first}
use Rattle.segment_meeting.specs.Orientation.{orientation, LieBeyond}
use Rattle.segment_meeting.proofs.Between.{only_between, between_or_beyond, zero_mean, Overlap, held_end, one_number}
use Rattle.segment_meeting.proofs.Factors.{same_or_not}
use Rattle.segment_meeting.proofs.Lines.{orientation-seen}
use Rattle.segment_meeting.proofs.Sharing.{Share, exchanged, first_turned}

-- a place q of the line from a to b is a mean of a and b, by how far it lies along in x
mean_height : (a b q : Point) → (b.x -ℤ q.x) *ℤ (a.y -ℤ q.y) +ℤ (q.x -ℤ a.x) *ℤ (b.y -ℤ q.y) ≡ neg_ℤ (orientation a b q)
mean_height a b q = rw (diff_of a.x, diff_of a.y, diff_of b.x, diff_of b.y, diff_of q.x, diff_of q.y) (simp diffs (diff_same _ _ _ _ (omega arith)))

-- and the other way up
mean_depth : (a b q : Point) → (b.x -ℤ q.x) *ℤ (q.y -ℤ a.y) +ℤ (q.x -ℤ a.x) *ℤ (q.y -ℤ b.y) ≡ orientation a b q
mean_depth a b q = rw (diff_of a.x, diff_of a.y, diff_of b.x, diff_of b.y, diff_of q.x, diff_of q.y) (simp diffs (diff_same _ _ _ _ (omega arith)))

-- on a line that isn't upright, what lies between two places in x does so in y
pub level : (a b q : Point) → (a.x ≡ b.x → ⊥) → orientation a b q ≡ pos 0 → IsBetween a.x q.x b.x → IsBetween a.y q.y b.y
level a b q aslant on across = cases (between_or_beyond a.y q.y b.y)
  where
    both : (q.x ≡ a.x) × (q.x ≡ b.x) → ⊥
    both h = aslant (omega (arith, ints, h))

    cases : IsBetween a.y q.y b.y ⊎ LieBeyond q.y a.y b.y → IsBetween a.y q.y b.y
    cases (inl h) = h
    cases (inr (inl h)) = absurd (both (zero_mean a.x q.x b.x (a.y -ℤ q.y) (b.y -ℤ q.y) across (omega (arith, ints, h)) (omega (arith, ints, h)) (omega (arith, ints, on, mean_height a b q))))
    cases (inr (inr h)) = absurd (both (zero_mean a.x q.x b.x (q.y -ℤ a.y) (q.y -ℤ b.y) across (omega (arith, ints, h)) (omega (arith, ints, h)) (omega (arith, ints, on, mean_depth a b q))))

-- each end of either segment lies on the line of the other
pub record AreCollinear (a b c d : Point) : Type 0 where
  pub a_on : orientation c d a ≡ pos 0
  pub b_on : orientation c d b ≡ pos 0
  pub c_on : orientation a b c ≡ pos 0
  pub d_on : orientation a b d ≡ pos 0

-- an end of the first segment that lies on the second is shared
at_end : (a b c d : Point) → orientation c d a ≡ pos 0 → IsBetween c.x a.x d.x → IsBetween c.y a.y d.y → Share a b c d
at_end a b c d on across up = (rational a, (on_first a b, on_place a c d (orientation-seen c d a ∙ on) across up))

-- the second segment isn't upright
aslant_meet : (a b c d : Point) → (c.x ≡ d.x → ⊥) → AreCollinear a b c d → Overlap a.x b.x c.x d.x → Share a b c d
aslant_meet a b c d aslant line over = cases (held_end a.x b.x c.x d.x over)
  where
    at_a : IsBetween c.x a.x d.x → Share a b c d
    at_a h = at_end a b c d line.a_on h (level c d a aslant line.a_on h)

    cases : IsBetween c.x a.x d.x ⊎ (IsBetween c.x b.x d.x ⊎ IsBetween a.x c.x b.x) → Share a b c d
    cases (inl h) = at_a h
    cases (inr (inl h)) = first_turned a b c d (at_end b a c d line.b_on h (level c d b aslant line.b_on h))
    cases (inr (inr h)) = elim (same_or_not a.x b.x) [
      | inl upright ↦ at_a (rw (only_between a.x c.x b.x upright h) (first_between a.x d.x))
      | inr first_aslant ↦ exchanged a b c d (at_end c d a b line.c_on h (level a b c first_aslant line.c_on h))
    ]

-- both are upright
upright_meet : (a b c d : Point) → a.x ≡ c.x → b.x ≡ c.x → d.x ≡ c.x → AreCollinear a b c d → Overlap a.y b.y c.y d.y → Share a b c d
upright_meet a b c d at_a at_b at_d line over = cases (held_end a.y b.y c.y d.y over)
  where
    across : (q : Point) → q.x ≡ c.x → IsBetween c.x q.x d.x
    across q at_q = inl (omega (arith, ints, at_q), omega (arith, ints, at_q))

    cases : IsBetween c.y a.y d.y ⊎ (IsBetween c.y b.y d.y ⊎ IsBetween a.y c.y b.y) → Share a b c d
    cases (inl h) = at_end a b c d line.a_on (across a at_a) h
    cases (inr (inl h)) = first_turned a b c d (at_end b a c d line.b_on (across b at_b) h)
    cases (inr (inr h)) = exchanged a b c d (at_end c d a b line.c_on (inl (omega (arith, ints), omega (arith, ints))) h)

-- two segments of one line meet where their boxes do
pub collinear_meet : (a b c d : Point) → AreCollinear a b c d → Overlap a.x b.x c.x d.x → Overlap a.y b.y c.y d.y → Share a b c d
collinear_meet a b c d line over_x over_y = elim (same_or_not c.x d.x) [
  | inr aslant ↦ aslant_meet a b c d aslant line over_x
  | inl upright ↦ elim (same_or_not a.x b.x) [
    | inr aslant ↦ exchanged a b c d (aslant_meet c d a b aslant (record { a_on = line.c_on; b_on = line.d_on; c_on = line.a_on; d_on = line.b_on }) (over_x.1, over_x.0))
    | inl both ↦
        let same = one_number a.x b.x c.x d.x over_x both upright in
        upright_meet a b c d same (omega (arith, ints)) (omega (arith, ints)) line over_y
  ]
]
