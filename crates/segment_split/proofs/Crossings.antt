-- How far along one segment another crosses it.
use Rattle.std.proofs.Common.{arith, ◌≡◌, ◌<◌, ◌^◌, ℤ, pos, ◌<ℤ◌, ◌≤ℤ◌, ◌*ℤ◌, ap, sym, ◌∙◌}
use Rattle.std.specs.Prelude.{neg_ℤ, unsigned_abs}
use Rattle.std.proofs.lemmas.Int.{ints, by_lt_z}
use Rattle.nest_base.specs.declared.places.Point.{Point}
use Rattle.nest_base.specs.declared.places.Segment.{Segment}
use Rattle.nest_base.specs.Plane.{RationalPoint, rational, IsAt, MeetIn}
use Rattle.nest_base.specs.Range.{IsSegmentWithin, widest}
use Rattle.plate_edges.specs.Cuts.{IsParallel, IsFloor}
use Rattle.segment_meeting.specs.Orientation.{orientation}
use Rattle.nest_base.proofs.Points.{same_place}
use Rattle.segment_meeting.proofs.Along.{point_along}
use Rattle.plate_edges.proofs.Scaled.{place_on}
use Rattle.segment_meeting.proofs.Apart.{not_aside}
use Rattle.segment_meeting.proofs.Crossing.{turn, MeetsAlong, crossing_left, crossing_right}
use Rattle.segment_split.specs.Meetings.{IsTurn, MeetAlong, numerator_along, CrossesNear}
use Rattle.segment_split.proofs.Sizes.{turn-small}
use Rattle.segment_split.proofs.Floors.{floor_of_multiple}

meet_along : (s t : Segment) (part whole : ℤ) → unsigned_abs whole < 2 ^ 66 → MeetsAlong s.a s.b t.a t.b part whole → MeetAlong s t part whole
meet_along s t part whole small meets = record {
  fraction = record { positive = meets.positive; from_zero = meets.from_zero; to_one = meets.to_one; small = small };
  meet = (meets.on_first, meets.on_second);
}

-- where t turns left of s they meet at the fraction side / k of the way along s
pub crosses_left : (s t : Segment) (side k : ℤ) → IsSegmentWithin widest s → IsSegmentWithin widest t → (p : RationalPoint) × MeetIn s t p →
    side ≡ orientation t.a t.b s.a → IsTurn s t k → (IsParallel s t → ⊥) → pos 0 ≤ℤ k → MeetAlong s t side k
crosses_left s t side k in_s in_t (p, (on_s, on_t)) is_side is_turn across not_right =
    let left : pos 0 <ℤ k = by_lt_z (pos 0) k (λ h. h) (λ not_left. let none : k ≡ pos 0 = omega (arith, ints) in absurd (across (sym is_turn ∙ none))) in
    let meets = crossing_left s.a s.b t.a t.b (rw is_turn at left) (not_aside s.a s.b t.a t.b p on_s on_t) (not_aside t.a t.b s.a s.b p on_t on_s) in
    rw (is_side, is_turn) (meet_along s t (orientation t.a t.b s.a) (turn s.a s.b t.a t.b) (turn-small s t in_s in_t) meets)

-- and where it turns right
pub crosses_right : (s t : Segment) (side k : ℤ) → IsSegmentWithin widest s → IsSegmentWithin widest t → (p : RationalPoint) × MeetIn s t p →
    side ≡ orientation t.a t.b s.a → IsTurn s t k → k <ℤ pos 0 → MeetAlong s t (neg_ℤ side) (neg_ℤ k)
crosses_right s t side k in_s in_t (p, (on_s, on_t)) is_side is_turn right =
    let meets = crossing_right s.a s.b t.a t.b (rw is_turn at right) (not_aside s.a s.b t.a t.b p on_s on_t) (not_aside t.a t.b s.a s.b p on_t on_s) in
    let small : unsigned_abs (neg_ℤ (turn s.a s.b t.a t.b)) < 2 ^ 66 = omega (arith, ints, turn-small s t in_s in_t) in
    rw (is_side, is_turn) (meet_along s t (neg_ℤ (orientation t.a t.b s.a)) (neg_ℤ (turn s.a s.b t.a t.b)) small meets)

-- a place is that point where each of its coordinates is, times `whole`
pub meets_at : (s t : Segment) (part whole : ℤ) (q : Point) → MeetAlong s t part whole → q.x *ℤ whole ≡ numerator_along s.a.x s.b.x part whole → q.y *ℤ whole ≡ numerator_along s.a.y s.b.y part whole → MeetIn s t (rational q)
meets_at s t part whole q meets exact_x exact_y =
    let p = point_along s.a s.b part whole meets.fraction.positive in
    let at : IsAt p q = same_place (sym exact_x) (sym exact_y) in
    (place_on p q s.a s.b at meets.meet.0, place_on p q t.a t.b at meets.meet.1)

-- and else that point is no place
pub crosses_near : (s t : Segment) (part whole : ℤ) (q : Point) → MeetAlong s t part whole → (IsParallel s t → ⊥) →
    IsFloor (numerator_along s.a.x s.b.x part whole) whole q.x → IsFloor (numerator_along s.a.y s.b.y part whole) whole q.y →
    ((q.x *ℤ whole ≡ numerator_along s.a.x s.b.x part whole) × (q.y *ℤ whole ≡ numerator_along s.a.y s.b.y part whole) → ⊥) → CrossesNear s t q
crosses_near s t part whole q meets across down_x down_y inexact =
    let p = point_along s.a s.b part whole meets.fraction.positive in
    record {
      crosses = record {
        not_parallel = across;
        point = p;
        meet = meets.meet;
        off_lattice = λ r at. inexact (
          floor_of_multiple p.x whole q.x r.x meets.fraction.positive down_x (ap (λ (m : Point). m.x) at),
          floor_of_multiple p.y whole q.y r.y meets.fraction.positive down_y (ap (λ (m : Point). m.y) at),
        );
      };
      rounded = record { x = down_x; y = down_y };
    }
