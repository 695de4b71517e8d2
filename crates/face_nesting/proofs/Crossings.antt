-- The edges of one face are crossed, one after another, from its last half-edge down.
use Rattle.std.proofs.Common.{arith, ◌≡◌, inl, inr, ℕ, ◌+◌, ◌<◌, ◌≤◌, List, length, refl, ap, subst, ◌∙◌}
use Rattle.std.specs.Prelude.{Option, Some, None, slice_get}
use Rattle.std.proofs.lemmas.Bool.{cases_eq, cases_lt}
use Rattle.std.proofs.lemmas.Option.{slice_get_within}
use Rattle.nest_base.specs.declared.numbers.Side.{Side}
use Rattle.nest_base.proofs.ListReads.{one_read}
use Rattle.rotation_systems.specs.Twins.{twin_number}
use Rattle.face_nesting.specs.Ranks.{no_rank, rank_at, unranked, behind, IsLastBelow, IsSpread, GetsRank}
use Rattle.face_nesting.proofs.RankSpreads.{spread_more, spread_next}

-- the faces across the half-edges of f from this one up have a rank; f stands at this place of the queue
pub record IsCrossing (faces : List ℕ) (place f r : ℕ) (old_ranks old_queue : List ℕ) (at : Option Side) (ranks queue : List ℕ) : Type 0 where
  pub spread : IsSpread faces ranks queue place
  pub stands : slice_get queue place ≡ Some f
  pub one_more : r ≡ rank_at ranks f + 1
  pub as_many : length ranks ≡ length old_ranks
  pub fewer : unranked ranks + length queue ≡ unranked old_ranks + length old_queue
  pub of_face : (s : Side) → at ≡ Some s → slice_get faces s.0 ≡ Some f
  pub crossed : (s g : ℕ) → behind at ≤ s → slice_get faces s ≡ Some f → slice_get faces (twin_number s) ≡ Some g → rank_at ranks g < no_rank

pub crossing_begun : {faces ranks queue : List ℕ} {place f r : ℕ} {last : Option Side} → IsSpread faces ranks queue place → slice_get queue place ≡ Some f →
    r ≡ rank_at ranks f + 1 → IsLastBelow faces f (length faces) last → IsCrossing faces place f r ranks queue last ranks queue
crossing_begun {faces} {ranks} {queue} {place} {f} {r} {last} spread stands one_more is = record {
  spread = spread;
  stands = stands;
  one_more = one_more;
  as_many = refl;
  fewer = refl;
  of_face = is.of_face;
  crossed = λ s g from at other. absurd (is.is_last s from (slice_get_within faces s f at) at);
}

module _ {faces : List ℕ} {place f r : ℕ} {old_ranks old_queue : List ℕ} {at : Option Side} {ranks queue : List ℕ}
    (is : IsCrossing faces place f r old_ranks old_queue at ranks queue) (few : length ranks < no_rank) where
  -- the rank that is given is one of few numbers
  pub rank_few : rank_at ranks f + 1 ≤ length ranks
  rank_few = omega (arith, is.spread.ranked place f is.stands, is.spread.few)

  -- the next one is crossed, to the face g
  pub crossing_more : (s : Side) (g : ℕ) (next : Option Side) (later more : List ℕ) → at ≡ Some s → slice_get faces (twin_number s.0) ≡ Some g → g < length ranks →
      IsLastBelow faces f s.0 next → GetsRank ranks queue g r later more → IsCrossing faces place f r old_ranks old_queue next later more
  crossing_more s g next later more here across within last gets =
      let own = is.of_face s here in
      let on = spread_more {r = r} (record {
        spread = is.spread;
        here = is.stands;
        neighbours = (s.0, own, across);
        within = within;
        few = few;
        one_more = is.one_more;
      }) gets in
      let known : rank_at ranks f < no_rank = omega (arith, rank_few, few) in
      record {
        spread = on.spread;
        stands = on.stays place f is.stands;
        one_more = omega (arith, is.one_more, on.keeps f known);
        as_many = on.as_many ∙ is.as_many;
        fewer = on.fewer ∙ is.fewer;
        of_face = last.of_face;
        crossed = λ t h from at_t other. elim (cases_lt t s.0) [
          | inl less ↦ absurd (last.is_last t from less at_t)
          | inr least ↦ elim (cases_eq t s.0) [
            | inl same ↦
                let is_g : g ≡ h = one_read faces (twin_number s.0) g h across (subst (λ n. slice_get faces (twin_number n) ≡ Some h) same other) in
                subst (λ n. rank_at later n < no_rank) is_g on.has_rank
            | inr above ↦
                let had = is.crossed t h (omega (arith, ap behind here, least, above)) at_t other in
                omega (arith, on.keeps h had, had)
          ]
        ];
      }

  -- all are crossed
  pub crossing_done : at ≡ None → IsSpread faces ranks queue (place + 1)
  crossing_done none_left = spread_next is.spread is.stands (λ g near. is.crossed near.0 g (omega (arith, ap behind none_left)) near.1 near.2)
