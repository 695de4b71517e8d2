-- Ranks while they spread: what one more face does, and what one that is gone through does.
use Rattle.std.proofs.Common.{arith, ◌≡◌, ◌⊎◌, inl, inr, ℕ, zero, suc, ◌+◌, ◌<◌, ◌≤◌, List, [], ◌∷◌, ◌++◌, length, set, refl, sym, ap, subst, ◌∙◌, length-set}
use Rattle.std.specs.Prelude.{Some, slice_get, ◌==◌}
use Rattle.std.proofs.lemmas.Bool.{cases_eq}
use Rattle.std.proofs.lemmas.Option.{slice_get_within, none-some, same_Some}
use Rattle.std.proofs.lemmas.List.{length_push}
use Rattle.std.proofs.lemmas.List.Sums.{count_by-le-length}
use Rattle.nest_base.specs.Walks.{here, against}
use Rattle.nest_base.proofs.ListReads.{one_read, read_pushed, read_kept, read_of_pushed}
use Rattle.face_nesting.specs.Numbering.{outer_face}
use Rattle.face_nesting.specs.Ranks.{AreNeighbours, IsWayOut, step_count, no_rank, rank_at, unranked, IsSpread, GetsRank}
use Rattle.face_nesting.proofs.RankWrites.{set_gives, set_keeps, set_ranks, unranked-set}

-- the face g gets one more than the face f of the queue, across an edge
pub record IsReached (faces ranks queue : List ℕ) (done f g r : ℕ) : Type 0 where
  pub spread : IsSpread faces ranks queue done
  pub here : slice_get queue done ≡ Some f
  pub neighbours : AreNeighbours faces f g
  pub within : g < length ranks
  pub few : length ranks < no_rank
  pub one_more : r ≡ rank_at ranks f + 1

-- what stands in the queue has a rank
pub queued_ranked : {faces ranks queue : List ℕ} {done : ℕ} → IsSpread faces ranks queue done → length ranks < no_rank → (k e : ℕ) → slice_get queue k ≡ Some e → rank_at ranks e < no_rank
queued_ranked spread few k e at = omega (arith, spread.ranked k e at, spread.few, few)

module _ {faces ranks queue : List ℕ} {done f g r : ℕ} (is : IsReached faces ranks queue done f g r) (bare : rank_at ranks g ≡ no_rank) where
  abbrev later : List ℕ
  later = set ranks g r

  abbrev more : List ℕ
  more = queue ++ g ∷ []

  rank_below : r ≤ length queue
  rank_below = omega (arith, is.one_more, is.spread.ranked done f is.here)

  gives : rank_at (set ranks g r) g ≡ r
  gives = set_gives ranks g r is.within

  keeps : (e : ℕ) → rank_at ranks e < no_rank → rank_at (set ranks g r) e ≡ rank_at ranks e
  keeps e ranked = set_keeps ranks g r e bare ranked

  known : (k e : ℕ) → slice_get queue k ≡ Some e → rank_at ranks e < no_rank
  known k e at = queued_ranked is.spread is.few k e at

  attained : (e : ℕ) → (e ≡ g) ⊎ (rank_at ranks e < no_rank) → (way : IsWayOut faces e) × (step_count way ≡ rank_at (set ranks g r) e)
  attained e (inl same) =
      let before = is.spread.attained f (known done f is.here) in
      subst (λ n. (way : IsWayOut faces n) × (step_count way ≡ rank_at (set ranks g r) n)) (sym same) (against is.neighbours before.0, omega (arith, before.1, gives, is.one_more))
  attained e (inr old) = let before = is.spread.attained e old in (before.0, before.1 ∙ sym (keeps e old))

  queued : (e : ℕ) → (e ≡ g) ⊎ (rank_at ranks e < no_rank) → (k : ℕ) × (slice_get (queue ++ g ∷ []) k ≡ Some e)
  queued e (inl same) = (length queue, read_pushed queue g ∙ ap Some (sym same))
  queued e (inr old) = let before = is.spread.queued e old in (before.0, read_kept queue g before.0 e before.1)

  abbrev Stands : ℕ → ℕ → Type 0
  Stands k e = (slice_get queue k ≡ Some e) ⊎ ((k ≡ length queue) × (g ≡ e))

  ranked : (k e : ℕ) → Stands k e → rank_at (set ranks g r) e < length queue + 1
  ranked k e (inl old) = omega (arith, keeps e (known k e old), is.spread.ranked k e old)
  ranked k e (inr (last, same)) = omega (arith, ap (rank_at (set ranks g r)) same, gives, rank_below)

  in_order : (j k d e : ℕ) → j < k → Stands j d → Stands k e → rank_at (set ranks g r) d ≤ rank_at (set ranks g r) e
  in_order j k d e less (inl at_d) (inl at_e) = omega (arith, keeps d (known j d at_d), keeps e (known k e at_e), is.spread.in_order j k d e less at_d at_e)
  in_order j k d e less (inl at_d) (inr (last, same)) =
      omega (arith, keeps d (known j d at_d), ap (rank_at (set ranks g r)) same, gives, is.one_more, is.spread.next_at_most f d is.here (known j d at_d))
  in_order j k d e less (inr (last, same)) (inl at_e) = absurd (omega (arith, less, last, slice_get_within queue k e at_e))
  in_order j k d e less (inr (last, same)) (inr (also, equal)) = absurd (omega (arith, less, last, also))

  at_most : (e : ℕ) → (e ≡ g) ⊎ (rank_at ranks e < no_rank) → rank_at (set ranks g r) e ≤ rank_at ranks f + 1
  at_most e (inl same) = omega (arith, ap (rank_at (set ranks g r)) same, gives, is.one_more)
  at_most e (inr old) = omega (arith, keeps e old, is.spread.next_at_most f e is.here old)

  closed : (k d e : ℕ) → k < done → Stands k d → AreNeighbours faces d e →
      (rank_at (set ranks g r) e < no_rank) × (rank_at (set ranks g r) e ≤ rank_at (set ranks g r) d + 1)
  closed k d e less (inl old) near =
      let before = is.spread.closed k d e less old near in
      (omega (arith, keeps e before.0, before.0), omega (arith, keeps e before.0, keeps d (known k d old), before.1))
  closed k d e less (inr (last, same)) near = absurd (omega (arith, less, last, slice_get_within queue done f is.here))

  -- where g has none yet
  pub spread_given : IsSpread faces (set ranks g r) (queue ++ g ∷ []) done
  spread_given = record {
    outer = omega (arith, keeps outer_face (omega (arith, is.spread.outer)), is.spread.outer);
    attained = λ e has. attained e (set_ranks ranks g r e has);
    queued = λ e has. queued e (set_ranks ranks g r e has);
    ranked = λ k e at. omega (arith, ranked k e (read_of_pushed queue g k e at), length_push queue g);
    in_order = λ j k d e less at_d at_e. in_order j k d e less (read_of_pushed queue g j d at_d) (read_of_pushed queue g k e at_e);
    next_at_most = λ d e at has.
        let same : f ≡ d = one_read (queue ++ g ∷ []) done f d (read_kept queue g done f is.here) at in
        omega (arith, ap (rank_at (set ranks g r)) same, keeps f (known done f is.here), at_most e (set_ranks ranks g r e has));
    closed = λ k d e less at near. closed k d e less (read_of_pushed queue g k d at) near;
    few = omega (arith, length_push queue g, unranked-set ranks g r is.within bare (omega (arith, rank_below, is.spread.few, is.few)), is.spread.few, length-set ranks g r);
  }

-- either way: the ranks spread on, those that are found stay, and g has one
pub record IsOnward (faces ranks queue : List ℕ) (done g : ℕ) (later more : List ℕ) : Type 0 where
  pub spread : IsSpread faces later more done
  pub keeps : (e : ℕ) → rank_at ranks e < no_rank → rank_at later e ≡ rank_at ranks e
  pub stays : (k e : ℕ) → slice_get queue k ≡ Some e → slice_get more k ≡ Some e
  pub has_rank : rank_at later g < no_rank
  pub as_many : length later ≡ length ranks
  pub fewer : unranked later + length more ≡ unranked ranks + length queue

pub spread_more : {faces ranks queue : List ℕ} {done f g r : ℕ} {later more : List ℕ} → IsReached faces ranks queue done f g r → GetsRank ranks queue g r later more →
    IsOnward faces ranks queue done g later more
spread_more {faces} {ranks} {queue} {done} {f} {g} {r} is (inl (bare, given, waits)) =
    let some : r < no_rank = omega (arith, is.one_more, is.spread.ranked done f is.here, is.spread.few, is.few) in
    rw (given, waits) (record {
      spread = spread_given is bare;
      keeps = λ e ranked. set_keeps ranks g r e bare ranked;
      stays = λ k e at. read_kept queue g k e at;
      has_rank = omega (arith, set_gives ranks g r is.within, some);
      as_many = length-set ranks g r;
      fewer = omega (arith, length_push queue g, unranked-set ranks g r is.within bare some);
    })
spread_more is (inr (has, given, waits)) =
    rw (given, waits) (record { spread = is.spread; keeps = λ e ranked. refl; stays = λ k e at. at; has_rank = has; as_many = refl; fewer = refl })

-- a face all of whose neighbours have a rank is gone through
pub spread_next : {faces ranks queue : List ℕ} {done f : ℕ} → IsSpread faces ranks queue done → slice_get queue done ≡ Some f →
    ((g : ℕ) → AreNeighbours faces f g → rank_at ranks g < no_rank) → IsSpread faces ranks queue (done + 1)
spread_next {faces} {ranks} {queue} {done} {f} spread at_f all = record {
  outer = spread.outer;
  attained = spread.attained;
  queued = spread.queued;
  ranked = spread.ranked;
  in_order = spread.in_order;
  next_at_most = λ e g at has. omega (arith, spread.in_order done (done + 1) f e (omega arith) at_f at, spread.next_at_most f g at_f has);
  closed = λ k d e less at near. elim (cases_eq k done) [
    | inl same ↦
        let is : d ≡ f = one_read queue done d f (subst (λ n. slice_get queue n ≡ Some d) same at) at_f in
        let has = all e (subst (λ n. AreNeighbours faces n e) is near) in
        (has, omega (arith, ap (rank_at ranks) is, spread.next_at_most f e at_f has))
    | inr other ↦ spread.closed k d e (omega arith) at near
  ];
  few = spread.few;
}

only : (k e : ℕ) → slice_get (outer_face ∷ []) k ≡ Some e → (k ≡ 0) × (e ≡ outer_face)
only zero e at = (refl, sym (same_Some outer_face e at))
only (suc k) e at = absurd (none-some e at)

-- in the beginning the outer face alone has a rank
pub spread_begun : {faces ranks later more : List ℕ} → ((f : ℕ) → rank_at ranks f ≡ no_rank) → 0 < length ranks → GetsRank ranks [] outer_face 0 later more → IsSpread faces later more 0
spread_begun {faces} {ranks} bare some (inl (had_none, given, waits)) = rw (given, waits) (begun faces ranks bare some)
  where
    begun : (faces ranks : List ℕ) → ((f : ℕ) → rank_at ranks f ≡ no_rank) → 0 < length ranks → IsSpread faces (set ranks outer_face 0) (outer_face ∷ []) 0
    begun faces ranks bare some =
        let gives = set_gives ranks outer_face 0 some in
        let alone : (e : ℕ) → rank_at (set ranks outer_face 0) e < no_rank → e ≡ outer_face =
        λ e has. elim (set_ranks ranks outer_face 0 e has) [ inl same ↦ same | inr old ↦ absurd (omega (arith, bare e, old)) ] in
        let first : (k e : ℕ) → slice_get (outer_face ∷ []) k ≡ Some e → (k ≡ 0) × (e ≡ outer_face) = λ k e at. only k e at in
        record {
          outer = gives;
          attained = λ e has. subst (λ n. (way : IsWayOut faces n) × (step_count way ≡ rank_at (set ranks outer_face 0) n)) (sym (alone e has)) (here, sym gives);
          queued = λ e has. (0, ap Some (sym (alone e has)));
          ranked = λ k e at. omega (arith, ap (rank_at (set ranks outer_face 0)) (first k e at).1, gives);
          in_order = λ j k d e less at_d at_e. absurd (omega (arith, less, (first k e at_e).0));
          next_at_most = λ d e at has. omega (arith, ap (rank_at (set ranks outer_face 0)) (alone e has), gives);
          closed = λ k d e less at near. absurd (omega (arith, less));
          few = omega (arith, unranked-set ranks outer_face 0 some (bare outer_face) (omega arith), count_by-le-length (λ n. n == no_rank) ranks, length-set ranks outer_face 0);
        }
spread_begun bare some (inr (has, given, waits)) = absurd (omega (arith, bare outer_face, has))
