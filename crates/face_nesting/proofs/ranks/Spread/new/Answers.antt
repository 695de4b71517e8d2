-- No face has a rank before the outer one gets it.
use Rattle.std.proofs.Common.{arith, ◌≡◌, ◌<◌, ℕ, [], inl, inr, length, replicate, ap, subst}
use Rattle.std.proofs.lemmas.Bool.{cases_lt}
use Rattle.std.proofs.lemmas.List.{length-replicate, get_or-replicate, get_or_past}
use Rattle.face_nesting.specs.Numbering.{outer_face, face_numbers_of}
use Rattle.face_nesting.specs.Ranks.{no_rank, rank_at, GetsRank}
use Rattle.face_nesting.proofs.RankSpreads.{spread_begun}
use Rattle.face_nesting.proofs.ranks.Spread.new.Goals as goal

all_bare : (n f : ℕ) → rank_at (replicate n no_rank) f ≡ no_rank
all_bare n f = elim (cases_lt f n) [
  | inl less ↦ get_or-replicate n f no_rank no_rank less
  | inr past ↦ get_or_past (replicate n no_rank) f no_rank (simp length-replicate past)
]

pub returns-clause-spread : goal.returns-clause-spread
returns-clause-spread c = λ faces.
    let ranks = c.in_ok-vec.field-0.items in
    let later = c.reach.new.self.ranks.items in
    let more = face_numbers_of c.reach.new.self.queue.items in
    let items : ranks ≡ replicate c.args.count no_rank = c.in_ok-vec.ensures.items_if_clones_equal (λ y same. same) in
    let some : 0 < length ranks = omega (arith, ap length items, length-replicate c.args.count no_rank, c.requires.some) in
    let gets : GetsRank ranks [] outer_face 0 later more =
    subst (λ queue. GetsRank ranks queue outer_face 0 later more) (ap face_numbers_of c.new.ensures.items) c.in_ok-reach.ensures.reached in
    spread_begun (λ f. rw items (all_bare c.args.count f)) some gets
