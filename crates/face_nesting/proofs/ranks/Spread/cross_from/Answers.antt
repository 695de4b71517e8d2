-- The face at this place of the queue has a rank, and each half-edge that is gone through belongs to it.
use Rattle.std.proofs.Common.{arith, ◌≡◌, ◌<◌, ◌+◌, ℕ, List, length, get_or, sym, ap, subst, ◌∙◌}
use Rattle.std.specs.Prelude.{Some, slice_get}
use Rattle.std.proofs.lemmas.Option.{slice_get-get_or, slice_get_within}
use Rattle.std.proofs.lemmas.List.{length-map, get_or_default}
use Rattle.nest_base.proofs.ListReads.{read-map}
use Rattle.rotation_systems.specs.Twins.{twin_number}
use Rattle.face_nesting.specs.declared.numbering.FaceId.{FaceId}
use Rattle.face_nesting.specs.Numbering.{face_numbers_of}
use Rattle.face_nesting.specs.Ranks.{no_rank, rank_at, IsLastBelow}
use Rattle.face_nesting.proofs.NumbersOf.{face_number}
use Rattle.face_nesting.proofs.RankWrites.{ranked_within}
use Rattle.face_nesting.proofs.RankSpreads.{queued_ranked}
use Rattle.face_nesting.proofs.Crossings.{crossing_begun, crossing_more, crossing_done}
use Rattle.face_nesting.proofs.ranks.Spread.cross_from.Goals.{After-index-f, After-index, In-Some, After-index-at-in-Some}
use Rattle.face_nesting.proofs.ranks.Spread.cross_from.Goals as goal

face_read : (faces : List FaceId) (k : ℕ) (f : FaceId) → k < length faces → f ≡ get_or faces k f → slice_get (face_numbers_of faces) k ≡ Some f.0
face_read faces k f within is = read-map face_number faces k f (slice_get-get_or faces k f within ∙ ap Some (sym is))

-- the face at the place, which has a rank
stands : (c : After-index-f) → slice_get (face_numbers_of c.args.self.now.queue.items) c.args.place ≡ Some c.index-f.result.now.0
stands c = face_read c.args.self.now.queue.items c.args.place c.index-f.result.now c.requires.waiting c.index-f.ensures

is_face : (c : After-index-f) → c.index-f.result.now.0 < length c.args.self.now.ranks.items
is_face c =
    let few : length c.args.self.now.ranks.items < no_rank = omega (arith, c.requires.few) in
    ranked_within c.args.self.now.ranks.items c.index-f.result.now.0 (queued_ranked c.requires.spread few c.args.place c.index-f.result.now.0 (stands c))

pub index-requires : goal.index-requires
index-requires c = let is = goal.at.index-requires c in omega (arith, is_face is.After-index-f)

rank_is : (c : After-index) → c.index-f.result.now.0 < length c.args.self.now.ranks.items → c.index.result.now ≡ rank_at c.args.self.now.ranks.items c.index-f.result.now.0
rank_is c within =
    c.index.ensures ∙ get_or_default c.args.self.now.ranks.items c.index-f.result.now.0 c.index.result.now no_rank within

pub overflow_add-rank : goal.overflow_add-rank
overflow_add-rank c =
    let is = goal.at.overflow_add-rank c in
    omega (arith, rank_is is.After-index (is_face is.After-index-f), c.requires.spread.ranked c.args.place c.index-f.result.now.0 (stands is.After-index-f), c.requires.spread.few, c.requires.few)

pub index-at-requires : goal.index-at-requires
index-at-requires c =
    let is = goal.at.index-at-requires c in
    omega (arith, is_face is.After-index-f, c.requires.lasts)

pub loop-at-init : goal.loop-at-init
loop-at-init c =
    let is = goal.at.loop-at-init c in
    let f = c.index-f.result.now.0 in
    let last = c.args.borders.now.last.items in
    let within : f < length last = omega (arith, is_face is.After-index-f, c.requires.lasts) in
    let at : slice_get last f ≡ Some c.index-at.result.now = slice_get-get_or last f c.index-at.result.now within ∙ ap Some (sym c.index-at.ensures) in
    let whole : length c.args.faces.now ≡ length (face_numbers_of c.args.faces.now) = sym (length-map c.args.faces.now face_number) in
    let is_last = subst (λ n. IsLastBelow (face_numbers_of c.args.faces.now) f n c.index-at.result.now) whole (c.requires.linked.lasts f c.index-at.result.now at) in
    (f, crossing_begun c.requires.spread (stands is.After-index-f) (ap (λ n. n + 1) (rank_is is.After-index (is_face is.After-index-f))) is_last)

-- a half-edge that is gone through is one of the graph's
side_below : (c : In-Some) → c.in-Some.s.0 < length c.args.faces.now
side_below c =
    let faces = c.args.faces.now in
    omega (arith, slice_get_within (face_numbers_of faces) c.in-Some.s.0 c.loop-at.invariant.0 (c.loop-at.invariant.1.of_face c.in-Some.s c.in-Some.is), length-map faces face_number)

pub twin-requires : goal.twin-requires
twin-requires c = let is = goal.at.twin-requires c in omega (arith, side_below is.In-Some, c.requires.sides)

pub reach-requires : goal.reach-requires
reach-requires c =
    record { within = omega (arith, c.requires.below c.twin.result.0 (record { 0 = 0 }) (omega (arith, c.twin.ensures.within, c.requires.sides)), c.loop-at.invariant.1.as_many) }

pub index-at-requires-in-Some : goal.index-at-requires-in-Some
index-at-requires-in-Some c =
    let is = goal.at.index-at-requires-in-Some c in
    omega (arith, side_below is.In-Some, c.requires.befores)

-- the one before it of its face
before : (c : After-index-at-in-Some) → c.in-Some.s.0 < length c.args.faces.now → IsLastBelow (face_numbers_of c.args.faces.now) c.loop-at.invariant.0 c.in-Some.s.0 c.index-at-in-Some.result.now
before c below =
    let s = c.in-Some.s in
    let list = c.args.borders.now.before.items in
    let within : s.0 < length list = omega (arith, below, c.requires.befores) in
    c.requires.linked.befores s.0 c.loop-at.invariant.0 c.index-at-in-Some.result.now
    (slice_get-get_or list s.0 c.index-at-in-Some.result.now within ∙ ap Some (sym c.index-at-in-Some.ensures)) (c.loop-at.invariant.1.of_face s c.in-Some.is)

pub loop-at-smaller : goal.loop-at-smaller
loop-at-smaller c = let is = goal.at.loop-at-smaller c in rw c.in-Some.is (omega (arith, (before is.After-index-at-in-Some (side_below is.In-Some)).below))

pub loop-at-preserved : goal.loop-at-preserved
loop-at-preserved c =
    let is = goal.at.loop-at-preserved c in
    let crossing = c.loop-at.invariant.1 in
    let faces = c.args.faces.now in
    let twin = c.twin.result.0 in
    let g = get_or faces twin (record { 0 = 0 }) in
    let within : twin < length faces = omega (arith, c.twin.ensures.within, c.requires.sides) in
    let read : slice_get (face_numbers_of faces) twin ≡ Some g.0 = read-map face_number faces twin g (slice_get-get_or faces twin (record { 0 = 0 }) within) in
    let other : slice_get (face_numbers_of faces) (twin_number c.in-Some.s.0) ≡ Some g.0 = subst (λ n. slice_get (face_numbers_of faces) n ≡ Some g.0) c.twin.ensures.number read in (
      c.loop-at.invariant.0,
      crossing_more crossing (omega (arith, crossing.as_many, c.requires.few)) c.in-Some.s g.0 c.index-at-in-Some.result.now c.reach.new.self.ranks.items
          (face_numbers_of c.reach.new.self.queue.items) c.in-Some.is other (omega (arith, c.requires.below twin (record { 0 = 0 }) within, crossing.as_many)) (before is.After-index-at-in-Some (side_below is.In-Some)) c.in_ok-reach.ensures.reached,
    )

pub returns-clause-spread : goal.returns-clause-spread
returns-clause-spread c =
    let crossing = c.loop-at.invariant.1 in
    crossing_done crossing (omega (arith, crossing.as_many, c.requires.few)) c.in_default.is

pub returns-clause-as_many : goal.returns-clause-as_many
returns-clause-as_many c = c.loop-at.invariant.1.as_many

pub returns-clause-fewer : goal.returns-clause-fewer
returns-clause-fewer c =
    omega (arith, c.loop-at.invariant.1.fewer, length-map c.loop-at.self.queue.items face_number, length-map c.args.self.now.queue.items face_number)
