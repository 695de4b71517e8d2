use Rattle.std.proofs.Common.{arith, ◌≡◌, ◌<◌, ℕ, List, length, get_or, None, Some}
use Rattle.std.specs.Prelude.{All, slice_get}
use Rattle.face_nesting.specs.declared.numbering.FaceId.{FaceId}
use Rattle.face_nesting.specs.Numbering.{face_numbers_of}
use Rattle.part_scrap.proofs.NameReads.{line_at, face_read, slot_read}
use Rattle.part_scrap.proofs.NamesByFace.{is_earlier, first_twice, names_more}
use Rattle.part_scrap.proofs.named.names_by_face.Goals.{In-Some}
use Rattle.part_scrap.proofs.named.names_by_face.Goals as goal

-- the number of the face that the name i names
abbrev number_at : List FaceId → ℕ → ℕ
number_at named i = (get_or named i (record { 0 = 0 })).0

below : (count : ℕ) (named : List FaceId) (i : ℕ) → All (λ (f : FaceId). f.0 < count) named → i < length named → number_at named i < count
below count named i all within = all i (record { 0 = 0 }) within

-- the face that has a name already
taken : (c : In-Some) → slice_get c.loop-i.by_face.items (number_at c.args.named.now c.loop-i.i) ≡ Some (Some c.in-Some.earlier)
taken c =
    slot_read c.loop-i.by_face.items (number_at c.args.named.now c.loop-i.i) c.index.result.now (Some c.in-Some.earlier)
    (omega (arith, c.loop-i.invariant.as_many, below c.args.count c.args.named.now c.loop-i.i c.requires.below c.loop-i-test.true)) c.index.ensures c.in-Some.is

earlier : (c : In-Some) → c.in-Some.earlier < c.loop-i.i
earlier c =
    is_earlier (face_numbers_of c.args.named.now) c.loop-i.by_face.items c.loop-i.i (number_at c.args.named.now c.loop-i.i)
    (face_read c.args.named.now c.loop-i.i (record { 0 = 0 }) c.loop-i-test.true) c.loop-i.invariant c.in-Some.earlier (taken c)

pub bounds-names-earlier : goal.bounds-names-earlier
bounds-names-earlier c =
    let is = goal.at.bounds-names-earlier c in
    omega (arith, earlier is.In-Some, c.loop-i-test.true, c.requires.as_many)

pub bounds-names-earlier-in-Some : goal.bounds-names-earlier-in-Some
bounds-names-earlier-in-Some c =
    let is = goal.at.bounds-names-earlier-in-Some c in
    omega (arith, earlier is.In-Some, c.loop-i-test.true, c.requires.as_many)

pub returns-in-Some-clause-clash : goal.returns-in-Some-clause-clash
returns-in-Some-clause-clash c =
    let is = goal.at.returns-in-Some-clause-clash c in
    let named = c.args.named.now in
    let i = c.loop-i.i in (
      c.in-Some.earlier,
      i,
      first_twice (face_numbers_of named) c.loop-i.by_face.items i (number_at named i) (face_read named i (record { 0 = 0 }) c.loop-i-test.true) c.loop-i.invariant c.in-Some.earlier (taken is.In-Some),
      line_at c.args.names.now c.in-Some.earlier _ (omega (arith, earlier is.In-Some, c.loop-i-test.true, c.requires.as_many)),
      line_at c.args.names.now i _ (omega (arith, c.loop-i-test.true, c.requires.as_many)),
    )

pub loop-i-preserved : goal.loop-i-preserved
loop-i-preserved c =
    let named = c.args.named.now in
    let i = c.loop-i.i in
    let within : number_at named i < length c.loop-i.by_face.items = omega (arith, c.loop-i.invariant.as_many, below c.args.count named i c.requires.below c.loop-i-test.true) in
    names_more (face_numbers_of named) c.loop-i.by_face.items i (number_at named i) (face_read named i (record { 0 = 0 }) c.loop-i-test.true) c.loop-i.invariant
    (slot_read c.loop-i.by_face.items (number_at named i) c.index.result.now None within c.index.ensures c.in_default.is)
