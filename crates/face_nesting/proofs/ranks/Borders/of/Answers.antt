-- One half-edge more is linked to the last one of its face.
use Rattle.std.proofs.Common.{arith, ◌≡◌, ◌<◌, length, get_or, length-set, refl, ap, sym, subst, ◌∙◌}
use Rattle.std.specs.Prelude.{Some, slice_get}
use Rattle.std.proofs.lemmas.Option.{slice_get-get_or}
use Rattle.std.proofs.lemmas.List.{length_push}
use Rattle.nest_base.proofs.ListReads.{read-map}
use Rattle.face_nesting.specs.Numbering.{face_numbers_of}
use Rattle.face_nesting.specs.Ranks.{AreLinked}
use Rattle.face_nesting.specs.declared.numbering.FaceId.{FaceId}
use Rattle.face_nesting.proofs.NumbersOf.{face_number}
use Rattle.face_nesting.proofs.BorderLinks.{linked_more}
use Rattle.face_nesting.proofs.ranks.Borders.of.Goals as goal

pub loop-s-preserved : goal.loop-s-preserved
loop-s-preserved c =
    let faces = c.args.faces.now in
    let n = c.loop-s.s in
    let d : FaceId = record { 0 = 0 } in
    let f = get_or faces n d in
    let last = c.loop-s.last.items in
    let is = c.loop-s.invariant in
    let within : f.0 < length last = omega (arith, is.lasts, c.requires.below n d c.loop-s-test.true) in
    let at : slice_get (face_numbers_of faces) n ≡ Some f.0 = read-map face_number faces n f (slice_get-get_or faces n d c.loop-s-test.true) in
    let old : slice_get last f.0 ≡ Some c.index.result.now = slice_get-get_or last f.0 c.index.result.now within ∙ ap Some (sym c.index.ensures) in
    let more = c.in_ok-push.ensures.items in
    record {
      lasts = length-set last f.0 (Some (record { 0 = n })) ∙ is.lasts;
      befores = omega (arith, ap length more, length_push c.loop-s.before.items c.index.result.now, is.befores);
      linked = rw more (linked_more (face_numbers_of faces) n f.0 last c.loop-s.before.items c.index.result.now (record { 0 = n }) is.linked is.befores at old refl);
    }

pub returns-clause-linked : goal.returns-clause-linked
returns-clause-linked c =
    let all : c.loop-s.s ≡ length c.args.faces.now = omega arith in
    subst (λ n. AreLinked (face_numbers_of c.args.faces.now) n c.loop-s.last.items c.loop-s.before.items) all c.loop-s.invariant.linked
