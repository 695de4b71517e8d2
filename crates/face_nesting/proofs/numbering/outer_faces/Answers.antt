-- One component's face more is told by each step.
use Rattle.std.proofs.Common.{arith, ◌≡◌, [], ◌∷◌, length, length-append, ap, ◌∙◌}
use Rattle.std.specs.Prelude.{Option, Some, None}
use Rattle.std.proofs.lemmas.List.{length-map}
use Rattle.nest_base.specs.declared.numbers.Side.{Side}
use Rattle.face_nesting.specs.Numbering.{cycle_numbers_of, face_numbers_of, sight_numbers_of, number_seen}
use Rattle.face_nesting.proofs.CycleFaces.{AreOuterFaces-from_first}
use Rattle.face_nesting.proofs.NumbersOf.{face_number, cycle_read, sight_read, seen_within, faces_more}
use Rattle.face_nesting.proofs.numbering.outer_faces.Goals.{in-None, in-Some}
use Rattle.face_nesting.proofs.numbering.outer_faces.Goals as goal

pub face_of_cycle-face-requires-clause-known : goal.face_of_cycle-face-requires-clause-known
face_of_cycle-face-requires-clause-known c first =
    let sights = c.args.sights.now in
    let at = c.loop-sight.sight-index in
    let s = c.in-Some.s in
    let read = cycle_read c.args.cycle_of.now s.0 (record { 0 = 0 }) (seen_within sights (length c.args.cycle_of.now) at s c.requires.sides c.loop-sight-test.true c.in-Some.is) in
    let before = c.requires.earlier at s.0 (sight_read sights at (Some s) c.loop-sight-test.true c.in-Some.is) (omega (arith, read, first)) in
    omega (arith, read, before, c.deref.ensures.len, c.loop-sight.invariant.as_many)

pub loop-sight-preserved : goal.loop-sight-preserved
loop-sight-preserved c =
    let cycles = c.args.cycle_of.now in
    let sights = c.args.sights.now in
    let outer = c.loop-sight.outer.items in
    let items = c.in_ok-push.ensures.items in
    let as_many = c.loop-sight.invariant.as_many in
    let before = c.loop-sight.invariant.faces in
    let told = λ (sight : Option Side). faces_more cycles sights outer c.match-sight.face sight c.loop-sight.sight-index c.requires.earlier as_many c.loop-sight-test.true in
    record {
      as_many = omega (arith, as_many, ap length items, length-append outer (c.match-sight.face ∷ []));
      faces = rw items (elim c.match-sight.branch [
        | in-None w ↦ told None w.in-None.is (ap face_number w.face-is) before
        | in-Some w ↦
            let s = w.in-Some.s in
            let read = cycle_read cycles s.0 (record { 0 = 0 }) (seen_within sights (length cycles) c.loop-sight.sight-index s c.requires.sides c.loop-sight-test.true w.in-Some.is) in
            told (Some s) w.in-Some.is (ap face_number w.face-is ∙ rw (read, w.deref.ensures.value) at w.face_of_cycle-face.ensures) before
      ]);
    }

pub returns-clause-faces : goal.returns-clause-faces
returns-clause-faces c =
    let sights = c.args.sights.now in
    let all_met : c.loop-sight.sight-index ≡ length (sight_numbers_of sights) = omega (arith, length-map sights number_seen) in
    AreOuterFaces-from_first (cycle_numbers_of c.args.cycle_of.now) (sight_numbers_of sights) (length sights) (face_numbers_of c.loop-sight.outer.items)
    (rw all_met at c.loop-sight.invariant.faces)
