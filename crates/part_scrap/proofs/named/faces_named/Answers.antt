use Rattle.std.proofs.Common.{◌≡◌, ◌+◌, ◌<◌, take, refl, sym, subst, ◌∙◌}
use Rattle.std.specs.Prelude.{All}
use Rattle.std.proofs.lemmas.Bool.{true≢false, eqb-true, eqb-false}
use Rattle.std.proofs.lemmas.List.{map_push}
use Rattle.std.proofs.lemmas.List.Elements.{All-push}
use Rattle.plate_sides.specs.Links.{Outer}
use Rattle.plate_parts.specs.Parts.{IsWellPlaced}
use Rattle.face_nesting.specs.declared.numbering.FaceId.{FaceId}
use Rattle.face_nesting.specs.Numbering.{face_numbers_of, outer_face}
use Rattle.face_nesting.specs.Places.{IsFaceNumberAt}
use Rattle.face_nesting.proofs.NumbersOf.{face_number}
use Rattle.face_nesting.proofs.Prefixes.{take_read, AllZip-one_more}
use Rattle.part_scrap.specs.Naming.{places_of, AreFacesAt}
use Rattle.part_scrap.proofs.FacesAt.{number_at}
use Rattle.part_scrap.proofs.FirstFaults.{fault_on_edge, fault_in_outer_face}
use Rattle.part_scrap.proofs.NameReads.{place_read, line_read}
use Rattle.part_scrap.proofs.named.faces_named.Goals as goal

pub returns-then-on_drawing-clause-refusal : goal.returns-then-on_drawing-clause-refusal
returns-then-on_drawing-clause-refusal c =
    let names = c.args.names.now in
    let i = c.loop-name.name-index in
    let name = c.name-item.result in
    let at = place_read names i name c.loop-name-test.true c.name-item.is in
    (i, fault_on_edge c.args.graph.now.edges (places_of names) i name.at at c.loop-name.invariant.2 (c.if-on_drawing.ensures.0 refl), line_read names i name c.loop-name-test.true c.name-item.is)

pub returns-then-eq-clause-refusal : goal.returns-then-eq-clause-refusal
returns-then-eq-clause-refusal c =
    let names = c.args.names.now in
    let i = c.loop-name.name-index in
    let name = c.name-item.result in
    let at = place_read names i name c.loop-name-test.true c.name-item.is in
    let same : c.face_at-face.result.0 ≡ outer_face = eqb-true c.face_at-face.result.0 c.outer.result.0 (sym c.if-eq.ensures) ∙ c.outer.ensures in
    let outer = (number_at c.requires.faces c.requires.sees_one name.at Outer c.face_at-face.result.0 outer_face c.face_at-face.ensures.at refl).0 same in (
      i,
      fault_in_outer_face c.args.graph.now.edges (places_of names) i name.at at c.loop-name.invariant.2 (λ on. true≢false (sym (c.if-on_drawing.ensures.1 on))) outer,
      line_read names i name c.loop-name-test.true c.name-item.is,
    )

pub loop-name-preserved : goal.loop-name-preserved
loop-name-preserved c =
    let edges = c.args.graph.now.edges in
    let faces = c.args.faces.now in
    let places = places_of c.args.names.now in
    let i = c.loop-name.name-index in
    let name = c.name-item.result in
    let face = c.face_at-face.result in
    let named = c.loop-name.named.items in
    let at = place_read c.args.names.now i name c.loop-name-test.true c.name-item.is in
    let well : IsWellPlaced edges name.at = record {
      off_edges = λ on. true≢false (sym (c.if-on_drawing.ensures.1 on));
      inside = λ is.
          eqb-false face.0 c.outer.result.0 (sym c.if-eq.ensures)
          ((number_at c.requires.faces c.requires.sees_one name.at Outer face.0 outer_face c.face_at-face.ensures.at refl).1 is ∙ sym c.outer.ensures);
    } in (
      subst (λ l. AreFacesAt edges faces.faces (take (i + 1) places) (face_numbers_of l)) (sym c.in_ok-push.ensures.items)
          (subst (AreFacesAt edges faces.faces (take (i + 1) places)) (sym (map_push face_number named face))
          (AllZip-one_more (IsFaceNumberAt edges faces.faces) places (face_numbers_of named) i name.at face.0 at c.loop-name.invariant.0 c.face_at-face.ensures.at)),
      subst (All (λ (f : FaceId). f.0 < faces.count)) (sym c.in_ok-push.ensures.items)
          (All-push (λ (f : FaceId). f.0 < faces.count) named face c.loop-name.invariant.1 (c.face_at-face.ensures.within c.requires.count)),
      subst (All (IsWellPlaced edges)) (sym (take_read places i name.at at)) (All-push (IsWellPlaced edges) (take i places) name.at c.loop-name.invariant.2 well),
    )
