use Rattle.std.proofs.Common.{arith}
use Rattle.std.proofs.lemmas.List.{length-map}
use Rattle.std.proofs.lemmas.Result.{err_from_is_err_and}
use Rattle.face_nesting.specs.Numbering.{face_numbers_of}
use Rattle.face_nesting.proofs.NumbersOf.{face_number}
use Rattle.part_scrap.specs.Naming.{places_of}
use Rattle.part_scrap.proofs.NameReads.{as_many_named}
use Rattle.part_scrap.proofs.Scrap.{clash_is_refusal, tells_scrap, distinct}
use Rattle.part_scrap.proofs.parts.Parts.name.Goals as goal

pub names_by_face-requires-clause-as_many : goal.names_by_face-requires-clause-as_many
names_by_face-requires-clause-as_many c =
    omega (arith, c.deref.ensures.len, as_many_named c.args.graph.now.edges c.args.faces.now.faces c.args.names.now c.in_ok-face_list.face_list.items c.in_ok-face_list.ensures.faces_at)

pub returns-in_err-name_list-clause-refusal : goal.returns-in_err-name_list-clause-refusal
returns-in_err-name_list-clause-refusal c =
    let known = c.in_ok-face_list in
    let failed = err_from_is_err_and c.from_residual-in_err-name_list.result c.from_residual-in_err-name_list.ensures.1 in
    rw (failed.1, failed.2)
    (clash_is_refusal (face_numbers_of known.face_list.items) c.args.names.now c.requires.faces c.requires.sees_one known.ensures.faces_at known.ensures.well_placed c.in_err-name_list.field-0.0
    (rw c.deref.ensures.value at c.in_err-name_list.ensures.clash))

pub returns-clause-tells_scrap : goal.returns-clause-tells_scrap
returns-clause-tells_scrap c =
    tells_scrap c.requires.faces c.requires.sees_one (places_of c.args.names.now) (face_numbers_of c.in_ok-face_list.face_list.items) c.in_ok-face_list.ensures.faces_at
    (rw (c.deref.ensures.value, c.face_count.ensures) at c.in_ok-name_list.ensures.names_of) c.requires.as_many c.requires.count

pub returns-clause-as_many_names : goal.returns-clause-as_many_names
returns-clause-as_many_names c =
    omega (arith, length-map c.in_ok-face_list.face_list.items face_number, as_many_named c.args.graph.now.edges c.args.faces.now.faces c.args.names.now c.in_ok-face_list.face_list.items c.in_ok-face_list.ensures.faces_at)

pub returns-clause-distinct : goal.returns-clause-distinct
returns-clause-distinct c =
    distinct c.requires.faces c.requires.sees_one (places_of c.args.names.now) (face_numbers_of c.in_ok-face_list.face_list.items) c.in_ok-face_list.ensures.faces_at
    (rw (c.deref.ensures.value, c.face_count.ensures) at c.in_ok-name_list.ensures.names_of) c.in_ok-face_list.ensures.well_placed
