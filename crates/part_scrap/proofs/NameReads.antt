-- What is read of names, of the faces that they name, and of the names of faces.
use Rattle.std.proofs.Common.{arith, ◌≡◌, ◌<◌, ℕ, List, Option, Some, length, get_or, sym, ap, ◌∙◌}
use Rattle.std.specs.Prelude.{slice_get}
use Rattle.std.proofs.lemmas.List.{length-map}
use Rattle.std.proofs.lemmas.Option.{slice_get-get_or}
use Rattle.std.proofs.lemmas.Slice.Zip.{AllZip-long}
use Rattle.nest_base.specs.declared.places.Edge.{Edge}
use Rattle.nest_base.specs.declared.drawing.Name.{Name}
use Rattle.nest_base.proofs.ListReads.{read-map}
use Rattle.face_nesting.specs.declared.numbering.FaceId.{FaceId}
use Rattle.face_nesting.specs.Numbering.{face_numbers_of}
use Rattle.face_nesting.specs.Places.{IsFaceNumberAt}
use Rattle.face_nesting.proofs.NumbersOf.{face_number}
use Rattle.part_scrap.specs.Naming.{places_of, file_lines_of, AreFacesAt}

pub place_read : (names : List Name) (i : ℕ) (n : Name) → i < length names → n ≡ get_or names i n → slice_get (places_of names) i ≡ Some n.at
place_read names i n within is = read-map (λ (n : Name). n.at) names i n (slice_get-get_or names i n within ∙ ap Some (sym is))

pub line_read : (names : List Name) (i : ℕ) (n : Name) → i < length names → n ≡ get_or names i n → slice_get (file_lines_of names) i ≡ Some n.line
line_read names i n within is = read-map (λ (n : Name). n.line) names i n (slice_get-get_or names i n within ∙ ap Some (sym is))

pub line_at : (names : List Name) (i : ℕ) (d : Name) → i < length names → slice_get (file_lines_of names) i ≡ Some (get_or names i d).line
line_at names i d within = read-map (λ (n : Name). n.line) names i (get_or names i d) (slice_get-get_or names i d within)

pub face_read : (named : List FaceId) (i : ℕ) (d : FaceId) → i < length named → slice_get (face_numbers_of named) i ≡ Some (get_or named i d).0
face_read named i d within = read-map face_number named i (get_or named i d) (slice_get-get_or named i d within)

pub slot_read : (names : List (Option ℕ)) (f : ℕ) (slot x : Option ℕ) → f < length names → slot ≡ get_or names f slot → slot ≡ x → slice_get names f ≡ Some x
slot_read names f slot x within is same = slice_get-get_or names f slot within ∙ ap Some (sym is ∙ same)

-- each name names one face
pub as_many_named : (edges : List Edge) (faces : List ℕ) (names : List Name) (named : List FaceId) → AreFacesAt edges faces (places_of names) (face_numbers_of named) → length named ≡ length names
as_many_named edges faces names named at =
    omega (arith, AllZip-long (IsFaceNumberAt edges faces) (places_of names) (face_numbers_of named) at, length-map named face_number, length-map names (λ (n : Name). n.at))
