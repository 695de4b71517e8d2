-- The faces of names, and what their ranks are.
use Rattle.std.proofs.Common.{arith, ◌≡◌, ℕ, zero, suc, ◌<◌, List, [], ◌∷◌, length, refl, sym, ap, subst, ◌∙◌}
use Rattle.std.specs.Prelude.{Some, All, slice_get, slice_index}
use Rattle.std.specs.List.{AllZip}
use Rattle.nest_base.specs.declared.places.Edge.{Edge}
use Rattle.nest_base.specs.declared.drawing.Name.{Name}
use Rattle.nest_base.proofs.ListReads.{All-read, All-from_reads}
use Rattle.plate_sides.specs.Links.{Node, Outer, At}
use Rattle.plate_sides.specs.Reach.{IsRank}
use Rattle.face_nesting.specs.Nesting.{Nesting, AreRanks, IsFaceCount}
use Rattle.face_nesting.specs.Numbering.{outer_face}
use Rattle.face_nesting.specs.Places.{HasFaceNumber, IsFaceNumberAt}
use Rattle.part_scrap.specs.Naming.{Naming, IsNaming, AreFacesAt, places_of}
use Rattle.std.proofs.lemmas.List.{length-map}
use Rattle.std.proofs.lemmas.Option.{same_Some, none-some}
use Rattle.nest_base.specs.Walks.{here}
use Rattle.face_nesting.proofs.Zips.{zip_first}
use Rattle.pierce_report.specs.Report.{IsPartRowOf}
use Rattle.pierce_report.specs.Parts.{part_rows}
use Rattle.pierce_report.proofs.RowLists.{length_zip}

pub index_is : (xs : List ℕ) (k x : ℕ) → slice_get xs k ≡ Some x → slice_index xs k ≡ x
index_is [] k x at = absurd (none-some x at)
index_is (y ∷ ys) zero x at = same_Some y x at
index_is (y ∷ ys) (suc k) x at = index_is ys k x at

-- each name has a face
pub faces_of_names : {edges : List Edge} {nesting : Nesting} {naming : Naming} (names : List Name) → IsNaming edges nesting (places_of names) naming →
    length naming.faces ≡ length names
faces_of_names {edges} {nesting} {naming} names is =
    length_zip (IsFaceNumberAt edges nesting.faces) (places_of names) naming.faces is.faces_at ∙ length-map names (λ (n : Name). n.at)

-- the number of a node's face is below the count of faces
counted : (edges : List Edge) (nesting : Nesting) (n : Node) (f : ℕ) → IsFaceCount nesting.faces nesting.count → HasFaceNumber edges nesting.faces n f → f < nesting.count
counted edges nesting Outer f count is = subst (λ k. k < nesting.count) (sym is) count.outer_counts
counted edges nesting (At h) f count (s, is_side, at) = All-read (λ k. k < nesting.count) nesting.faces s f count.below at

pub faces_are_counted : (edges : List Edge) (nesting : Nesting) (naming : Naming) (names : List Name) → IsNaming edges nesting (places_of names) naming →
    IsFaceCount nesting.faces nesting.count → All (λ f. f < nesting.count) naming.faces
faces_are_counted edges nesting naming names is count =
    All-from_reads (λ f. f < nesting.count) naming.faces (λ k f at.
    let found = zip_first (IsFaceNumberAt edges nesting.faces) (places_of names) naming.faces k f is.faces_at at in
    counted edges nesting found.2.0 f count found.2.2)

-- the rank by the number of its face is that of a node
ranked : (edges : List Edge) (faces ranks : List ℕ) (n : Node) (f : ℕ) → AreRanks edges faces ranks → HasFaceNumber edges faces n f → IsRank edges n (slice_index ranks f)
ranked edges faces ranks Outer f are is =
    subst (IsRank edges Outer) (sym (ap (slice_index ranks) is ∙ index_is ranks outer_face 0 are.outer))
    (record { reached = (here, refl); fewest = λ walk. omega arith })
ranked edges faces ranks (At h) f are (s, is_side, at) =
    subst (λ k. IsRank edges (At h) (slice_index ranks k)) (index_is faces s f at) (are.each s h is_side)

pub parts_are : (edges : List Edge) (nesting : Nesting) → AreRanks edges nesting.faces nesting.ranks → (names : List Name) (named : List ℕ) →
    AreFacesAt edges nesting.faces (places_of names) named → AllZip (IsPartRowOf edges) names (part_rows nesting.ranks named names)
parts_are edges nesting are [] [] zip = tt
parts_are edges nesting are [] (f ∷ named) zip = absurd zip
parts_are edges nesting are (n ∷ names) [] zip = absurd zip
parts_are edges nesting are (n ∷ names) (f ∷ named) zip = (
  record { own_text = refl; seen = zip.0.0; sees = zip.0.1; is_rank = ranked edges nesting.faces nesting.ranks zip.0.0 f are zip.0.2 },
  parts_are edges nesting are names named zip.1,
)
