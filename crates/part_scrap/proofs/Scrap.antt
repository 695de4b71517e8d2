-- What the names of faces tell: which names clash, and which faces are scrap.
use Rattle.std.proofs.Common.{arith, ◌≡◌, ◌↔◌, ◌<◌, ℕ, List, Option, Some, None, length, refl, sym, ap, subst, ◌∙◌}
use Rattle.std.specs.Prelude.{All, slice_get, slice_index}
use Rattle.std.proofs.lemmas.Option.{slice_get_within, get_or_from_slice_get}
use Rattle.nest_base.specs.declared.places.Point.{Point}
use Rattle.nest_base.specs.declared.places.Edge.{Edge}
use Rattle.nest_base.specs.declared.drawing.Name.{Name}
use Rattle.nest_base.specs.Plane.{HalfEdge}
use Rattle.nest_base.proofs.ListReads.{read_below, All-read, read_from_Contains, Contains-from_read}
use Rattle.plate_sides.specs.Links.{At}
use Rattle.plate_sides.specs.Nesting.{SeesOne}
use Rattle.plate_parts.specs.Parts.{IsScrap, IsWellPlaced, HaveOneFace, AreDistinct, IsFirstFault, OneFace}
use Rattle.half_edges.specs.Numbers.{half_edges_of, IsSide}
use Rattle.face_nesting.specs.Nesting.{AreFaces, IsFaceCount}
use Rattle.face_nesting.specs.Places.{IsFaceNumberAt}
use Rattle.face_nesting.proofs.Zips.{zip_first, zip_second}
use Rattle.part_scrap.specs.Naming.{AreFacesAt, AreNamesOf, TellsScrap, places_of, file_lines_of}
use Rattle.part_scrap.specs.declared.error.PartError.{PartError}
use Rattle.part_scrap.specs.declared.error.PartError.TheVariants.{OnLine, NamesOuter, TwoNames, OutOfMemory}
use Rattle.part_scrap.specs.Refusals.{IsFirstTwice, IsClash, IsPartRefusal}
use Rattle.part_scrap.proofs.FacesAt.{number_at, one_face_at}
use Rattle.part_scrap.proofs.FirstFaults.{apart_from_reads, fault_one_face}
use Rattle.part_scrap.proofs.NamesByFace.{one_name, some_name}

module _ {edges : List Edge} {faces : List ℕ} (are_faces : AreFaces edges faces) (sees_one : SeesOne edges) (places : List Point) (named : List ℕ) (faces_at : AreFacesAt edges faces places named) where
  -- the numbers of the faces at two places
  same_number : (k l : ℕ) (p q : Point) → slice_get places k ≡ Some p → slice_get places l ≡ Some q → HaveOneFace edges p q →
      (f : ℕ) × (slice_get named k ≡ Some f) × (slice_get named l ≡ Some f)
  same_number k l p q at_p at_q one =
      let f = zip_second (IsFaceNumberAt edges faces) places named k p faces_at at_p in
      let g = zip_second (IsFaceNumberAt edges faces) places named l q faces_at at_q in
      let same = (one_face_at are_faces sees_one p q f.0 g.0 f.2 g.2).1 one in
      (f.0, f.1, g.1 ∙ ap Some (sym same))

  -- the first face that is named twice
  pub fault_of_twice : (i j : ℕ) → All (IsWellPlaced edges) places → IsFirstTwice named i j → IsFirstFault edges places (Some (OneFace i j))
  fault_of_twice i j well twice =
      let p = zip_first (IsFaceNumberAt edges faces) places named i twice.number faces_at twice.first in
      let q = zip_first (IsFaceNumberAt edges faces) places named j twice.number faces_at twice.second in
      fault_one_face edges places i p.0 p.1 j q.0 twice.in_order q.1 well
      (λ k l a b k_l l_j at_a at_b one.
      let f = same_number k l a b at_a at_b one in
      twice.once_before k l f.0 k_l l_j f.1 f.2)
      ((one_face_at are_faces sees_one p.0 q.0 twice.number twice.number p.2 q.2).0 refl)

  module _ {count : ℕ} {names : List (Option ℕ)} (names_of : AreNamesOf count named names) where
    -- where each face has one name, names are apart
    pub distinct : All (IsWellPlaced edges) places → AreDistinct edges places
    distinct well = record {
      well_placed = well;
      apart = apart_from_reads edges places (λ k l p q k_l at_p at_q one.
          let f = same_number k l p q at_p at_q one in
          omega (arith, k_l, one_name names f.0 k l ((names_of.told f.0 k).1 f.1) ((names_of.told f.0 l).1 f.2)));
    }

    module _ (s : ℕ) (h : HalfEdge) (side : IsSide edges s h) (g : ℕ) (has : slice_get faces s ≡ Some g) where
      none_is_scrap : slice_get names g ≡ Some None → IsScrap edges places (At h)
      none_is_scrap none (p, among, at) =
          let i = read_from_Contains places p among in
          let f = zip_second (IsFaceNumberAt edges faces) places named i.0 p faces_at i.1 in
          let same = (number_at are_faces sees_one p (At h) f.0 g f.2 (s, side, has)).1 at in
          some_name names g i.0 none ((names_of.told g i.0).1 (f.1 ∙ ap Some same))

      scrap_is_none : (name : Option ℕ) → slice_get names g ≡ Some name → IsScrap edges places (At h) → slice_get names g ≡ Some None
      scrap_is_none None at scrap = at
      scrap_is_none (Some i) at scrap =
          let p = zip_first (IsFaceNumberAt edges faces) places named i g faces_at ((names_of.told g i).0 at) in
          absurd (scrap (p.0, Contains-from_read places i p.0 p.1, (number_at are_faces sees_one p.0 (At h) g g p.2 (s, side, has)).0 refl))

    pub tells_scrap : length faces ≡ length (half_edges_of edges) → IsFaceCount faces count → TellsScrap edges places faces names
    tells_scrap as_many counted s h side =
        let read = read_below faces s (omega (arith, as_many, slice_get_within (half_edges_of edges) s h side)) in
        let below : read.0 < count = All-read (λ f. f < count) faces s read.0 counted.below read.1 in
        let name = read_below names read.0 (omega (arith, below, names_of.as_many)) in
        let index : slice_index faces s ≡ read.0 = get_or_from_slice_get faces s read.0 0 read.1 in
        subst (λ f. (slice_get names f ≡ Some None) ↔ IsScrap edges places (At h)) (sym index)
        (none_is_scrap s h side read.0 read.1, scrap_is_none s h side read.0 read.1 name.0 name.1)

-- a clash is the first fault of the names
pub clash_is_refusal : {edges : List Edge} {faces : List ℕ} (named : List ℕ) (names : List Name) → AreFaces edges faces → SeesOne edges → AreFacesAt edges faces (places_of names) named →
    All (IsWellPlaced edges) (places_of names) → (e : PartError) → IsClash named (file_lines_of names) e → IsPartRefusal edges names e
clash_is_refusal named names are_faces sees_one faces_at well (TwoNames first second) (i, j, twice, at_i, at_j) = (i, j, fault_of_twice are_faces sees_one (places_of names) named faces_at i j well twice, at_i, at_j)
clash_is_refusal named names are_faces sees_one faces_at well OutOfMemory is = tt
clash_is_refusal named names are_faces sees_one faces_at well (OnLine line) is = absurd is
clash_is_refusal named names are_faces sees_one faces_at well (NamesOuter line) is = absurd is
