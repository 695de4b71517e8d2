use Rattle.std.proofs.Common.{arith, ◌≡◌, ◌<◌, ◌-◌, ◌+◌, ℕ, length, map, sym, ap, subst, ◌∙◌}
use Rattle.std.specs.Prelude.{Some, option_map, All}
use Rattle.std.proofs.lemmas.List.{length-map}
use Rattle.nest_base.specs.declared.numbers.Side.{Side}
use Rattle.plate_nesting.proofs.Nearest.{one_is_seen}
use Rattle.half_edges.specs.Numbers.{half_edges_of}
use Rattle.half_edges.specs.Graph.{rotations_of, origin_of, component_of}
use Rattle.face_nesting.specs.declared.cycles.CycleId.{CycleId}
use Rattle.face_nesting.specs.declared.numbering.FaceId.{FaceId}
use Rattle.face_nesting.specs.Cycles.{OnOneCycle}
use Rattle.face_nesting.specs.Numbering.{cycle_numbers_of, face_numbers_of, sight_numbers_of, number_seen, face_of_cycle, AreOuterFaces}
use Rattle.nest_base.specs.NumberLists.{parent_numbers, side_numbers}
use Rattle.nest_base.specs.Limits.{most_half_edges}
use Rattle.plate_sides.specs.Nesting.{AreParents}
use Rattle.face_nesting.specs.Nesting.{AreFaces, IsFaceCount}
use Rattle.face_nesting.proofs.ByNumber.{All-from_map, AllPairs-from_map}
use Rattle.face_nesting.proofs.MarkSideComponents.{mark_sides_below, mark_sides_apart, has_mark_sides}
use Rattle.face_nesting.proofs.FoundCycles.{AreFound, as_many_mark_sides, as_many_sights, sees_earlier, few_components, few_cycle_numbers, seen_below_all, seen_sides}
use Rattle.face_nesting.proofs.NestingLists.{enough_cycles, starts_of_cycles, cycles_within, is_nesting}
use Rattle.face_nesting.proofs.SameFaces.{are_faces}
use Rattle.face_nesting.proofs.FaceCounts.{is_face_count}
use Rattle.face_nesting.proofs.FaceRanks.{are_ranks}
use Rattle.face_nesting.proofs.KnownGraph.{few_sides}
use Rattle.face_nesting.proofs.Parents.{are_parents}
use Rattle.face_nesting.proofs.OuterCycles.{outer_cycle_at}
use Rattle.face_nesting.proofs.nesting.Faces.build.Goals.{After-len-2, In_ok-cycles, In_ok-outer, In_ok-face_list, In_ok-parent_list}
use Rattle.face_nesting.proofs.nesting.Faces.build.Goals as goal

-- what is found of the graph
found : (c : In_ok-cycles) →
    AreFound c.args.graph.now (side_numbers c.in_ok-marks.marks.items) (cycle_numbers_of c.in_ok-cycles.cycles.cycle_of.items) (side_numbers c.in_ok-cycles.cycles.sides.items)
    c.in_ok-cycles.cycles.starts.items (sight_numbers_of c.in_ok-sights.sights.items)
found c = record {
  known = c.in_ok-sights.ensures.plane_graph;
  are_mark_sides = c.in_ok-marks.ensures;
  are_cycles = rw c.deref.ensures.value at c.in_ok-cycles.ensures;
  are_sights = c.in_ok-sights.ensures.sights;
}

-- there are as many sights as faces of outer cycles
as_many_faces : (c : In_ok-outer) → length c.in_ok-outer.outer.items ≡ length c.in_ok-sights.sights.items
as_many_faces c = omega (arith, c.in_ok-outer.ensures.as_many, c.deref-3.ensures.len)

as_many_components : (c : In_ok-outer) → length (sight_numbers_of c.in_ok-sights.sights.items) ≡ length c.args.graph.now.marks → length c.in_ok-outer.outer.items ≡ length c.args.graph.now.marks
as_many_components c many = omega (arith, as_many_faces c, many, length-map c.in_ok-sights.sights.items number_seen)

-- each component lies in the face that it sees
are_outer : (c : In_ok-outer) → AreOuterFaces (cycle_numbers_of c.in_ok-cycles.cycles.cycle_of.items) (sight_numbers_of c.in_ok-sights.sights.items) (length c.in_ok-outer.outer.items)
    (face_numbers_of c.in_ok-outer.outer.items)
are_outer c = rw (as_many_faces c) (rw (c.deref-2.ensures.value, c.deref-3.ensures.value) at c.in_ok-outer.ensures.faces)

-- the faces are counted by the starts of cycles
count_is : (c : After-len-2) → c.len.result - 1 - c.len-2.result + 1 ≡ length c.in_ok-cycles.cycles.starts.items - 1 - length (side_numbers c.in_ok-marks.marks.items) + 1
count_is c = omega (arith, c.len.ensures, c.len-2.ensures, length-map c.in_ok-marks.marks.items (λ (s : Side). s.0))

-- the numbers of faces, and of parents
faces_are : (c : In_ok-face_list) → face_numbers_of c.in_ok-face_list.face_list.items ≡
    map (face_of_cycle (length c.in_ok-outer.outer.items) (face_numbers_of c.in_ok-outer.outer.items)) (cycle_numbers_of c.in_ok-cycles.cycles.cycle_of.items)
faces_are c = rw (c.deref-4.ensures.value, c.deref-5.ensures.value) at c.in_ok-face_list.ensures

-- one for each half-edge
faces_many : (c : In_ok-face_list) → length (cycle_numbers_of c.in_ok-cycles.cycles.cycle_of.items) ≡ length (half_edges_of c.args.graph.now.edges) →
    length (face_numbers_of c.in_ok-face_list.face_list.items) ≡ length (half_edges_of c.args.graph.now.edges)
faces_many c many =
    let numbers = face_of_cycle (length c.in_ok-outer.outer.items) (face_numbers_of c.in_ok-outer.outer.items) in
    ap length (faces_are c) ∙ length-map (cycle_numbers_of c.in_ok-cycles.cycles.cycle_of.items) numbers ∙ many

parents_are : (c : In_ok-parent_list) → parent_numbers c.in_ok-parent_list.parent_list.items ≡
    map (option_map (λ s. component_of c.args.graph.now (origin_of c.args.graph.now s))) (sight_numbers_of c.in_ok-sights.sights.items)
parents_are c = rw c.deref-6.ensures.value at c.in_ok-parent_list.ensures

pub cycles_of-requires-clause-within : goal.cycles_of-requires-clause-within
cycles_of-requires-clause-within c =
    let marks = c.in_ok-marks.marks.items in
    rw c.deref.ensures.value
    (All-from_map (λ s. s < length (half_edges_of c.args.graph.now.edges)) (λ (s : Side). s.0) marks (mark_sides_below c.in_ok-sights.ensures.plane_graph (side_numbers marks) c.in_ok-marks.ensures))

pub cycles_of-requires-clause-apart : goal.cycles_of-requires-clause-apart
cycles_of-requires-clause-apart c =
    let marks = c.in_ok-marks.marks.items in
    rw c.deref.ensures.value
    (AllPairs-from_map (λ s t. OnOneCycle (rotations_of c.args.graph.now) s t → ⊥) (λ (s : Side). s.0) marks (mark_sides_apart c.in_ok-sights.ensures.plane_graph (side_numbers marks) c.in_ok-marks.ensures))

pub outer_faces-requires-clause-few : goal.outer_faces-requires-clause-few
outer_faces-requires-clause-few c =
    let is = goal.at.outer_faces-requires-clause-few c in
    omega (arith, c.deref-3.ensures.len, few_components (found is.In_ok-cycles), length-map c.in_ok-sights.sights.items number_seen)

pub outer_faces-requires-clause-cycles : goal.outer_faces-requires-clause-cycles
outer_faces-requires-clause-cycles c =
    let is = goal.at.outer_faces-requires-clause-cycles c in
    rw c.deref-2.ensures.value (All-from_map (λ r. r < most_half_edges) (λ (r : CycleId). r.0) c.in_ok-cycles.cycles.cycle_of.items (few_cycle_numbers (found is.In_ok-cycles)))

pub outer_faces-requires-clause-sides : goal.outer_faces-requires-clause-sides
outer_faces-requires-clause-sides c =
    let is = goal.at.outer_faces-requires-clause-sides c in
    let cycles = c.in_ok-cycles.cycles.cycle_of.items in
    let below = rw (length-map cycles (λ (r : CycleId). r.0)) at (seen_below_all (found is.In_ok-cycles)) in
    rw (c.deref-2.ensures.value, c.deref-3.ensures.value) (All-from_map (λ sight. (s : ℕ) → sight ≡ Some s → s < length cycles) number_seen c.in_ok-sights.sights.items below)

pub outer_faces-requires-clause-earlier : goal.outer_faces-requires-clause-earlier
outer_faces-requires-clause-earlier c =
    let is = goal.at.outer_faces-requires-clause-earlier c in
    rw (c.deref-2.ensures.value, c.deref-3.ensures.value) (rw (length-map c.in_ok-sights.sights.items number_seen) at (sees_earlier (found is.In_ok-cycles)))

pub overflow_sub-inner : goal.overflow_sub-inner
overflow_sub-inner c =
    let is = goal.at.overflow_sub-inner c in
    omega (arith, c.len.ensures, starts_of_cycles (found is.In_ok-cycles))

pub overflow_sub-inner-2 : goal.overflow_sub-inner-2
overflow_sub-inner-2 c =
    let is = goal.at.overflow_sub-inner-2 c in
    let all = found is.In_ok-cycles in
    omega (arith, c.len.ensures, c.len-2.ensures, starts_of_cycles all, enough_cycles all, as_many_mark_sides all, length-map c.in_ok-marks.marks.items (λ (s : Side). s.0))

pub overflow_cast-inner : goal.overflow_cast-inner
overflow_cast-inner c =
    let is = goal.at.overflow_cast-inner c in
    let all = found is.In_ok-cycles in
    omega (arith, c.len.ensures, starts_of_cycles all, cycles_within all)

pub overflow_add-number_of_faces : goal.overflow_add-number_of_faces
overflow_add-number_of_faces c =
    let is = goal.at.overflow_add-number_of_faces c in
    let all = found is.In_ok-cycles in
    omega (arith, c.len.ensures, starts_of_cycles all, cycles_within all)

pub faces_of-requires-clause-few : goal.faces_of-requires-clause-few
faces_of-requires-clause-few c =
    let is = goal.at.faces_of-requires-clause-few c in
    omega (arith, c.deref-5.ensures.len, as_many_faces is.In_ok-outer, few_components (found is.In_ok-cycles), length-map c.in_ok-sights.sights.items number_seen)

pub faces_of-requires-clause-cycles : goal.faces_of-requires-clause-cycles
faces_of-requires-clause-cycles c =
    let is = goal.at.faces_of-requires-clause-cycles c in
    rw c.deref-4.ensures.value (All-from_map (λ r. r < most_half_edges) (λ (r : CycleId). r.0) c.in_ok-cycles.cycles.cycle_of.items (few_cycle_numbers (found is.In_ok-cycles)))

pub parents_of-requires : goal.parents_of-requires
parents_of-requires c =
    let is = goal.at.parents_of-requires c in
    let below = seen_sides (found is.In_ok-cycles) in
    record { sides = rw c.deref-6.ensures.value (All-from_map (λ sight. (s : ℕ) → sight ≡ Some s → s < length (half_edges_of c.args.graph.now.edges)) number_seen c.in_ok-sights.sights.items below) }

pub ranks_of-requires-clause-few : goal.ranks_of-requires-clause-few
ranks_of-requires-clause-few c =
    let is = goal.at.ranks_of-requires-clause-few c in
    let all = found is.In_ok-cycles in
    let faces = c.in_ok-face_list.face_list.items in
    omega (arith, c.deref-7.ensures.len, length-map faces (λ (f : FaceId). f.0), faces_many is.In_ok-face_list all.are_cycles.are_cycles.as_many, few_sides all.known)

pub ranks_of-requires-clause-fits : goal.ranks_of-requires-clause-fits
ranks_of-requires-clause-fits c =
    let is = goal.at.ranks_of-requires-clause-fits c in
    let all = found is.In_ok-cycles in
    omega (arith, c.len.ensures, starts_of_cycles all, cycles_within all)

pub ranks_of-requires-clause-below : goal.ranks_of-requires-clause-below
ranks_of-requires-clause-below c =
    let is = goal.at.ranks_of-requires-clause-below c in
    let all = found is.In_ok-cycles in
    let count = c.len.result - 1 - c.len-2.result + 1 in
    let counted = is_face_count all (length c.in_ok-outer.outer.items) (face_numbers_of c.in_ok-outer.outer.items) (as_many_components is.In_ok-outer (as_many_sights all)) (are_outer is.In_ok-outer) count (count_is is.After-len-2) in
    let below = subst (All (λ f. f < count)) (sym (faces_are is.In_ok-face_list)) counted.below in
    rw c.deref-7.ensures.value (All-from_map (λ f. f < count) (λ (f : FaceId). f.0) c.in_ok-face_list.face_list.items below)

pub invariant_of-result : goal.invariant_of-result
invariant_of-result c =
    let is = goal.at.invariant_of-result c in
    let all = found is.In_ok-cycles in
    is_nesting all (face_numbers_of c.in_ok-face_list.face_list.items) (c.len.result - 1 - c.len-2.result + 1) c.in_ok-rank_list.rank_list.items (parent_numbers c.in_ok-parent_list.parent_list.items)
    c.in_ok-rank_list.ensures.as_many (count_is is.After-len-2)
    (rw (parents_are is.In_ok-parent_list) (are_parents all).as_many)

pub returns-clause-faces : goal.returns-clause-faces
returns-clause-faces c =
    let is = goal.at.returns-clause-faces c in
    let all = found is.In_ok-cycles in
    let faces = are_faces all (length c.in_ok-outer.outer.items) (face_numbers_of c.in_ok-outer.outer.items) (as_many_components is.In_ok-outer (as_many_sights all)) (are_outer is.In_ok-outer) in
    subst (AreFaces c.args.graph.now.edges) (sym (faces_are is.In_ok-face_list)) faces

pub returns-clause-count : goal.returns-clause-count
returns-clause-count c =
    let is = goal.at.returns-clause-count c in
    let all = found is.In_ok-cycles in
    let counted = is_face_count all (length c.in_ok-outer.outer.items) (face_numbers_of c.in_ok-outer.outer.items) (as_many_components is.In_ok-outer (as_many_sights all)) (are_outer is.In_ok-outer) (c.len.result - 1 - c.len-2.result + 1) (count_is is.After-len-2) in
    subst (λ faces. IsFaceCount faces (c.len.result - 1 - c.len-2.result + 1)) (sym (faces_are is.In_ok-face_list)) counted

pub returns-clause-ranks : goal.returns-clause-ranks
returns-clause-ranks c =
    let is = goal.at.returns-clause-ranks c in
    let all = found is.In_ok-cycles in
    let found_ranks = c.in_ok-rank_list.ensures in
    let sides = has_mark_sides all.known (side_numbers c.in_ok-marks.marks.items) c.in_ok-marks.ensures in
    are_ranks (face_numbers_of c.in_ok-face_list.face_list.items) c.in_ok-rank_list.rank_list.items all.known sides (faces_many is.In_ok-face_list all.are_cycles.are_cycles.as_many)
    (returns-clause-faces c) found_ranks.outer (rw c.deref-7.ensures.value at found_ranks.distances)

pub returns-clause-parents : goal.returns-clause-parents
returns-clause-parents c =
    let is = goal.at.returns-clause-parents c in
    subst (AreParents c.args.graph.now.edges c.args.graph.now.marks) (sym (parents_are is.In_ok-parent_list)) (are_parents (found is.In_ok-cycles))

pub returns-clause-outer_cycles : goal.returns-clause-outer_cycles
returns-clause-outer_cycles c =
    let is = goal.at.returns-clause-outer_cycles c in
    outer_cycle_at (found is.In_ok-cycles)

pub returns-clause-mark_sides : goal.returns-clause-mark_sides
returns-clause-mark_sides c = has_mark_sides c.in_ok-sights.ensures.plane_graph (side_numbers c.in_ok-marks.marks.items) c.in_ok-marks.ensures

pub returns-clause-sees_one : goal.returns-clause-sees_one
returns-clause-sees_one c = one_is_seen c.args.graph.now.edges c.in_ok-sights.ensures.plane_graph.apart
