use Rattle.std.proofs.Common.{arith, inl, inr, ◌+◌, ◌≤◌, sym, length}
use Rattle.std.proofs.lemmas.Bool.{iff_false, cases_lt}
use Rattle.std.proofs.lemmas.List.{take_all}
use Rattle.std.proofs.lemmas.List.Elements.{Contains-get_or}
use Rattle.std.proofs.lemmas.Option.{slice_get-get_or}
use Rattle.nest_base.specs.Limits.{most_segments, most_edges}
use Rattle.plate_edges.proofs.EdgeEnds.{ends_apart}
use Rattle.plate_edges.proofs.Keeping.{keep_points}
use Rattle.plate_edges.proofs.Ranges.{stay_within}
use Rattle.plate_edges.proofs.Vertices.{no_vertex_inside}
use Rattle.segment_split.specs.Splits.{IsFirstCrossing}
use Rattle.segment_split.proofs.FirstCrossing.{first_crossing}
use Rattle.segment_split.proofs.PiecesOfOne.{some_cut}
use Rattle.segment_split.proofs.SplitSoFar.{AreCut, one_more_is_cut, none_crosses, edges_from_pieces, low_before_high}
use Rattle.segment_split.proofs.splitting.split.Goals as goal

pub returns-in-Err-OffLattice-clause-refused : goal.returns-in-Err-OffLattice-clause-refused
returns-in-Err-OffLattice-clause-refused c =
    let segments = c.segments-segments.result.now in
    let index = c.loop-index.index in
    let r = c.in-Err-OffLattice in
    let first : IsFirstCrossing segments (index + 1) (r.other + 1) r.place =
    first_crossing segments index r.other _ r.place c.loop-index.invariant.on_lattice (slice_get-get_or segments index _ c.loop-index-test.true) (rw r.field-0-is at r.ensures.refused) in
    rw (sym c.segments-segments.ensures, r.other-is, r.place-is) first

pub put-requires-clause-some : goal.put-requires-clause-some
put-requires-clause-some c =
    let segments = c.segments-segments.result.now in
    rw c.deref.ensures.value (some_cut segments _ (Contains-get_or segments c.loop-index.index _ c.loop-index-test.true) c.in-Ok.places.items c.in-Ok.ensures.places)

pub loop-index-preserved : goal.loop-index-preserved
loop-index-preserved c =
    let segments = c.segments-segments.result.now in
    let few : length segments ≤ most_segments = rw c.segments-segments.ensures c.requires.few in
    one_more_is_cut segments c.loop-index.index _ c.loop-index.pieces.edges.items c.put.new.self.edges.items c.loop-index.pieces.count c.put.new.self.count c.in-Ok.places.items
    c.loop-index-test.true few c.loop-index.invariant c.in-Ok.ensures.places c.in-Ok.ensures.few c.in-Ok.ensures.none_crosses (rw c.deref.ensures.value at c.in_ok-put.ensures.count)
    (rw c.deref.ensures.value at c.in_ok-put.ensures.edges)

pub returns-then-are_too_many-clause-refused : goal.returns-then-are_too_many-clause-refused
returns-then-are_too_many-clause-refused c =
    let segments = c.segments-segments.result.now in
    let cut : AreCut segments segments c.loop-index.pieces.edges.items c.loop-index.pieces.count = rw (take_all c.loop-index.index segments c.loop-index-test.false) at c.loop-index.invariant in
    rw (sym c.segments-segments.ensures) (record {
      on_lattice = none_crosses segments cut.on_lattice;
      pieces = c.loop-index.pieces.count;
      have_pieces = cut.have_pieces;
      many = c.are_too_many.ensures.0 c.if-are_too_many.true;
    })

pub returns-clause-split : goal.returns-clause-split
returns-clause-split c =
    let segments = c.segments-segments.result.now in
    let cut : AreCut segments segments c.loop-index.pieces.edges.items c.loop-index.pieces.count = rw (take_all c.loop-index.index segments c.loop-index-test.false) at c.loop-index.invariant in
    let few : c.loop-index.pieces.count ≤ most_edges = elim (cases_lt most_edges c.loop-index.pieces.count) [ inl many ↦ absurd (iff_false c.are_too_many.ensures c.if-are_too_many.false many) | inr h ↦ h ] in
    rw (c.from_list.ensures, sym c.segments-segments.ensures) (record {
      on_lattice = none_crosses segments cut.on_lattice;
      pieces = c.loop-index.pieces.count;
      have_pieces = cut.have_pieces;
      few = few;
      are_edges = edges_from_pieces segments c.loop-index.pieces.edges.items c.in_order.result.items c.loop-index.pieces.count cut few c.in_order.ensures.enumerates;
    })

pub returns-clause-most_edges : goal.returns-clause-most_edges
returns-clause-most_edges c =
    let segments = c.segments-segments.result.now in
    let cut : AreCut segments segments c.loop-index.pieces.edges.items c.loop-index.pieces.count = rw (take_all c.loop-index.index segments c.loop-index-test.false) at c.loop-index.invariant in
    let few : c.loop-index.pieces.count ≤ most_edges = elim (cases_lt most_edges c.loop-index.pieces.count) [ inl many ↦ absurd (iff_false c.are_too_many.ensures c.if-are_too_many.false many) | inr h ↦ h ] in
    rw c.from_list.ensures (omega (arith, cut.as_many few, few, c.in_order.ensures.not_more))

pub returns-clause-ends_in_order : goal.returns-clause-ends_in_order
returns-clause-ends_in_order c = low_before_high _ _ (returns-clause-split c).are_edges

pub returns-clause-points_stay : goal.returns-clause-points_stay
returns-clause-points_stay c = keep_points _ _ c.requires.lengths (returns-clause-split c).are_edges

pub returns-clause-apart : goal.returns-clause-apart
returns-clause-apart c = ends_apart _ _ c.requires.lengths (returns-clause-split c).on_lattice (returns-clause-split c).are_edges

pub returns-clause-no_vertex_inside : goal.returns-clause-no_vertex_inside
returns-clause-no_vertex_inside c = no_vertex_inside _ _ (returns-clause-split c).are_edges

pub returns-clause-within : goal.returns-clause-within
returns-clause-within c = λ n near. stay_within n _ _ near (returns-clause-split c).are_edges
