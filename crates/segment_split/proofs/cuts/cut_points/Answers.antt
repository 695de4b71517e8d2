use Rattle.std.proofs.lemmas.List.{take_all}
use Rattle.std.proofs.lemmas.List.Elements.{All-contains, All-more}
use Rattle.plate_edges.specs.Cuts.{HasLength, CrossesOffLattice}
use Rattle.segment_split.proofs.CutsByAll.{cuts_more}
use Rattle.segment_split.proofs.CutLists.{cut_list}
use Rattle.segment_split.proofs.cuts.cut_points.Goals as goal

pub loop-other-preserved : goal.loop-other-preserved
loop-other-preserved c =
    let segments = c.args.segments.now in
    let s = c.args.s.now in
    let within = c.loop-other-test.true in
    record {
      added = cuts_more segments s c.loop-other.other _ c.loop-other.places.items c.put_cuts.new.places.items within c.loop-other.invariant.added
          (rw c.in_default.is at c.in_ok-place.ensures.added);
      none_crosses = All-more (λ t. CrossesOffLattice s t → ⊥) segments c.loop-other.other _ within c.loop-other.invariant.none_crosses
          (rw c.in_default.is at c.in_ok-place.ensures.none);
    }

pub returns-clause-places : goal.returns-clause-places
returns-clause-places c =
    let segments = c.args.segments.now in
    let s = c.args.s.now in
    cut_list segments s (All-contains HasLength segments s c.requires.lengths c.requires.among) c.requires.among _ c.loop-other.places.items c.sort_unstable.new.self.items c.dedup.new.self.items
    (rw (take_all c.loop-other.other segments c.loop-other-test.false) at c.loop-other.invariant.added)
    c.sort_unstable.ensures.permutation c.sort_unstable.ensures.sorted c.dedup.ensures.filtered
