use Rattle.segment_split.specs.CutPoints.{IsPlaceOn, IsCutBy}
use Rattle.segment_split.proofs.AddedPlaces.{adds_then}
use Rattle.segment_split.proofs.CutsByOne.{parallel_cut}
use Rattle.segment_split.proofs.cuts.put_ends_on.Goals as goal

pub returns : goal.returns
returns c =
    let s = c.args.s.now in
    let t = c.args.t.now in
    adds_then (IsPlaceOn s t.a) (IsPlaceOn s t.b) (IsCutBy s t) 1 1 c.args.places.now.items c.put_where_on.new.places.items c.put_where_on-2.new.places.items
    c.in_ok-put_where_on.ensures c.in_ok-put_where_on-2.ensures (parallel_cut s t c.requires.parallel)
