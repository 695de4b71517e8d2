use Rattle.std.proofs.Common.{refl}
use Rattle.nest_base.specs.Range.{widest}
use Rattle.drawing_samples.proofs.edges.edges_from.Goals as goal

pub returns-clause-within : goal.returns-clause-within
returns-clause-within c =
    let near = rw c.segments.ensures at (c.if-not-is_ready.ensures.within refl) in
    c.in_ok-split.ensures.within widest near
