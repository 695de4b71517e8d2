-- Each edge adds its two half-edges.
use Rattle.std.proofs.lemmas.Option.{slice_get-get_or}
use Rattle.half_edges.proofs.Spokes.{AreFirstSpokes-more}
use Rattle.half_edges.proofs.rotation.spokes_of.Goals as goal

pub loop-k-preserved : goal.loop-k-preserved
loop-k-preserved c =
    rw (c.in_ok-push-2.ensures.items, c.in_ok-push.ensures.items, c.spoke_of.ensures, c.spoke_of-in-loop-k.ensures)
    (AreFirstSpokes-more c.args.edges.now c.loop-k.k _ c.loop-k.spokes.items (slice_get-get_or c.args.edges.now c.loop-k.k _ c.loop-k-test.true) c.loop-k.invariant)
