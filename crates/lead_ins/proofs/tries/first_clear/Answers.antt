use Rattle.std.proofs.lemmas.Bool.{iff_false}
use Rattle.plate_parts.specs.LeadIns.{tried_around}
use Rattle.lead_ins.specs.Corners.{IsClear}
use Rattle.lead_ins.proofs.FirstFits.{fits_first, none_fits}
use Rattle.lead_ins.proofs.Scans.{holds_of_more}
use Rattle.lead_ins.proofs.tries.first_clear.Goals as goal

pub returns-then-is_clear : goal.returns-then-is_clear
returns-then-is_clear c =
    fits_first (IsClear c.args.graph.now.edges c.args.earlier.now c.args.corner) (tried_around c.args.corner.vertex) c.loop-k.k c.tried_at-q.result c.tried_at-q.ensures.place
    c.loop-k.invariant (c.is_clear.ensures.0 c.if-is_clear.true)

pub loop-k-preserved : goal.loop-k-preserved
loop-k-preserved c =
    holds_of_more (λ q. IsClear c.args.graph.now.edges c.args.earlier.now c.args.corner q → ⊥) (tried_around c.args.corner.vertex) c.loop-k.k c.tried_at-q.result c.tried_at-q.ensures.place
    (iff_false c.is_clear.ensures c.if-is_clear.false) c.loop-k.invariant

pub returns : goal.returns
returns c = none_fits (IsClear c.args.graph.now.edges c.args.earlier.now c.args.corner) (tried_around c.args.corner.vertex) c.loop-k.k c.loop-k-test.false c.loop-k.invariant
