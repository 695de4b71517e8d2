use Rattle.segment_split.proofs.ByComparison.{edge_order, edges_apart, edge_ties, less_is_edge_before}
use Rattle.segment_split.proofs.Deduplicated.{deduplicated, enumerates_too}
use Rattle.segment_split.proofs.pieces.Pieces.in_order.Goals as goal

pub returns-clause-enumerates : goal.returns-clause-enumerates
returns-clause-enumerates c = enumerates_too _ _ _ _ less_is_edge_before (λ e. (λ h. h, λ h. h)) c.dedup.new.self.items
    (deduplicated edge_order edge_ties edges_apart c.args.self.edges.items c.sort_unstable.new.self.items c.dedup.new.self.items
    c.sort_unstable.ensures.permutation c.sort_unstable.ensures.sorted c.dedup.ensures.filtered)
