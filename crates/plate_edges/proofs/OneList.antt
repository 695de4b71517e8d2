-- The edges of segments are one list.
use Rattle.plate_edges.specs.Edges.{IsEdge, IsEdgeBefore}
use Rattle.plate_edges.specs.Laws.{EdgesAreOneList}
use Rattle.plate_edges.proofs.Lists.{same_enumeration}
use Rattle.plate_edges.proofs.Orders.{IsEdgeBefore-asym}

pub one_list : EdgesAreOneList
one_list segments edges others = same_enumeration IsEdgeBefore (IsEdge segments) IsEdgeBefore-asym edges others
