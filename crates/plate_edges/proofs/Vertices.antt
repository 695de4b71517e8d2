-- Vertices of edges, and edges within a range.
use Rattle.std.proofs.Common.{inl, inr, subst}
use Rattle.std.specs.Prelude.{◌≡◌, ◌⊎◌, List}
use Rattle.nest_base.specs.declared.places.Point.{Point}
use Rattle.nest_base.specs.declared.places.Segment.{Segment}
use Rattle.nest_base.specs.declared.places.Edge.{Edge}
use Rattle.nest_base.specs.Plane.{rational}
use Rattle.nest_base.proofs.Lists.{All-from_contains}
use Rattle.plate_edges.specs.Cuts.{IsSomeEnd, IsSomeMeeting}
use Rattle.plate_edges.specs.Edges.{IsEdge, IsInside, IsPieceOf}
use Rattle.plate_edges.specs.Laws.{NoVertexIsInside}
use Rattle.plate_edges.proofs.Insides.{on_part}

-- where some segments end or meet
abbrev pub IsCut : List Segment → Point → Type 0
IsCut segments v = IsSomeEnd segments v ⊎ IsSomeMeeting segments v

-- there no piece has its inside, whichever segment it is of
pub not_inside_piece : (segments : List Segment) (s : Segment) (e : Edge) → IsPieceOf segments s e → (v : Point) → IsCut segments v → IsInside (rational v) e.low e.high → ⊥
not_inside_piece segments s e piece v cut inside =
    piece.uncut v (on_part s.a s.b e.low e.high (rational v) piece.low_cut.0 piece.high_cut.0 inside.0, cut) inside

-- the ends of an edge are such places
pub vertex_is_cut : (segments : List Segment) (e : Edge) → IsEdge segments e → (v : Point) → (e.low ≡ v) ⊎ (e.high ≡ v) → IsCut segments v
vertex_is_cut segments e edge v (inl same) = subst (IsCut segments) same edge.piece.2.low_cut.1
vertex_is_cut segments e edge v (inr same) = subst (IsCut segments) same edge.piece.2.high_cut.1

-- so none lies inside an edge
pub no_vertex_inside : NoVertexIsInside
no_vertex_inside segments edges all v (f, c, end) =
    All-from_contains (λ (e : Edge). IsInside (rational v) e.low e.high → ⊥) edges
    (λ e d. let edge : IsEdge segments e = (all.are_all e).0 d in
    not_inside_piece segments edge.piece.0 e edge.piece.2 v (vertex_is_cut segments f ((all.are_all f).0 c) v end))
