-- Two segments that overlap by a third of each: their cut points, pieces and edges.
use Rattle.std.proofs.Common.{arith, lit≤, ◌≡◌, ℕ, ◌≤◌, ◌⊎◌, [], ◌∷◌, List, inl, inr, refl, sym, ap, subst, ◌∙◌}
use Rattle.std.specs.Prelude.{Contains, AllPairs}
use Rattle.std.proofs.lemmas.Int.{ints}
use Rattle.std.proofs.lemmas.List.Elements.{All-nil, All-cons}
use Rattle.std.proofs.lemmas.List.Kept.{AllPairs-cons}
use Rattle.nest_base.specs.declared.places.Point.{Point}
use Rattle.nest_base.specs.declared.places.Segment.{Segment}
use Rattle.nest_base.specs.declared.places.Edge.{Edge}
use Rattle.nest_base.specs.Plane.{rational, IsOn}
use Rattle.nest_base.proofs.Lists.{Contains-head, Contains-later, Contains-cases, Contains-none, AllPairs-none}
use Rattle.nest_base.proofs.Points.{on_first, on_last, on_place, across_place}
use Rattle.plate_edges.specs.Cuts.{IsParallel}
use Rattle.plate_edges.specs.Edges.{IsPieceOf, IsEdge, IsEdgeBefore, AreEdgesOf}
use Rattle.plate_edges.specs.Pieces.{IsOrderedPieceOf, HavePieces}
use Rattle.plate_edges.specs.Examples.{place, edge, lower, upper, overlapping}
use Rattle.plate_edges.proofs.Insides.{inside_in_line}
use Rattle.plate_edges.proofs.ThreeCuts.{HasThreeCuts, lower_piece, upper_piece, one_of_two, two_pieces}
use Rattle.plate_edges.proofs.Vertices.{IsCut, not_inside_piece}

one_of_them : (t : Segment) → Contains overlapping t → (lower ≡ t) ⊎ (upper ≡ t)
one_of_them t c = elim (Contains-cases lower t (upper ∷ []) c) [
  | inl first ↦ inl first
  | inr later ↦ elim (Contains-cases upper t [] later) [ inl second ↦ inr second | inr none ↦ absurd (Contains-none t none) ]
]

has_lower : Contains overlapping lower
has_lower = Contains-head lower (upper ∷ [])

has_upper : Contains overlapping upper
has_upper = Contains-later lower upper (upper ∷ []) (Contains-head upper [])

-- the ends are the only places that can be cut points: the two are parallel
abbrev IsOneOfFour : Point → Type 0
IsOneOfFour v = (place 0 0 ≡ v) ⊎ ((place 6000 0 ≡ v) ⊎ ((place 4000 0 ≡ v) ⊎ (place 10000 0 ≡ v)))

level_ones : (t u : Segment) → Contains overlapping t → Contains overlapping u → IsParallel t u
level_ones t u c d = elim (one_of_them t c) [
  | inl first ↦ elim (one_of_them u d) [
    | inl same ↦ subst (λ r. IsParallel r u) first (subst (IsParallel lower) same refl)
    | inr other ↦ subst (λ r. IsParallel r u) first (subst (IsParallel lower) other refl)
  ]
  | inr second ↦ elim (one_of_them u d) [
    | inl other ↦ subst (λ r. IsParallel r u) second (subst (IsParallel upper) other refl)
    | inr same ↦ subst (λ r. IsParallel r u) second (subst (IsParallel upper) same refl)
  ]
]

one_of_four : (v : Point) → IsCut overlapping v → IsOneOfFour v
one_of_four v (inl (t, c, end)) = elim (one_of_them t c) [
  | inl first ↦ elim end [ inl a ↦ inl (ap (λ (r : Segment). r.a) first ∙ a) | inr b ↦ inr (inl (ap (λ (r : Segment). r.b) first ∙ b)) ]
  | inr second ↦ elim end [ inl a ↦ inr (inr (inl (ap (λ (r : Segment). r.a) second ∙ a))) | inr b ↦ inr (inr (inr (ap (λ (r : Segment). r.b) second ∙ b))) ]
]
one_of_four v (inr (t, u, c, d, across, meet)) = absurd (across (level_ones t u c d))

beyond_lower : IsOn (rational (place 10000 0)) (place 0 0) (place 6000 0) → ⊥
beyond_lower on = elim (across_place (place 10000 0) (place 0 0) (place 6000 0) on) [ inl h ↦ omega (arith, ints, h.1) | inr h ↦ omega (arith, ints, h.0) ]

below_upper : IsOn (rational (place 0 0)) (place 4000 0) (place 10000 0) → ⊥
below_upper on = elim (across_place (place 0 0) (place 4000 0) (place 10000 0) on) [ inl h ↦ omega (arith, ints, h.0) | inr h ↦ omega (arith, ints, h.1) ]

on_axis : (a m b : ℕ) → a ≤ m → m ≤ b → IsOn (rational (place m 0)) (place a 0) (place b 0)
on_axis a m b h k = on_place (place m 0) (place a 0) (place b 0) (omega (arith, ints)) (inl (omega (arith, ints), omega (arith, ints))) (inl (omega (arith, ints), omega (arith, ints)))

-- an end of one that lies on the other cuts it
lower_cuts : HasThreeCuts overlapping lower (place 0 0) (place 4000 0) (place 6000 0)
lower_cuts = record {
  low = inl (omega (arith, ints));
  high = inl (omega (arith, ints));
  at_p = (on_first (place 0 0) (place 6000 0), inl (lower, has_lower, inl refl));
  at_q = (on_axis 0 4000 6000 (lit≤ tt) (lit≤ tt), inl (upper, has_upper, inl refl));
  at_r = (on_last (place 0 0) (place 6000 0), inl (lower, has_lower, inr refl));
  only = λ v cut. elim (one_of_four v cut.1) [
    | inl e ↦ inl (sym e)
    | inr (inl e) ↦ inr (inr (sym e))
    | inr (inr (inl e)) ↦ inr (inl (sym e))
    | inr (inr (inr e)) ↦ absurd (beyond_lower (subst (λ u. IsOn (rational u) (place 0 0) (place 6000 0)) (sym e) cut.0))
  ];
}

upper_cuts : HasThreeCuts overlapping upper (place 4000 0) (place 6000 0) (place 10000 0)
upper_cuts = record {
  low = inl (omega (arith, ints));
  high = inl (omega (arith, ints));
  at_p = (on_first (place 4000 0) (place 10000 0), inl (upper, has_upper, inl refl));
  at_q = (on_axis 4000 6000 10000 (lit≤ tt) (lit≤ tt), inl (lower, has_lower, inr refl));
  at_r = (on_last (place 4000 0) (place 10000 0), inl (upper, has_upper, inr refl));
  only = λ v cut. elim (one_of_four v cut.1) [
    | inl e ↦ absurd (below_upper (subst (λ u. IsOn (rational u) (place 4000 0) (place 10000 0)) (sym e) cut.0))
    | inr (inl e) ↦ inr (inl (sym e))
    | inr (inr (inl e)) ↦ inl (sym e)
    | inr (inr (inr e)) ↦ inr (inr (sym e))
  ];
}

-- so the part that they share is a piece of both
pub shared_of_lower : IsPieceOf overlapping lower (edge 4000 0 6000 0)
shared_of_lower = (upper_piece overlapping lower (place 0 0) (place 4000 0) (place 6000 0) lower_cuts).1

pub shared_of_upper : IsPieceOf overlapping upper (edge 4000 0 6000 0)
shared_of_upper = (lower_piece overlapping upper (place 4000 0) (place 6000 0) (place 10000 0) upper_cuts).1

-- each has two pieces
pub four_pieces : HavePieces overlapping 4
four_pieces = (
  2 ∷ 2 ∷ [],
  (
    two_pieces overlapping lower (place 0 0) (place 4000 0) (place 6000 0) lower_cuts,
    (two_pieces overlapping upper (place 4000 0) (place 6000 0) (place 10000 0) upper_cuts, tt),
  ),
  refl,
)

-- neither is an edge as it stands
pub lower_is_cut : IsEdge overlapping (edge 0 0 6000 0) → ⊥
lower_is_cut h = not_inside_piece overlapping h.piece.0 (edge 0 0 6000 0) h.piece.2 (place 4000 0) (inl (upper, has_upper, inl refl))
    (inside_in_line (place 0 0) (place 4000 0) (place 6000 0) refl (inl (omega (arith, ints))) (inl (omega (arith, ints))))

abbrev first : Edge
first = edge 0 0 4000 0

abbrev second : Edge
second = edge 4000 0 6000 0

abbrev third : Edge
third = edge 6000 0 10000 0

abbrev three : List Edge
three = first ∷ second ∷ third ∷ []

has_second : Contains three second
has_second = Contains-later first second (second ∷ third ∷ []) (Contains-head second (third ∷ []))

has_third : Contains three third
has_third = Contains-later first third (second ∷ third ∷ []) (Contains-later second third (third ∷ []) (Contains-head third []))

lower_or : (e : Edge) → IsOrderedPieceOf overlapping lower e → (first ≡ e) ⊎ (second ≡ e)
lower_or = one_of_two overlapping lower (place 0 0) (place 4000 0) (place 6000 0) lower_cuts

upper_or : (e : Edge) → IsOrderedPieceOf overlapping upper e → (second ≡ e) ⊎ (third ≡ e)
upper_or = one_of_two overlapping upper (place 4000 0) (place 6000 0) (place 10000 0) upper_cuts

-- the edges are the pieces, each once
edge_of_three : (e : Edge) → IsEdge overlapping e → Contains three e
edge_of_three e h = elim (one_of_them h.piece.0 h.piece.1) [
  | inl of_lower ↦ elim (lower_or e (h.ends_in_order, subst (λ s. IsPieceOf overlapping s e) (sym of_lower) h.piece.2)) [
    | inl low ↦ subst (Contains three) low (Contains-head first (second ∷ third ∷ []))
    | inr high ↦ subst (Contains three) high has_second
  ]
  | inr of_upper ↦ elim (upper_or e (h.ends_in_order, subst (λ s. IsPieceOf overlapping s e) (sym of_upper) h.piece.2)) [
    | inl low ↦ subst (Contains three) low has_second
    | inr high ↦ subst (Contains three) high has_third
  ]
]

first_edge : IsEdge overlapping first
first_edge = let p = lower_piece overlapping lower (place 0 0) (place 4000 0) (place 6000 0) lower_cuts in record { ends_in_order = p.0; piece = (lower, has_lower, p.1) }

second_edge : IsEdge overlapping second
second_edge = record { ends_in_order = inl (omega (arith, ints)); piece = (lower, has_lower, shared_of_lower) }

third_edge : IsEdge overlapping third
third_edge = let p = upper_piece overlapping upper (place 4000 0) (place 6000 0) (place 10000 0) upper_cuts in record { ends_in_order = p.0; piece = (upper, has_upper, p.1) }

three_are_edges : (e : Edge) → Contains three e → IsEdge overlapping e
three_are_edges e c = elim (Contains-cases first e (second ∷ third ∷ []) c) [
  | inl one ↦ subst (IsEdge overlapping) one first_edge
  | inr later ↦ elim (Contains-cases second e (third ∷ []) later) [
    | inl two ↦ subst (IsEdge overlapping) two second_edge
    | inr last ↦ elim (Contains-cases third e [] last) [ inl three ↦ subst (IsEdge overlapping) three third_edge | inr none ↦ absurd (Contains-none e none) ]
  ]
]

in_order : AllPairs IsEdgeBefore three
in_order = AllPairs-cons IsEdgeBefore first (second ∷ third ∷ [])
    (All-cons (IsEdgeBefore first) second (third ∷ []) (inl (inl (omega (arith, ints)))) (All-cons (IsEdgeBefore first) third [] (inl (inl (omega (arith, ints)))) (All-nil (IsEdgeBefore first))))
    (AllPairs-cons IsEdgeBefore second (third ∷ []) (All-cons (IsEdgeBefore second) third [] (inl (inl (omega (arith, ints)))) (All-nil (IsEdgeBefore second)))
    (AllPairs-cons IsEdgeBefore third [] (All-nil (IsEdgeBefore third)) (AllPairs-none IsEdgeBefore)))

pub three_edges : AreEdgesOf overlapping three
three_edges = record { in_order = in_order; are_all = λ e. (three_are_edges e, edge_of_three e) }
