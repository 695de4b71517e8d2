-- As many half-edges leave a vertex as edges end there.
use Rattle.std.proofs.Common.{◌≡◌, ◌≢◌, ◌⊎◌, inl, inr, suc, List, [], ◌∷◌, length, refl, sym, ap, subst, ◌∙◌}
use Rattle.std.specs.Prelude.{Contains, All, AllPairs}
use Rattle.std.proofs.lemmas.List.Elements.{All-contains, All-head, All-tail}
use Rattle.std.proofs.lemmas.List.Kept.{AllPairs-cons}
use Rattle.nest_base.specs.declared.places.Point.{Point}
use Rattle.nest_base.specs.declared.places.Edge.{Edge}
use Rattle.nest_base.specs.Plane.{HalfEdge, twin}
use Rattle.nest_base.specs.Order.{IsBefore}
use Rattle.nest_base.specs.Selection.{Enumerates, Selects, none, taken, passed}
use Rattle.nest_base.proofs.Lists.{Contains-head, Contains-later, Contains-cases, Contains-none, All-from_contains, AllPairs-none, AllPairs-to_later, AllPairs-rest}
use Rattle.nest_base.proofs.Orders.{IsBefore-irrefl}
use Rattle.plate_edges.specs.Edges.{IsEdgeBefore}
use Rattle.plate_edges.proofs.Counts.{same_number}
use Rattle.plate_edges.proofs.Orders.{by_order, IsEdgeBefore-asym, IsEdgeBefore-trans, IsEdgeBefore-total}
use Rattle.plate_edges.proofs.Sorts.{IsStrictOrder}
use Rattle.plate_sides.specs.HalfEdges.{forth, IsHalfEdgeOf, Leaves}
use Rattle.plate_sides.proofs.HalfEdges.{one_edge, from_is_end, leaves_once}
use Rattle.plate_sides.specs.Odd.{HasDegree}
use Rattle.half_edges.specs.Rotations.{IsRotation, IsBeforeRound}
use Rattle.half_edges.proofs.Rounds.{IsBeforeFromWest-asym}
use Rattle.nest_base.proofs.ListReads.{AllPairs-reads, AllPairs-from_reads}

-- e ends at v
abbrev EndsAt : Point → Edge → Type 0
EndsAt v e = (e.low ≡ v) ⊎ (e.high ≡ v)

same_or_not : (a b : Point) → (a ≡ b) ⊎ (a ≢ b)
same_or_not a b = by_order a b (λ less. inr (IsBefore-irrefl a b less)) (λ same. inl same) (λ greater. inr (λ e. IsBefore-irrefl b a greater (sym e)))

-- an edge has a half-edge that leaves v, or doesn't end there
leaving : (v : Point) (e : Edge) → ((h : HalfEdge) × IsHalfEdgeOf e h × (h.from ≡ v) × EndsAt v e) ⊎ (EndsAt v e → ⊥)
leaving v e = elim (same_or_not e.low v) [
  | inl low ↦ inl (forth e, inl refl, low, inl low)
  | inr not_low ↦ elim (same_or_not e.high v) [
    | inl high ↦ inl (twin (forth e), inr refl, high, inr high)
    | inr not_high ↦ inr (λ end. elim end [ inl low ↦ not_low low | inr high ↦ not_high high ])
  ]
]

-- where a half-edge leaves v, its edge ends there
end_left : (v : Point) (e : Edge) (h : HalfEdge) → IsHalfEdgeOf e h → h.from ≡ v → EndsAt v e
end_left v e h of at = elim (from_is_end e h of) [ inl low ↦ inl (sym low ∙ at) | inr high ↦ inr (sym high ∙ at) ]

-- the half-edges that leave v, one for each edge that ends there
record AreLeaving (v : Point) (edges : List Edge) : Type 0 where
  sides : List HalfEdge
  ending : List Edge
  selected : Selects (EndsAt v) edges ending
  as_many : length ending ≡ length sides
  all_sides : Enumerates (Leaves edges v) sides

Leaves-later : (e : Edge) (edges : List Edge) (v : Point) (h : HalfEdge) → Leaves edges v h → Leaves (e ∷ edges) v h
Leaves-later e edges v h ((f, stands, of), at) = ((f, Contains-later e f edges stands, of), at)

module _ (v : Point) (e : Edge) (edges : List Edge) (ahead : All (λ (f : Edge). IsBefore f.low f.high) (e ∷ edges)) (apart : AllPairs (λ (a : Edge) (b : Edge). a ≢ b) (e ∷ edges)) (rest : AreLeaving v edges) where
  is_ahead : (f : Edge) → Contains edges f → IsBefore f.low f.high
  is_ahead f stands = All-contains (λ (c : Edge). IsBefore c.low c.high) edges f (All-tail (λ (c : Edge). IsBefore c.low c.high) e edges ahead) stands

  first_ahead : IsBefore e.low e.high
  first_ahead = All-head (λ (c : Edge). IsBefore c.low c.high) e edges ahead

  not_among : (h g : HalfEdge) → IsHalfEdgeOf e h → Contains rest.sides g → h ≢ g
  not_among h g of c same = elsewhere ((rest.all_sides.are_all g).0 c)
    where
      elsewhere : Leaves edges v g → ⊥
      elsewhere ((f, stands, of_f), at) =
          AllPairs-to_later (λ (a : Edge) (b : Edge). a ≢ b) e f edges apart stands
          (one_edge e f h first_ahead (is_ahead f stands) of (subst (IsHalfEdgeOf f) (sym same) of_f))

  one_more : (h : HalfEdge) → IsHalfEdgeOf e h → h.from ≡ v → EndsAt v e → AreLeaving v (e ∷ edges)
  one_more h of at end = record {
    sides = h ∷ rest.sides;
    ending = e ∷ rest.ending;
    selected = taken end rest.selected;
    as_many = ap suc rest.as_many;
    all_sides = record {
      each_once = AllPairs-cons (λ x y. x ≢ y) h rest.sides (All-from_contains (λ g. h ≢ g) rest.sides (λ g c. not_among h g of c)) rest.all_sides.each_once;
      are_all = λ g. (λ c. from g (Contains-cases h g rest.sides c), to g);
    };
  }
    where
      from : (g : HalfEdge) → (h ≡ g) ⊎ Contains rest.sides g → Leaves (e ∷ edges) v g
      from g (inl same) = subst (Leaves (e ∷ edges) v) same ((e, Contains-head e edges, of), at)
      from g (inr later) = Leaves-later e edges v g ((rest.all_sides.are_all g).0 later)

      to : (g : HalfEdge) → Leaves (e ∷ edges) v g → Contains (h ∷ rest.sides) g
      to g ((f, stands, of_f), at_g) = elim (Contains-cases e f edges stands) [
        | inl same ↦
            subst (Contains (h ∷ rest.sides)) (leaves_once e h g first_ahead of (subst (λ c. IsHalfEdgeOf c g) (sym same) of_f) (at ∙ sym at_g)) (Contains-head h rest.sides)
        | inr later ↦ Contains-later h g rest.sides ((rest.all_sides.are_all g).1 ((f, later, of_f), at_g))
      ]

  no_more : (EndsAt v e → ⊥) → AreLeaving v (e ∷ edges)
  no_more not_end = record {
    sides = rest.sides;
    ending = rest.ending;
    selected = passed not_end rest.selected;
    as_many = rest.as_many;
    all_sides = record { each_once = rest.all_sides.each_once; are_all = λ g. (λ c. Leaves-later e edges v g ((rest.all_sides.are_all g).0 c), to g) };
  }
    where
      to : (g : HalfEdge) → Leaves (e ∷ edges) v g → Contains rest.sides g
      to g ((f, stands, of_f), at_g) = elim (Contains-cases e f edges stands) [
        | inl same ↦ absurd (not_end (end_left v e g (subst (λ c. IsHalfEdgeOf c g) (sym same) of_f) at_g))
        | inr later ↦ (rest.all_sides.are_all g).1 ((f, later, of_f), at_g)
      ]

all_leaving : (v : Point) (edges : List Edge) → All (λ (f : Edge). IsBefore f.low f.high) edges → AllPairs (λ (a : Edge) (b : Edge). a ≢ b) edges → AreLeaving v edges
all_leaving v [] ahead apart = record {
  sides = [];
  ending = [];
  selected = none;
  as_many = refl;
  all_sides = record { each_once = AllPairs-none (λ x y. x ≢ y); are_all = λ g. (λ c. absurd (Contains-none g c), λ leaves. absurd (Contains-none leaves.0.0 leaves.0.1)) };
}
all_leaving v (e ∷ edges) ahead apart =
    let rest = all_leaving v edges (All-tail (λ (f : Edge). IsBefore f.low f.high) e edges ahead) (AllPairs-rest (λ (a : Edge) (b : Edge). a ≢ b) e edges apart) in
    elim (leaving v e) [
      | inl found ↦ one_more v e edges ahead apart rest found.0 found.1 found.2 found.3
      | inr not_end ↦ no_more v e edges ahead apart rest not_end
    ]

-- half-edges in a strict order: by the place that they leave, then by that to which they lead
abbrev as_edge : HalfEdge → Edge
as_edge h = record { low = h.from; high = h.to }

abbrev IsSideBefore : HalfEdge → HalfEdge → Type 0
IsSideBefore g h = IsEdgeBefore (as_edge g) (as_edge h)

IsSideBefore-is_strict : IsStrictOrder IsSideBefore
IsSideBefore-is_strict = record {
  asym = λ g h. IsEdgeBefore-asym (as_edge g) (as_edge h);
  trans = λ f g h. IsEdgeBefore-trans (as_edge f) (as_edge g) (as_edge h);
  total = λ g h apart. IsEdgeBefore-total (as_edge g) (as_edge h) (λ same. apart (ap forth same));
}

-- the degree of a vertex is the number of half-edges that leave it, where no edge stands twice
pub degree_of_sides : (edges : List Edge) (v : Point) (sides : List HalfEdge) → All (λ (e : Edge). IsBefore e.low e.high) edges → AllPairs (λ (e : Edge) (f : Edge). e ≢ f) edges →
    Enumerates (Leaves edges v) sides → HasDegree edges v (length sides)
degree_of_sides edges v sides ahead apart all_sides =
    let all = all_leaving v edges ahead apart in
    (all.ending, all.selected, all.as_many ∙ same_number IsSideBefore IsSideBefore-is_strict (Leaves edges v) all.sides sides all.all_sides all_sides)

-- and the length of its rotation
pub degree_of_rotation : (edges : List Edge) (v : Point) (rotation : List HalfEdge) → All (λ (e : Edge). IsBefore e.low e.high) edges → AllPairs (λ (e : Edge) (f : Edge). e ≢ f) edges →
    IsRotation edges v rotation → HasDegree edges v (length rotation)
degree_of_rotation edges v rotation ahead apart is =
    let once : AllPairs (λ x y. x ≢ y) rotation = AllPairs-from_reads (λ x y. x ≢ y) rotation (λ i j g h less at_g at_h same.
    let before = AllPairs-reads IsBeforeRound rotation i j g h is.in_order less at_g at_h in
    let loop : IsBeforeRound h h = subst (λ x. IsBeforeRound x h) same before in IsBeforeFromWest-asym _ _ loop loop) in
    degree_of_sides edges v rotation ahead apart (record { each_once = once; are_all = is.are_all })
