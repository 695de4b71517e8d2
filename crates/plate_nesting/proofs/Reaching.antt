-- Where a component is open, and all open ones further west are unburnt, its mark side reaches the outside.
use Rattle.std.proofs.Common.{arith, ◌≡◌, ℕ, zero, suc, ◌<◌, ◌<ℤ◌, ◌≤ℤ◌, List, [], ◌∷◌, length, get_or, inl, inr, refl, sym, ap, subst, ◌∙◌}
use Rattle.std.specs.Prelude.{AllPairs}
use Rattle.std.proofs.lemmas.Bool.{cases_order}
use Rattle.std.proofs.lemmas.Int.{ints}
use Rattle.nest_base.specs.declared.places.Point.{Point}
use Rattle.nest_base.specs.declared.places.Edge.{Edge}
use Rattle.nest_base.specs.Plane.{HalfEdge}
use Rattle.nest_base.specs.Order.{IsMarkedBefore}
use Rattle.nest_base.specs.Walks.{Walk, here, on}
use Rattle.nest_base.proofs.Walks.{Walk-then, Walk-map}
use Rattle.plate_sides.specs.Components.{IsMark, IsIn, AreMarks, SameComponent}
use Rattle.plate_sides.specs.Links.{Node, Outer, At, IsAlong, IsMarkSide, IsOuterSide, Sees, along, sight}
use Rattle.plate_sides.specs.Nesting.{IsRound, HasMarkSides, IsParent, IsAround, itself, outward, IsWhole}
use Rattle.plate_sides.specs.Reach.{Reaches, IsLinkedOver, within}
use Rattle.nest_base.proofs.Orders.{not_west}
use Rattle.plate_nesting.proofs.Components.{whole_holds_together}
use Rattle.plate_nesting.proofs.Seen.{something_is_seen}
use Rattle.plate_nesting.proofs.Sights.{parent_is_west}

-- what is further west stands earlier in the list of mark vertices
earlier : (marks : List Point) → AllPairs IsMarkedBefore marks → (c p : Point) (i j : ℕ) → i < length marks → get_or marks i c ≡ c →
    j < length marks → get_or marks j p ≡ p → p.x <ℤ c.x → j < i
earlier marks in_order c p i j in_i at_i in_j at_j west = elim (cases_order j i) [
  | inl e ↦ let same : c ≡ p = sym at_i ∙ get_same marks c p i in_i ∙ ap (λ k. get_or marks k p) (sym e) ∙ at_j in
      absurd (omega (arith, ints, west, ap (λ (q : Point). q.x) same))
  | inr (inl less) ↦ less
  | inr (inr more) ↦ absurd (not_west p c (subst (λ q. IsMarkedBefore q p) (get_same marks p c i in_i ∙ at_i) (subst (IsMarkedBefore (get_or marks i p)) at_j (in_order i j p more in_j))) west)
]
  where
    get_same : (marks : List Point) (c p : Point) (i : ℕ) → i < length marks → get_or marks i c ≡ get_or marks i p
    get_same [] c p i h = absurd (omega arith)
    get_same (m ∷ marks) c p zero h = refl
    get_same (m ∷ marks) c p (suc i) h = get_same marks c p i (omega arith)

module _ (edges : List Edge) (marks : List Point) (are_marks : AreMarks edges marks) (round : IsRound edges) (sides : HasMarkSides edges)
    (burnt : List HalfEdge) (IsOpen : Point → Type 0)
    (up : (c p : Point) → IsMark edges c → IsOpen c → IsParent edges c p → IsOpen p)
    (start : Point)
    (whole : (p : Point) → IsMark edges p → IsOpen p → p.x <ℤ start.x → IsWhole edges p burnt) where
  -- the mark sides of open components whose mark vertices stand before place n, and not east of the start
  abbrev AllReach : ℕ → Type 0
  AllReach n = (c : Point) → IsMark edges c → IsOpen c → c.x ≤ℤ start.x → (i : ℕ) → i < n → i < length marks → get_or marks i c ≡ c →
      (m : HalfEdge) → IsMarkSide edges m → m.from ≡ c → Reaches edges burnt m

  by_sight : (n : ℕ) → AllReach n → (c : Point) → IsMark edges c → IsOpen c → c.x ≤ℤ start.x → (i : ℕ) → i < suc n → i < length marks → get_or marks i c ≡ c →
      (m : HalfEdge) → IsMarkSide edges m → m.from ≡ c → (node : Node) → Sees edges c node → Reaches edges burnt m
  by_sight n all c is opened west i less inside at m side leaves Outer sees = on (within (sight side (subst (λ v. Sees edges v Outer) (sym leaves) sees))) here
  by_sight n all c is opened west i less inside at m side leaves (At d) sees =
      let marked = round.marked d sees.is_side in
      let p : Point = marked.0 in
      let is_parent : IsParent edges c p = (d, sees, marked.1, marked.2) in
      let further : p.x <ℤ c.x = parent_is_west edges c p is_parent in
      let more : p.x <ℤ start.x = omega (arith, ints, further, west) in
      let open_p : IsOpen p = up c p is opened is_parent in
      let place = (are_marks.are_all p).1 marked.1 in
      let side_p = sides p marked.1 in
      let m_p : HalfEdge = side_p.0 in
      let before : place.0 < i = earlier marks are_marks.in_order c p i place.0 inside at place.1 place.2 further in
      let reached : Reaches edges burnt m_p = all p marked.1 open_p (omega (arith, ints, more)) place.0 (omega arith) place.1 place.2 m_p side_p.1 side_p.2 in
      let in_p : IsIn edges p m_p = (side_p.1.is_side, subst (λ v. SameComponent edges v p) (sym side_p.2) here) in
      let joined : Walk (IsLinkedOver edges burnt) (At m_p) (At d) =
      whole_holds_together edges burnt p round (whole p marked.1 open_p more) d m_p marked.2 in_p in
      on (within (sight side (subst (λ v. Sees edges v (At d)) (sym leaves) sees))) (Walk-then joined reached)

  all_reach : (n : ℕ) → AllReach n
  all_reach zero c is opened west i less inside at m side leaves = absurd (omega arith)
  all_reach (suc n) c is opened west i less inside at m side leaves =
      by_sight n (all_reach n) c is opened west i less inside at m side leaves (something_is_seen edges c).0 (something_is_seen edges c).1

  pub mark_side_reaches : IsMark edges start → IsOpen start → (m : HalfEdge) → IsMarkSide edges m → m.from ≡ start → Reaches edges burnt m
  mark_side_reaches is opened m side leaves =
      let place = (are_marks.are_all start).1 is in
      all_reach (suc place.0) start is opened (omega (arith, ints)) place.0 (omega arith) place.1 place.2 m side leaves

  -- and so do its other outer sides
  pub outer_side_reaches : IsMark edges start → IsOpen start → (s : HalfEdge) → IsOuterSide edges start s → Reaches edges burnt s
  outer_side_reaches is opened s (m, side, leaves, walk) =
      let links : (a b : HalfEdge) → IsAlong edges a b → IsLinkedOver edges burnt (At a) (At b) = λ a b link. within (along link) in
      Walk-then (Walk-map At links walk) (mark_side_reaches is opened m side leaves)

-- what is around a component lies in what is around it too
pub around_then : (edges : List Edge) {c q p : Point} → IsAround edges c q → IsParent edges q p → IsAround edges c p
around_then edges itself parent = outward parent itself
around_then edges (outward first rest) parent = outward first (around_then edges rest parent)

-- while a component and all around it are unburnt, its outer sides reach the outside
pub whole_components_reach : (edges : List Edge) (marks : List Point) (burnt : List HalfEdge) (mark : Point) → AreMarks edges marks → IsRound edges → HasMarkSides edges →
    IsMark edges mark → ((p : Point) → IsAround edges mark p → IsWhole edges p burnt) → (s : HalfEdge) → IsOuterSide edges mark s → Reaches edges burnt s
whole_components_reach edges marks burnt mark are_marks round sides is whole s outer =
    outer_side_reaches edges marks are_marks round sides burnt (IsAround edges mark) (λ c p is_c around parent. around_then edges around parent) mark
    (λ p is_p around west. whole p around) is itself s outer
