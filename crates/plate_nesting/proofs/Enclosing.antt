-- Orders that enclose within their components, one after another, enclose in the drawing.
use Rattle.std.proofs.Common.{arith, ◌≡◌, ◌<ℤ◌, List, ◌∷◌, ◌++◌, inl, inr, sym, ap, subst}
use Rattle.std.specs.Prelude.{Contains}
use Rattle.std.proofs.lemmas.Int.{ints}
use Rattle.std.proofs.lemmas.List.Elements.{Contains-append_left, Contains-append_right}
use Rattle.nest_base.specs.declared.places.Point.{Point}
use Rattle.nest_base.specs.declared.places.Edge.{Edge}
use Rattle.nest_base.specs.Plane.{HalfEdge, twin}
use Rattle.nest_base.proofs.Walks.{Walk-then, Walk-map}
use Rattle.plate_sides.specs.Components.{IsMark, AreMarks}
use Rattle.plate_sides.specs.Links.{At, along}
use Rattle.plate_sides.specs.Nesting.{IsRound, HasMarkSides, IsWhole}
use Rattle.plate_sides.specs.Reach.{Reaches, HasEdge, IsLinkedOver, within, across}
use Rattle.plate_sides.specs.Enclosing.{IsOrderEnclosing, ReachesEdgeOf, IsLinkedThrough, along as along_through, across as across_through}
use Rattle.plate_sides.specs.Plans.{IsOrderWithin, AreFinished, IsReady}
use Rattle.plate_sides.proofs.Components.{twin_is_in}
use Rattle.plate_nesting.proofs.Cuts.{cut_of_append}
use Rattle.plate_nesting.proofs.Finished.{stands_in, HasEdge-append_cases, open_is_whole}
use Rattle.plate_nesting.proofs.Marks.{one_mark}
use Rattle.plate_nesting.proofs.Reaching.{outer_side_reaches}

-- a link through one component that crosses later edges alone is one over unburnt edges
lifted : (edges : List Edge) (over burnt : List HalfEdge) → ((t : HalfEdge) → HasEdge over t → HasEdge burnt t → ⊥) → (a b : HalfEdge) →
    IsLinkedThrough edges over a b → IsLinkedOver edges burnt (At a) (At b)
lifted edges over burnt apart a b (along_through link) = within (along link)
lifted edges over burnt apart a b (across_through is has) = across is (λ burns. apart a has burns)

module _ (edges : List Edge) (marks : List Point) (are_marks : AreMarks edges marks) (round : IsRound edges) (sides : HasMarkSides edges)
    (finished : List Point) (done : List HalfEdge) (are : AreFinished edges finished done)
    (c : Point) (own : List HalfEdge) (order : IsOrderWithin edges c own) (ready : IsReady edges finished c) where
  -- while c burns, no edge of an open component further west is burnt
  whole_while : (before : List HalfEdge) → ((h : HalfEdge) → Contains before h → Contains own h) →
      (p : Point) → IsMark edges p → (Contains finished p → ⊥) → p.x <ℤ c.x → IsWhole edges p (done ++ before)
  whole_while before part p is opened west t inside has = elim (HasEdge-append_cases done before t has) [
    | inl early ↦ open_is_whole edges finished done are p is opened t inside early
    | inr late ↦
        let at = stands_in edges p before t inside late in
        let same : p ≡ c = one_mark edges p c at.0 is order.mark_vertex at.2 (order.inside at.0 (part at.0 at.1)) in
        absurd (omega (arith, ints, west, ap (λ (q : Point). q.x) same))
  ]

  own_reaches : (before : List HalfEdge) (s : HalfEdge) (later : List HalfEdge) → own ≡ before ++ s ∷ later →
      (t : HalfEdge) → ReachesEdgeOf edges c (s ∷ later) t → Reaches edges (done ++ before) t
  own_reaches before s later e t (o, outer, walk) =
      let part : (h : HalfEdge) → Contains before h → Contains own h = λ h k. subst (λ l. Contains l h) (sym e) (Contains-append_left before (s ∷ later) h k) in
      let rest : (h : HalfEdge) → Contains (s ∷ later) h → Contains own h = λ h k. subst (λ l. Contains l h) (sym e) (Contains-append_right before (s ∷ later) h k) in
      let unburnt : IsWhole edges c done = open_is_whole edges finished done are c order.mark_vertex ready.unfinished in
      let apart : (h : HalfEdge) → HasEdge (s ∷ later) h → HasEdge (done ++ before) h → ⊥ =
      λ h has burns. elim (HasEdge-append_cases done before h burns) [
        | inr b ↦ order.once before s later e h has b
        | inl b ↦ elim has [
          | inl k ↦ unburnt h (order.inside h (rest h k)) b
          | inr k ↦ unburnt h (twin_is_in edges c (twin h) (order.inside (twin h) (rest (twin h) k))) b
        ]
      ] in
      let reached : Reaches edges (done ++ before) o =
      outer_side_reaches edges marks are_marks round sides (done ++ before) (λ p. Contains finished p → ⊥)
      (λ k p is opened parent is_finished. opened (are.children k p is parent is_finished)) c (whole_while before part) order.mark_vertex ready.unfinished o outer in
      Walk-then (Walk-map At (lifted edges (s ∷ later) (done ++ before) apart) walk) reached

  -- after what is done, a ready component is burnt
  pub ready_orders_enclose : IsOrderEnclosing edges done → IsOrderEnclosing edges (done ++ own)
  ready_orders_enclose enclosing burnt s later e = elim (cut_of_append done own burnt s later e) [
    | inl r ↦ let is : done ≡ burnt ++ s ∷ r.0 = r.1 in enclosing burnt s r.0 is
    | inr r ↦
        let before : List HalfEdge = r.0 in
        let is : burnt ≡ done ++ before = r.1 in
        let cut : own ≡ before ++ s ∷ later = r.2 in
        let pair = order.enclosing before s later cut in (
          subst (λ b. Reaches edges b s) (sym is) (own_reaches before s later cut s pair.0),
          subst (λ b. Reaches edges b (twin s)) (sym is) (own_reaches before s later cut (twin s) pair.1),
        )
  ]
