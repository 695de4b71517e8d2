-- The trails of all components, one component after another, are an enclosing cover; and how many of them each component has.
use Rattle.std.proofs.Common.{arith, ◌≡◌, ℕ, ◌+◌, List, [], ◌∷◌, ◌++◌, length, inl, inr, refl, sym, subst}
use Rattle.std.specs.Prelude.{Contains, All}
use Rattle.std.proofs.lemmas.Grind.{flat_map-append}
use Rattle.std.proofs.lemmas.List.Elements.{All-contains, All-append, All-nil, Contains-append_left, Contains-append_right}
use Rattle.nest_base.specs.declared.places.Point.{Point}
use Rattle.nest_base.specs.declared.places.Edge.{Edge}
use Rattle.nest_base.specs.Plane.{HalfEdge}
use Rattle.nest_base.specs.Selection.{HasCount}
use Rattle.nest_base.proofs.Lists.{Contains-head, Contains-cases, Contains-none}
use Rattle.plate_sides.specs.HalfEdges.{forth, IsHalfEdgeOf}
use Rattle.plate_sides.specs.Components.{IsMark, IsIn, AreMarks}
use Rattle.plate_sides.specs.Enclosing.{IsOrderEnclosing}
use Rattle.plate_sides.specs.Nesting.{IsRound, HasMarkSides}
use Rattle.plate_sides.specs.Cover.{IsTrail, joined, HasTrailsIn}
use Rattle.plate_sides.specs.Plans.{IsReady, AreFinished, CoversWithin, IsPlanFor, IsEnclosingCover}
use Rattle.plate_nesting.proofs.Counts.{HasCount-append, HasCount-none, HasCount-all}
use Rattle.plate_nesting.proofs.Cuts.{no_cut}
use Rattle.plate_nesting.proofs.Enclosing.{ready_orders_enclose}
use Rattle.plate_sides.proofs.Components.{edge_is_in}
use Rattle.plate_nesting.proofs.Finished.{finished_next, nothing_finished}
use Rattle.plate_nesting.proofs.Marks.{one_mark}

pub joined-append : (trails more : List (List HalfEdge)) → joined (trails ++ more) ≡ joined trails ++ joined more
joined-append trails more = flat_map-append (λ (trail : List HalfEdge). trail) trails more

-- a trail has a first half-edge
first_of : (edges : List Edge) (trail : List HalfEdge) → IsTrail edges trail → (h : HalfEdge) × Contains trail h
first_of edges [] is = absurd is
first_of edges (s ∷ rest) is = (s, Contains-head s rest)

-- what stands in a trail stands among all
in_joined : (trails : List (List HalfEdge)) (trail : List HalfEdge) (h : HalfEdge) → Contains trails trail → Contains trail h → Contains (joined trails) h
in_joined [] trail h m k = absurd (Contains-none trail m)
in_joined (first ∷ trails) trail h m k = elim (Contains-cases first trail trails m) [
  | inl e ↦ Contains-append_left first (joined trails) h (subst (λ l. Contains l h) (sym e) k)
  | inr l ↦ Contains-append_right first (joined trails) h (in_joined trails trail h l k)
]

-- before any component is finished there is no trail
pub no_plan : (edges : List Edge) → IsPlanFor edges [] []
no_plan edges = record {
  are_trails = All-nil (IsTrail edges);
  each_once = λ e m mark has. absurd (Contains-none mark has);
  finished_only = nothing_finished edges;
  enclosing = λ burnt s later e. absurd (no_cut burnt s later e);
}

module _ (edges : List Edge) (finished : List Point) (plan : List (List HalfEdge)) (is : IsPlanFor edges finished plan)
    (c : Point) (own : List (List HalfEdge)) (covers : CoversWithin edges c own) (ready : IsReady edges finished c) where
  each_once_next : (e : Edge) → Contains edges e → (mark : Point) → Contains (c ∷ finished) mark → IsMark edges mark → IsIn edges mark (forth e) →
      HasCount (IsHalfEdgeOf e) (joined (plan ++ own)) 1
  each_once_next e m mark has is_mark inside = subst (λ l. HasCount (IsHalfEdgeOf e) l 1) (sym (joined-append plan own))
      (elim (Contains-cases c mark finished has) [
        | inl same ↦
            let in_c : IsIn edges c (forth e) = subst (λ p. IsIn edges p (forth e)) (sym same) inside in
            HasCount-append (IsHalfEdgeOf e) (joined plan) (joined own) 0 1
            (HasCount-none (IsHalfEdgeOf e) (joined plan) (λ h stands of_e.
            let at = is.finished_only.inside h stands in
            let h_in : IsIn edges c h = edge_is_in edges c e (forth e) h (inl refl) of_e in_c in
            ready.unfinished (subst (Contains finished) (one_mark edges at.0 c h at.2 covers.order.mark_vertex at.3 h_in) at.1)))
            (covers.each_once e m in_c)
        | inr early ↦
            HasCount-append (IsHalfEdgeOf e) (joined plan) (joined own) 1 0 (is.each_once e m mark early is_mark inside)
            (HasCount-none (IsHalfEdgeOf e) (joined own) (λ h stands of_e.
            let h_in : IsIn edges mark h = edge_is_in edges mark e (forth e) h (inl refl) of_e inside in
            ready.unfinished (subst (Contains finished) (one_mark edges mark c h is_mark covers.order.mark_vertex h_in (covers.order.inside h stands)) early)))
      ])

  -- one step of the plan: the trails of a ready component
  pub plan_next : (marks : List Point) → AreMarks edges marks → IsRound edges → HasMarkSides edges → IsPlanFor edges (c ∷ finished) (plan ++ own)
  plan_next marks are_marks round sides = record {
    are_trails = All-append (IsTrail edges) plan own is.are_trails covers.are_trails;
    each_once = each_once_next;
    finished_only = subst (AreFinished edges (c ∷ finished)) (sym (joined-append plan own))
        (finished_next edges finished (joined plan) is.finished_only c (joined own) covers.order ready);
    enclosing = subst (IsOrderEnclosing edges) (sym (joined-append plan own))
        (ready_orders_enclose edges marks are_marks round sides finished (joined plan) is.finished_only c (joined own) covers.order ready is.enclosing);
  }

  -- the component has its own trails, and no others
  pub trails_of_next : All (All (IsIn edges c)) own → HasTrailsIn edges c (plan ++ own) (length own)
  trails_of_next inside = subst (HasTrailsIn edges c (plan ++ own)) (zero_left (length own)) (HasCount-append (All (IsIn edges c)) plan own 0 (length own)
      (HasCount-none (All (IsIn edges c)) plan (λ trail m in_c.
      let first = first_of edges trail (All-contains (IsTrail edges) plan trail is.are_trails m) in
      let at = is.finished_only.inside first.0 (in_joined plan trail first.0 m first.1) in
      ready.unfinished (subst (Contains finished)
      (one_mark edges at.0 c first.0 at.2 covers.order.mark_vertex at.3 (All-contains (IsIn edges c) trail first.0 in_c first.1)) at.1)))
      (HasCount-all (All (IsIn edges c)) own inside))
    where
      zero_left : (n : ℕ) → 0 + n ≡ n
      zero_left n = omega arith

  -- and those of a finished component stay as many
  pub trails_stay : (mark : Point) (n : ℕ) → IsMark edges mark → Contains finished mark → HasTrailsIn edges mark plan n → HasTrailsIn edges mark (plan ++ own) n
  trails_stay mark n is_mark has count = subst (HasTrailsIn edges mark (plan ++ own)) (omega arith) (HasCount-append (All (IsIn edges mark)) plan own n 0 count
      (HasCount-none (All (IsIn edges mark)) own (λ trail m in_mark.
      let first = first_of edges trail (All-contains (IsTrail edges) own trail covers.are_trails m) in
      ready.unfinished (subst (Contains finished)
      (one_mark edges mark c first.0 is_mark covers.order.mark_vertex (All-contains (IsIn edges mark) trail first.0 in_mark first.1)
      (covers.order.inside first.0 (in_joined own trail first.0 m first.1))) has))))

-- when all components are finished, the plan is an enclosing cover
pub plan_covers : (edges : List Edge) → IsRound edges → (finished : List Point) (plan : List (List HalfEdge)) → IsPlanFor edges finished plan →
    ((mark : Point) → IsMark edges mark → Contains finished mark) → IsEnclosingCover edges plan
plan_covers edges round finished plan is all = record {
  is_cover = record {
    are_trails = is.are_trails;
    each_once = λ e m.
        let marked = round.marked (forth e) (e, m, inl refl) in
        is.each_once e m marked.0 (all marked.0 marked.1) marked.1 marked.2;
  };
  enclosing = is.enclosing;
}
