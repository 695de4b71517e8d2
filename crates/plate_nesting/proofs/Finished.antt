-- Components that are burnt one after another: what is burnt lies in finished components, and what lies in these is finished.
use Rattle.std.proofs.Common.{◌⊎◌, List, [], ◌∷◌, ◌++◌, inl, inr, sym, subst}
use Rattle.std.specs.Prelude.{Contains}
use Rattle.std.proofs.lemmas.List.Elements.{Contains-append_cases}
use Rattle.nest_base.specs.declared.places.Point.{Point}
use Rattle.nest_base.specs.declared.places.Edge.{Edge}
use Rattle.nest_base.specs.Plane.{HalfEdge, twin}
use Rattle.nest_base.proofs.Lists.{Contains-head, Contains-later, Contains-cases, Contains-none}
use Rattle.plate_sides.specs.Components.{IsMark, IsIn}
use Rattle.plate_sides.specs.Nesting.{IsParent, IsWhole}
use Rattle.plate_sides.specs.Reach.{HasEdge}
use Rattle.plate_sides.specs.Plans.{IsOrderWithin, AreFinished, IsReady}
use Rattle.plate_sides.proofs.Components.{twin_is_in}
use Rattle.plate_nesting.proofs.Marks.{one_mark}

-- an edge of a list is named by a half-edge of the list, in the same component
pub stands_in : (edges : List Edge) (mark : Point) (list : List HalfEdge) (t : HalfEdge) → IsIn edges mark t → HasEdge list t →
    (h : HalfEdge) × Contains list h × IsIn edges mark h
stands_in edges mark list t inside (inl c) = (t, c, inside)
stands_in edges mark list t inside (inr c) = (twin t, c, twin_is_in edges mark t inside)

pub HasEdge-append_cases : (xs ys : List HalfEdge) (t : HalfEdge) → HasEdge (xs ++ ys) t → HasEdge xs t ⊎ HasEdge ys t
HasEdge-append_cases xs ys t (inl c) = elim (Contains-append_cases xs ys t c) [ inl m ↦ inl (inl m) | inr m ↦ inr (inl m) ]
HasEdge-append_cases xs ys t (inr c) = elim (Contains-append_cases xs ys (twin t) c) [ inl m ↦ inl (inr m) | inr m ↦ inr (inr m) ]

-- before anything is burnt nothing is finished
pub nothing_finished : (edges : List Edge) → AreFinished edges [] []
nothing_finished edges = record { inside = λ s has. absurd (Contains-none s has); children = λ c p is parent has. absurd (Contains-none p has) }

module _ (edges : List Edge) (finished : List Point) (done : List HalfEdge) (are : AreFinished edges finished done) where
  -- what isn't finished isn't burnt
  pub open_is_whole : (p : Point) → IsMark edges p → (Contains finished p → ⊥) → IsWhole edges p done
  open_is_whole p is opened t inside has =
      let at = stands_in edges p done t inside has in
      let finished_at = are.inside at.0 at.1 in
      opened (subst (Contains finished) (sym (one_mark edges p finished_at.0 at.0 is finished_at.2 at.2 finished_at.3)) finished_at.1)

  -- a ready component is finished when it's burnt
  pub finished_next : (c : Point) (own : List HalfEdge) → IsOrderWithin edges c own → IsReady edges finished c → AreFinished edges (c ∷ finished) (done ++ own)
  finished_next c own order ready = record {
    inside = λ s has. elim (Contains-append_cases done own s has) [
      | inl early ↦ let at = are.inside s early in (at.0, Contains-later c at.0 finished at.1, at.2, at.3)
      | inr late ↦ (c, Contains-head c finished, order.mark_vertex, order.inside s late)
    ];
    children = λ k p is parent has. elim (Contains-cases c p finished has) [
      | inl same ↦ Contains-later c k finished (ready.children k is (subst (IsParent edges k) (sym same) parent))
      | inr early ↦ Contains-later c k finished (are.children k p is parent early)
    ];
  }
