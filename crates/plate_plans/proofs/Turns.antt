-- The covers of all components, children before parents, are a plan: it grows by a cover at each turn.
use Rattle.std.proofs.Common.{arith, ◌≡◌, inl, inr, ℕ, ◌<◌, ◌≤◌, List, [], ◌∷◌, ◌++◌, length, refl, sym, ap, subst, ◌∙◌, append_assoc, append-nil}
use Rattle.std.specs.Prelude.{Contains, All, AllPairs, ◌≢◌, Option, Some, slice_get}
use Rattle.std.specs.List.{AllZip}
use Rattle.std.proofs.lemmas.Grind.{flat_map-append}
use Rattle.std.proofs.lemmas.Option.{same_Some}
use Rattle.std.proofs.lemmas.List.Elements.{Contains-append_cases, Contains-append_left, Contains-append_right}
use Rattle.nest_base.specs.declared.places.Point.{Point}
use Rattle.nest_base.specs.declared.places.Edge.{Edge}
use Rattle.nest_base.specs.Plane.{HalfEdge}
use Rattle.nest_base.proofs.Lists.{Contains-head, Contains-later, Contains-cases, Contains-none, AllZip-append}
use Rattle.nest_base.proofs.Selections.{same_count}
use Rattle.plate_sides.specs.Components.{IsMark, IsIn}
use Rattle.plate_sides.specs.Nesting.{AreParents}
use Rattle.plate_sides.specs.Cover.{HasTrailsIn}
use Rattle.plate_sides.specs.Limit.{IsLimit}
use Rattle.plate_sides.specs.Plans.{IsPlanFor, IsReady}
use Rattle.plate_sides.specs.ComponentCovers.{IsComponentCover}
use Rattle.plate_plans.proofs.OneBound.{limit_is_one}
use Rattle.plate_plans.proofs.Undercut.{none_undercuts as no_cover_undercuts, none_undercuts_sum as no_cover_undercuts_sum}
use Rattle.plate_nesting.specs.Order.{IsBurningOrder}
use Rattle.plate_nesting.proofs.Plans.{no_plan, plan_next, trails_of_next, trails_stay, plan_covers}
use Rattle.plate_plans.specs.Plates.{IsPlate}
use Rattle.plate_plans.specs.Plans.{AreComponentCovers, all_trails, IsPlan}
use Rattle.plate_plans.specs.Laws.{ComponentCoversArePlan, ComponentCoversAreCounted}
use Rattle.plate_plans.proofs.Once.{edges_once}
use Rattle.plate_plans.proofs.Places.{mark_at, number_of}
use Rattle.plate_plans.proofs.Readiness.{AreNamed, ready_by_number}
use Rattle.plate_plans.proofs.Zips.{AllZip-weaker, goes_with, go_together}

abbrev Share : Type 0
Share = List (List HalfEdge)

-- the component with the number c has this cover, and its trails and no others among all of these
record HasShare (edges : List Edge) (marks : List Point) (trails : List (List HalfEdge)) (c : ℕ) (own : Share) : Type 0 where
  mark : Point
  at : slice_get marks c ≡ Some mark
  component_cover : IsComponentCover edges mark own
  counted : HasTrailsIn edges mark trails (length own)

-- after the components with these numbers: the mark vertices of what is finished, and the covers so far
record IsSoFar (edges : List Edge) (marks : List Point) (numbers : List ℕ) (finished : List Point) (component_covers : List Share) : Type 0 where
  named : AreNamed marks numbers finished
  is_plan : IsPlanFor edges finished (all_trails component_covers)
  have_component_covers : AllZip (HasShare edges marks (all_trails component_covers)) numbers component_covers

nothing_yet : (edges : List Edge) (marks : List Point) → IsSoFar edges marks [] [] []
nothing_yet edges marks = record {
  named = record { have_number = λ mark has. absurd (Contains-none mark has); have_mark = λ c mark has at. absurd (Contains-none c has) };
  is_plan = no_plan edges;
  have_component_covers = tt;
}

-- one cover more
all_trails-next : (component_covers : List Share) (own : Share) → all_trails (component_covers ++ own ∷ []) ≡ all_trails component_covers ++ own
all_trails-next component_covers own = flat_map-append (λ (s : Share). s) component_covers (own ∷ []) ∙ ap (λ l. all_trails component_covers ++ l) (append-nil own)

module _ {edges : List Edge} {marks : List Point} (plate : IsPlate edges marks) where
  one_mark_at : (c : ℕ) (p q : Point) → slice_get marks c ≡ Some p → slice_get marks c ≡ Some q → p ≡ q
  one_mark_at c p q at_p at_q = same_Some p q (sym at_p ∙ at_q)

  named_next : (numbers : List ℕ) (finished : List Point) (c : ℕ) (mark : Point) → slice_get marks c ≡ Some mark → AreNamed marks numbers finished →
      AreNamed marks (numbers ++ c ∷ []) (mark ∷ finished)
  named_next numbers finished c mark at named = record {
    have_number = λ k has. elim (Contains-cases mark k finished has) [
      | inl same ↦ (c, Contains-append_right numbers (c ∷ []) c (Contains-head c []), at ∙ ap Some same)
      | inr early ↦ let d = named.have_number k early in (d.0, Contains-append_left numbers (c ∷ []) d.0 d.1, d.2)
    ];
    have_mark = λ d k has at_d. elim (Contains-append_cases numbers (c ∷ []) d has) [
      | inl early ↦ Contains-later mark k finished (named.have_mark d k early at_d)
      | inr late ↦ elim (Contains-cases c d [] late) [
        | inl same ↦ subst (Contains (mark ∷ finished)) (one_mark_at c mark k at (ap (slice_get marks) same ∙ at_d)) (Contains-head mark finished)
        | inr l ↦ absurd (Contains-none d l)
      ]
    ];
  }

  -- one turn: the cover of a ready component
  next_component_cover : (numbers : List ℕ) (finished : List Point) (component_covers : List Share) (c : ℕ) (mark : Point) (own : Share) →
      slice_get marks c ≡ Some mark → IsSoFar edges marks numbers finished component_covers → IsComponentCover edges mark own → IsReady edges finished mark →
      IsSoFar edges marks (numbers ++ c ∷ []) (mark ∷ finished) (component_covers ++ own ∷ [])
  next_component_cover numbers finished component_covers c mark own at far component_cover ready = record {
    named = named_next numbers finished c mark at far.named;
    is_plan = subst (IsPlanFor edges (mark ∷ finished)) (sym more)
        (plan_next edges finished plan far.is_plan mark own component_cover.covers ready marks plate.are_marks plate.round plate.mark_sides);
    have_component_covers = subst (λ l. AllZip (HasShare edges marks l) (numbers ++ c ∷ []) (component_covers ++ own ∷ [])) (sym more)
        (AllZip-append (HasShare edges marks (plan ++ own)) numbers (c ∷ []) component_covers (own ∷ []) kept (new, tt));
  }
    where
      plan : List (List HalfEdge)
      plan = all_trails component_covers

      more : all_trails (component_covers ++ own ∷ []) ≡ plan ++ own
      more = all_trails-next component_covers own

      new : HasShare edges marks (plan ++ own) c own
      new = record {
        mark = mark;
        at = at;
        component_cover = component_cover;
        counted = trails_of_next edges finished plan far.is_plan mark own component_cover.covers ready component_cover.inside;
      }

      stays : (d : ℕ) (part : Share) → Contains numbers d → HasShare edges marks plan d part → HasShare edges marks (plan ++ own) d part
      stays d part has is = record {
        mark = is.mark;
        at = is.at;
        component_cover = is.component_cover;
        counted = trails_stay edges finished plan far.is_plan mark own component_cover.covers ready is.mark (length part)
            (mark_at plate.are_marks d is.mark is.at) (far.named.have_mark d is.mark has is.at) is.counted;
      }

      kept : AllZip (HasShare edges marks (plan ++ own)) numbers component_covers
      kept = AllZip-weaker (HasShare edges marks plan) (HasShare edges marks (plan ++ own)) numbers component_covers stays far.have_component_covers

  module _ {parents : List (Option ℕ)} (are : AreParents edges marks parents) {order : List ℕ} (burns : IsBurningOrder parents order) where
    -- all turns that are left
    turns_left : (numbers later : List ℕ) (finished : List Point) (done component_covers : List Share) → order ≡ numbers ++ later →
        AreComponentCovers edges marks later component_covers → IsSoFar edges marks numbers finished done →
        (all : List Point) × IsSoFar edges marks order all (done ++ component_covers)
    turns_left numbers [] finished done [] e zip far = (
      finished,
      subst (λ l. IsSoFar edges marks l finished (done ++ [])) (sym (append-nil numbers) ∙ sym e)
          (subst (λ l. IsSoFar edges marks numbers finished l) (sym (append-nil done)) far),
    )
    turns_left numbers [] finished done (own ∷ component_covers) e zip far = absurd zip
    turns_left numbers (c ∷ later) finished done [] e zip far = absurd zip
    turns_left numbers (c ∷ later) finished done (own ∷ component_covers) e zip far =
        let mark = zip.0.0 in
        let at = zip.0.1 in
        let ready = ready_by_number plate are numbers finished c mark far.named at (burns.ready numbers c later e) in
        let r = turns_left (numbers ++ c ∷ []) later (mark ∷ finished) (done ++ own ∷ []) component_covers (e ∙ sym (append_assoc numbers (c ∷ []) later)) zip.1
        (next_component_cover numbers finished done c mark own at far zip.0.2 ready) in
        (r.0, subst (IsSoFar edges marks order r.0) (append_assoc done (own ∷ []) component_covers) r.1)

    -- the number of a mark vertex stands in the order
    has_turn : (mark : Point) → IsMark edges mark → (c : ℕ) × Contains order c × (slice_get marks c ≡ Some mark)
    has_turn mark is = let c = number_of plate.are_marks mark is in (c.0, burns.all c.0 (subst (λ n. c.0 < n) (sym are.as_many) c.1), c.2)

    module _ (component_covers : List Share) (zip : AreComponentCovers edges marks order component_covers) where
      all_turns : (all : List Point) × IsSoFar edges marks order all component_covers
      all_turns = turns_left [] order [] [] component_covers refl zip (nothing_yet edges marks)

      component_cover_within : (mark : Point) → IsMark edges mark → (n limit : ℕ) → HasTrailsIn edges mark (all_trails component_covers) n → IsLimit edges mark limit → n ≤ limit
      component_cover_within mark is n limit count is_limit =
          let c = has_turn mark is in
          let has = goes_with (HasShare edges marks (all_trails component_covers)) order component_covers all_turns.1.have_component_covers c.0 c.1 in
          let same : has.1.mark ≡ mark = one_mark_at c.0 has.1.mark mark has.1.at c.2 in
          let counted : HasTrailsIn edges mark (all_trails component_covers) (length has.0) = subst (λ p. HasTrailsIn edges p (all_trails component_covers) (length has.0)) same has.1.counted in
          let own_limit : IsLimit edges mark has.1.component_cover.limit.0 = subst (λ p. IsLimit edges p has.1.component_cover.limit.0) same has.1.component_cover.limit.1 in
          omega (
            arith,
            same_count (All (IsIn edges mark)) (all_trails component_covers) n (length has.0) count counted,
            limit_is_one edges mark limit has.1.component_cover.limit.0 is_limit own_limit,
            has.1.component_cover.limit.2,
          )

      once : AllPairs (λ e f. e ≢ f) edges
      once = edges_once edges plate.ends_in_order plate.apart

      plan_of_all : IsPlan edges (all_trails component_covers)
      plan_of_all = record {
        covers = plan_covers edges plate.round all_turns.0 (all_trails component_covers) all_turns.1.is_plan
            (λ mark is. let c = has_turn mark is in all_turns.1.named.have_mark c.0 mark c.1 c.2);
        within_limit = component_cover_within;
        none_undercuts = no_cover_undercuts edges plate.ends_in_order once;
        none_undercuts_sum = no_cover_undercuts_sum edges plate.ends_in_order once plate.round;
      }

      counted_at : (i c : ℕ) (own : Share) (mark : Point) → slice_get order i ≡ Some c → slice_get component_covers i ≡ Some own → slice_get marks c ≡ Some mark →
          HasTrailsIn edges mark (all_trails component_covers) (length own)
      counted_at i c own mark at_c at_own at_mark =
          let has = go_together (HasShare edges marks (all_trails component_covers)) order component_covers all_turns.1.have_component_covers i c own at_c at_own in
          subst (λ p. HasTrailsIn edges p (all_trails component_covers) (length own)) (one_mark_at c has.mark mark has.at at_mark) has.counted

pub component_covers_are_plan : ComponentCoversArePlan
component_covers_are_plan edges marks parents order component_covers plate are burns zip = plan_of_all plate are burns component_covers zip

pub component_covers_are_counted : ComponentCoversAreCounted
component_covers_are_counted edges marks parents order component_covers plate are burns zip = counted_at plate are burns component_covers zip
