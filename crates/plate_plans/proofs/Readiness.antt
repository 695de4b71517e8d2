-- In an order of burning, a component's turn comes when all that lie in it are finished.
use Rattle.std.proofs.Common.{◌≡◌, ℕ, ◌<◌, List, refl, sym, ap, subst, ◌∙◌}
use Rattle.std.specs.Prelude.{Contains, Option, Some, None, slice_get}
use Rattle.nest_base.specs.declared.places.Point.{Point}
use Rattle.nest_base.specs.declared.places.Edge.{Edge}
use Rattle.plate_sides.specs.Components.{IsMark, IsIn}
use Rattle.plate_sides.specs.Nesting.{IsParent, IsParentOf, AreParents}
use Rattle.plate_sides.specs.Plans.{IsReady}
use Rattle.plate_nesting.specs.Order.{LiesIn, IsReadyAfter}
use Rattle.plate_nesting.proofs.Marks.{one_mark}
use Rattle.plate_nesting.proofs.Nearest.{seen_is_one}
use Rattle.plate_plans.specs.Plates.{IsPlate}
use Rattle.nest_base.proofs.ListReads.{read_below}
use Rattle.plate_plans.proofs.Places.{number_of, one_number}

-- the mark vertices of the components with these numbers are these
pub record AreNamed (marks : List Point) (numbers : List ℕ) (finished : List Point) : Type 0 where
  pub have_number : (mark : Point) → Contains finished mark → (c : ℕ) × Contains numbers c × (slice_get marks c ≡ Some mark)
  pub have_mark : (c : ℕ) (mark : Point) → Contains numbers c → slice_get marks c ≡ Some mark → Contains finished mark

module _ {edges : List Edge} {marks : List Point} {parents : List (Option ℕ)} (plate : IsPlate edges marks) (are : AreParents edges marks parents) where
  -- a component lies in one other
  pub one_parent : (k p q : Point) → IsParent edges k p → IsParent edges k q → p ≡ q
  one_parent k p q to_p to_q =
      let same : to_p.0 ≡ to_q.0 = seen_is_one edges plate.apart k to_p.0 to_q.0 to_p.1 to_q.1 in
      one_mark edges p q to_p.0 to_p.2 to_q.2 to_p.3 (subst (IsIn edges q) (sym same) to_q.3)

  -- its parent has the number that is known of it
  parent_is : (j c : ℕ) (k mark : Point) (parent : Option ℕ) → slice_get parents j ≡ Some parent → IsParentOf edges marks j k parent →
      slice_get marks c ≡ Some mark → IsParent edges k mark → LiesIn parents j c
  parent_is j c k mark None at is at_c to_mark = absurd (is.none.0 refl to_mark.0 to_mark.1.is_side to_mark.1.is_met)
  parent_is j c k mark (Some q) at is at_c to_mark =
      let r = is.some q refl in
      let same : r.0 ≡ mark = one_parent k r.0 mark r.2 to_mark in
      let number : q ≡ c = one_number plate.are_marks q c mark (r.1 ∙ ap Some same) at_c in
      at ∙ ap (λ n. Some (Some n)) number

  child_number : (c : ℕ) (k mark : Point) → slice_get marks c ≡ Some mark → IsMark edges k → IsParent edges k mark →
      (j : ℕ) × (slice_get marks j ≡ Some k) × LiesIn parents j c
  child_number c k mark at_c is to_mark =
      let j = number_of plate.are_marks k is in
      let parent = read_below parents j.0 (subst (λ n. j.0 < n) (sym are.as_many) j.1) in
      (j.0, j.2, parent_is j.0 c k mark parent.0 parent.1 (are.each j.0 k parent.0 j.2 parent.1) at_c to_mark)

  -- what is ready by number is ready on the plate
  pub ready_by_number : (numbers : List ℕ) (finished : List Point) (c : ℕ) (mark : Point) → AreNamed marks numbers finished →
      slice_get marks c ≡ Some mark → IsReadyAfter parents numbers c → IsReady edges finished mark
  ready_by_number numbers finished c mark named at ready = record {
    unfinished = λ has.
        let d = named.have_number mark has in
        ready.unfinished (subst (Contains numbers) (one_number plate.are_marks d.0 c mark d.2 at) d.1);
    children = λ k is to_mark.
        let j = child_number c k mark at is to_mark in
        named.have_mark j.0 k (ready.children j.0 j.2) j.1;
  }
