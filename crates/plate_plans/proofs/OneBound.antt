-- A component has one number of odd vertices, so it has one bound and one limit.
use Rattle.std.proofs.Common.{arith, ◌≡◌, ◌≤◌, List, length, sym, ◌∙◌}
use Rattle.std.specs.Prelude.{Contains}
use Rattle.nest_base.specs.declared.places.Point.{Point}
use Rattle.nest_base.specs.declared.places.Edge.{Edge}
use Rattle.nest_base.proofs.Fewer.{fewer}
use Rattle.plate_sides.specs.Odd.{AreOddVertices}
use Rattle.plate_sides.specs.Limit.{HasOuter, no_odd as no_odd_limit, outer_odd, inner_odd}
use Rattle.plate_sides.specs.Bound.{no_odd, some_odd}
use Rattle.plate_plans.specs.Undercutting.{BoundIsOne, LimitIsOne}

module _ {edges : List Edge} {mark : Point} {one other : List Point} (are : AreOddVertices edges mark one) (are_too : AreOddVertices edges mark other) where
  -- what stands in one list of all odd vertices stands in the other
  held : (v : Point) → Contains one v → Contains other v
  held v c = (are_too.are_all v).1 ((are.are_all v).0 c)

  few : length one ≤ length other
  few = fewer one other are.each_once held

  outer_too : HasOuter edges mark one → HasOuter edges mark other
  outer_too (v, c, outer) = (v, held v c, outer)

pub same_many : {edges : List Edge} {mark : Point} {one other : List Point} → AreOddVertices edges mark one → AreOddVertices edges mark other → length one ≡ length other
same_many are are_too = omega (arith, few are are_too, few are_too are)

pub bound_is_one : BoundIsOne
bound_is_one edges mark a b (no_odd none_a e) (no_odd none_b f) = e ∙ sym f
bound_is_one edges mark a b (no_odd are e) (some_odd {odd} are_too some f) = absurd (omega (arith, same_many are are_too, some))
bound_is_one edges mark a b (some_odd are some e) (no_odd are_too f) = absurd (omega (arith, same_many are are_too, some))
bound_is_one edges mark a b (some_odd are some e) (some_odd are_too some_too f) = omega (arith, same_many are are_too, e, f)

pub limit_is_one : LimitIsOne
limit_is_one edges mark a b (no_odd_limit are e) (no_odd_limit are_too f) = e ∙ sym f
limit_is_one edges mark a b (no_odd_limit are e) (outer_odd are_too outer f) = absurd (omega (arith, same_many are are_too, outer.1.1))
limit_is_one edges mark a b (no_odd_limit are e) (inner_odd are_too some inner f) = absurd (omega (arith, same_many are are_too, some))
limit_is_one edges mark a b (outer_odd are outer e) (no_odd_limit are_too f) = absurd (omega (arith, same_many are are_too, outer.1.1))
limit_is_one edges mark a b (outer_odd are outer e) (outer_odd are_too outer_too f) = omega (arith, same_many are are_too, e, f)
limit_is_one edges mark a b (outer_odd are outer e) (inner_odd are_too some inner f) = absurd (inner (outer_too are are_too outer))
limit_is_one edges mark a b (inner_odd are some inner e) (no_odd_limit are_too f) = absurd (omega (arith, same_many are are_too, some))
limit_is_one edges mark a b (inner_odd are some inner e) (outer_odd are_too outer f) = absurd (inner (outer_too are_too are outer))
limit_is_one edges mark a b (inner_odd are some inner e) (inner_odd are_too some_too inner_too f) = omega (arith, same_many are are_too, e, f)
