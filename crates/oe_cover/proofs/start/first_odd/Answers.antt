use Rattle.std.proofs.Common.{arith, ◌≡◌, ◌+◌, ◌<◌, [], ◌∷◌, ◌++◌, length, get_or, take, sym, subst, ap, ◌∙◌}
use Rattle.std.specs.Prelude.{IfSome, Option, Some}
use Rattle.std.proofs.lemmas.List.{take_more, take_all, map_push}
use Rattle.half_edges.specs.Numbers.{half_edges_of}
use Rattle.nest_base.specs.declared.numbers.Side.{Side}
use Rattle.nest_base.specs.NumberLists.{side_numbers}
use Rattle.face_nesting.proofs.NumbersOf.{side_number}
use Rattle.oe_cover.specs.Starts.{FirstOddIs}
use Rattle.oe_cover.proofs.FirstOdds.{becomes_first, even_is_passed, later_is_passed}
use Rattle.oe_cover.proofs.start.first_odd.Goals as goal
use Rattle.oe_cover.proofs.start.first_odd.Goals.{then-leaves_odd+then-comes_before, else-leaves_odd, else-leaves_odd-via-then-leaves_odd+else-comes_before, else-leaves_odd-via-else-leaves_odd}

pub loop-s-preserved : goal.loop-s-preserved
loop-s-preserved c =
    let graph = c.args.graph.now in
    let sides = c.args.sides.now in
    let i = c.loop-s.s-index in
    let s : Side = get_or sides i (record { 0 = 0 }) in
    let before = side_numbers (take i sides) in
    let more : before ++ s.0 ∷ [] ≡ side_numbers (take (i + 1) sides) = sym (ap side_numbers (take_more sides i (record { 0 = 0 }) c.loop-s-test.true) ∙ map_push side_number (take i sides) s) in
    let within = λ (first : Option Side) (was : IfSome first (λ t. t.0 < length (half_edges_of graph.edges))) (is : c.if-leaves_odd.first ≡ first).
    subst (λ o. IfSome o (λ t. t.0 < length (half_edges_of graph.edges))) (sym is) was in
    let told = λ (first : Option Side) (was : FirstOddIs graph (before ++ s.0 ∷ []) first) (is : c.if-leaves_odd.first ≡ first).
    subst (λ o. FirstOddIs graph (side_numbers (take (i + 1) sides)) o) (sym is) (subst (λ xs. FirstOddIs graph xs first) more was) in
    elim c.if-leaves_odd.branch [
      | then-leaves_odd+then-comes_before w ↦ record {
        first = told (Some s) (becomes_first graph before s c.loop-s.first c.loop-s.invariant.first (c.leaves_odd.ensures.0 w.if-leaves_odd.true) w.comes_before.result w.comes_before.ensures.some w.if-comes_before.true) w.first-is;
        within = within (Some s) (c.requires i (record { 0 = 0 }) c.loop-s-test.true) w.first-is;
      }
      | else-leaves_odd w ↦ elim w.else-leaves_odd.branch [
        | else-leaves_odd-via-then-leaves_odd+else-comes_before v ↦ record {
          first = told c.loop-s.first (later_is_passed graph before s c.loop-s.first c.loop-s.invariant.first v.comes_before.result v.comes_before.ensures.none v.comes_before.ensures.some v.if-comes_before.false) w.first-is;
          within = within c.loop-s.first c.loop-s.invariant.within w.first-is;
        }
        | else-leaves_odd-via-else-leaves_odd v ↦ record {
          first = told c.loop-s.first (even_is_passed graph before s c.loop-s.first c.loop-s.invariant.first (λ odd. absurd (cc (c.leaves_odd.ensures.1 odd, v.if-leaves_odd.false)))) w.first-is;
          within = within c.loop-s.first c.loop-s.invariant.within w.first-is;
        }
      ]
    ]

pub returns : goal.returns
returns c = subst (λ xs. FirstOddIs c.args.graph.now (side_numbers xs) c.loop-s.first) (take_all c.loop-s.s-index c.args.sides.now (omega (arith, c.loop-s-test.false))) c.loop-s.invariant.first
