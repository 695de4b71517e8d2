use Rattle.std.proofs.Common.{arith, List, ◌≡◌, ◌≢◌, ◌∷◌, [], ◌++◌, ℕ, ◌+◌, ◌-◌, ◌≤◌, Bool, true, false, length, set, refl, sym, ap, subst, ◌∙◌}
use Rattle.std.specs.Prelude.{◌==◌}
use Rattle.std.proofs.lemmas.Bool.Decides.{nat_tests}
use Rattle.half_edges.specs.Graph.{rotations_of}
use Rattle.face_nesting.specs.declared.cycles.CycleId.{CycleId}
use Rattle.face_nesting.specs.Cycles.{AreCyclesOf}
use Rattle.face_nesting.specs.Numbering.{cycle_numbers_of}
use Rattle.nest_base.specs.NumberLists.{side_numbers}
use Rattle.nest_base.specs.Limits.{most_half_edges}
use Rattle.face_nesting.proofs.CycleLists.{sides_few, starts_long, starts_few, cycles_before}
use Rattle.face_nesting.proofs.CycleTracing.{tracing_begun}
use Rattle.face_nesting.proofs.CycleFound.{untold_new, told_below}
use Rattle.face_nesting.proofs.CycleWrites.{written_on, written_new, written_grows, written_keeps, written_cycle, written_first}
use Rattle.face_nesting.proofs.cycles.Tracing.trace.Goals as goal

test_same : (n m : ℕ) (b : Bool) → b ≡ (n == m) → b ≡ true → n ≡ m
test_same n m b is same = grind (arith, nat_tests)

test_other : (n m : ℕ) (b : Bool) → b ≡ (n == m) → b ≡ false → n ≢ m
test_other n m b is other same = grind (arith, nat_tests)

-- there are some, and few
starts_count : (c : goal.After-len) → (1 ≤ c.len.result) × (c.len.result ≤ most_half_edges + 1)
starts_count c =
    let are = c.requires.known.1 in
    (omega (arith, starts_long are, c.len.ensures), omega (arith, starts_few are, sides_few are, c.len.ensures, c.requires.few))

pub overflow_cast-cycle : goal.overflow_cast-cycle
overflow_cast-cycle c = let few = (starts_count c).1 in omega (arith, few)

pub overflow_sub-cycle : goal.overflow_sub-cycle
overflow_sub-cycle c = (starts_count c).0

pub loop-s-init : goal.loop-s-init
loop-s-init c =
    let self = c.args.self.now in
    let sides = side_numbers self.cycles.sides.items in
    let are = c.requires.known.1 in
    record {
      tracing = tracing_begun (rotations_of c.args.graph.now) sides (cycle_numbers_of self.cycles.cycle_of.items) c.args.first.0 (c.len.result - 1) self.is_traced.items
          (told_below (rotations_of c.args.graph.now) self.is_traced.items sides c.args.first.0 c.requires.told c.requires.untraced) are.within are.once are.as_many c.requires.told;
      new = untold_new (rotations_of c.args.graph.now) self.is_traced.items sides c.args.first.0 c.requires.told c.requires.untraced;
      starts = refl;
    }

pub loop-s-smaller : goal.loop-s-smaller
loop-s-smaller c =
    let s = c.loop-s.invariant in
    let grows = written_grows c.requires.rotation (record { 0 = c.len.result - 1 }) _ _ _ _ c.loop-s.self.cycles.cycle_of.items s.tracing s.new c.in_ok-push.ensures.items c.along-s.ensures.number in
    omega (arith, grows.0, grows.1)

pub loop-s-preserved : goal.loop-s-preserved
loop-s-preserved c =
    let s = c.loop-s.invariant in
    let r : CycleId = record { 0 = c.len.result - 1 } in
    let cycle_of = c.loop-s.self.cycles.cycle_of.items in
    let more = c.in_ok-push.ensures.items in
    let next = c.along-s.ensures.number in
    let other = test_other c.along-s.result.0 c.args.first.0 c.eq.result c.eq.ensures c.if-eq.false in
    record {
      tracing = written_on c.requires.rotation r _ _ _ _ cycle_of s.tracing s.new more next;
      new = written_new c.requires.rotation r _ _ _ _ cycle_of s.tracing s.new more next (cycles_before c.requires.known.1 c.requires.rotation) other;
      starts = s.starts;
    }

pub overflow_cast-len : goal.overflow_cast-len
overflow_cast-len c =
    let s = c.loop-s.invariant in
    let grows = written_grows c.requires.rotation (record { 0 = c.len.result - 1 }) _ _ _ _ c.loop-s.self.cycles.cycle_of.items s.tracing s.new c.in_ok-push.ensures.items c.along-s.ensures.number in
    omega (arith, grows.1, c.requires.few, c.len-2.ensures)

pub returns-clause-cycles : goal.returns-clause-cycles
returns-clause-cycles c = λ heads are.
    let s = c.loop-s.invariant in
    let r : CycleId = record { 0 = c.len.result - 1 } in
    let cycle_of = c.loop-s.self.cycles.cycle_of.items in
    let more = c.push.new.self.items in
    let round = test_same c.along-s.result.0 c.args.first.0 c.eq.result c.eq.ensures c.if-eq.true in
    let old_starts = c.args.self.now.cycles.starts.items in
    let count : r.0 + 1 ≡ length old_starts = omega (arith, c.len.ensures, starts_long are) in
    let long : c.len-2.result ≡ length more = omega (arith, c.len-2.ensures) in
    let pushed = ap (λ (ns : List ℕ). ns ++ c.len-2.result ∷ []) s.starts ∙ ap (λ n. old_starts ++ n ∷ []) long in
    subst (AreCyclesOf (rotations_of c.args.graph.now) (heads ++ c.args.first.0 ∷ []) (cycle_numbers_of (set cycle_of c.loop-s.s.0 r)) (side_numbers more)) (sym (c.in_ok-push-2.ensures.items ∙ pushed))
    (written_cycle c.requires.rotation r _ _ _ _ cycle_of s.tracing s.new c.in_ok-push.ensures.items c.along-s.ensures.number round heads old_starts are count)

pub returns-clause-told : goal.returns-clause-told
returns-clause-told c =
    let s = c.loop-s.invariant in
    let on = written_on c.requires.rotation (record { 0 = c.len.result - 1 }) _ _ _ _ c.loop-s.self.cycles.cycle_of.items s.tracing s.new c.in_ok-push.ensures.items c.along-s.ensures.number in
    on.told

pub returns-clause-kept : goal.returns-clause-kept
returns-clause-kept c = λ t is.
    let s = c.loop-s.invariant in
    let r : CycleId = record { 0 = c.len.result - 1 } in
    let cycle_of = c.loop-s.self.cycles.cycle_of.items in
    let more = c.in_ok-push.ensures.items in
    let next = c.along-s.ensures.number in
    let on = written_on c.requires.rotation r _ _ _ _ cycle_of s.tracing s.new more next in
    (on.told.told t).1 (written_keeps c.requires.rotation r _ _ _ _ cycle_of s.tracing s.new more next t ((c.requires.told.told t).0 is))

pub returns-clause-traced : goal.returns-clause-traced
returns-clause-traced c =
    let s = c.loop-s.invariant in
    let r : CycleId = record { 0 = c.len.result - 1 } in
    let cycle_of = c.loop-s.self.cycles.cycle_of.items in
    let more = c.in_ok-push.ensures.items in
    let next = c.along-s.ensures.number in
    let round = test_same c.along-s.result.0 c.args.first.0 c.eq.result c.eq.ensures c.if-eq.true in
    let on = written_on c.requires.rotation r _ _ _ _ cycle_of s.tracing s.new more next in
    (on.told.told c.args.first.0).1 (written_first c.requires.rotation r _ _ _ _ cycle_of s.tracing s.new more next round)
