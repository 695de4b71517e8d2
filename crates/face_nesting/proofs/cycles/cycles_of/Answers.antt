use Rattle.std.proofs.Common.{arith, ◌≡◌, ◌<◌, ◌∷◌, [], ◌++◌, length, List, ℕ, refl, sym, ap, subst, take, ◌∙◌, append_assoc}
use Rattle.std.specs.Prelude.{Some}
use Rattle.std.proofs.lemmas.List.{append-nil, take_all, length-map}
use Rattle.std.proofs.lemmas.Option.{slice_get_read}
use Rattle.half_edges.specs.Graph.{rotations_of}
use Rattle.half_edges.proofs.Numbers.{length-half_edges}
use Rattle.nest_base.specs.declared.numbers.Side.{Side}
use Rattle.face_nesting.specs.declared.cycles.CycleId.{CycleId}
use Rattle.face_nesting.specs.Cycles.{AreCyclesOf}
use Rattle.face_nesting.specs.Numbering.{cycle_numbers_of}
use Rattle.nest_base.specs.NumberLists.{side_numbers}
use Rattle.face_nesting.proofs.CycleRounds.{none_begun, none_told, first_untold, firsts_more, told_up_to}
use Rattle.face_nesting.proofs.cycles.cycles_of.Goals as goal
use Rattle.face_nesting.proofs.cycles.cycles_of.Goals.{then-not-index+in_ok-trace-2, else-not-index}

pub loop-first-init : goal.loop-first-init
loop-first-init c =
    let g = rotations_of c.args.graph.now in
    let cycles = c.in_ok-tracing.tracing.cycles in
    let e = c.in_ok-tracing.ensures in
    let empty : side_numbers cycles.sides.items ≡ [] = ap (λ (xs : List Side). side_numbers xs) e.empty in
    let numbers = length-map cycles.cycle_of.items (λ (r : CycleId). r.0) in
    record {
      cycles = none_begun g (cycle_numbers_of cycles.cycle_of.items) (side_numbers cycles.sides.items) cycles.starts.items (numbers ∙ e.cycle_of ∙ c.side_count-count.ensures.count) empty e.starts;
      told = none_told g c.in_ok-tracing.tracing.is_traced.items (side_numbers cycles.sides.items) (e.is_traced ∙ c.side_count-count.ensures.count) e.none_traced empty;
    }

pub trace-requires-clause-few : goal.trace-requires-clause-few
trace-requires-clause-few c = omega (arith, c.requires.plane_graph.few, length-half_edges c.args.graph.now.edges)

pub trace-requires-clause-untraced : goal.trace-requires-clause-untraced
trace-requires-clause-untraced c =
    let cycles = c.loop-first.tracing.cycles in
    first_untold (rotations_of c.args.graph.now) c.args.firsts.now c.loop-first.first-index (record { 0 = 0 }) (cycle_numbers_of cycles.cycle_of.items) (side_numbers cycles.sides.items) cycles.starts.items
    c.loop-first.tracing.is_traced.items c.requires.apart c.requires.within c.loop-first-test.true c.loop-first.invariant.cycles c.loop-first.invariant.told

pub loop-first-preserved : goal.loop-first-preserved
loop-first-preserved c =
    let cycles = c.trace.new.self.cycles in
    let more = firsts_more c.args.firsts.now c.loop-first.first-index (record { 0 = 0 }) c.loop-first-test.true in
    record {
      cycles = subst (λ (heads : List ℕ). AreCyclesOf (rotations_of c.args.graph.now) heads (cycle_numbers_of cycles.cycle_of.items) (side_numbers cycles.sides.items) cycles.starts.items) (sym more)
          (c.in_ok-trace.ensures.cycles (side_numbers (take c.loop-first.first-index c.args.firsts.now)) c.loop-first.invariant.cycles);
      told = c.in_ok-trace.ensures.told;
    }

pub loop-s-init : goal.loop-s-init
loop-s-init c =
    let cycles = c.loop-first.tracing.cycles in
    let firsts = c.args.firsts.now in
    let whole : side_numbers (take c.loop-first.first-index firsts) ≡ side_numbers firsts ++ [] =
    ap (λ (xs : List Side). side_numbers xs) (take_all c.loop-first.first-index firsts c.loop-first-test.false) ∙ sym (append-nil (side_numbers firsts)) in
    record {
      rest = [];
      cycles = subst (λ (heads : List ℕ). AreCyclesOf (rotations_of c.args.graph.now) heads (cycle_numbers_of cycles.cycle_of.items) (side_numbers cycles.sides.items) cycles.starts.items) whole
          c.loop-first.invariant.cycles;
      told = c.loop-first.invariant.told;
      behind = λ t less. absurd (omega (arith, less));
    }

pub trace-requires-then-not-index-clause-few : goal.trace-requires-then-not-index-clause-few
trace-requires-then-not-index-clause-few c = omega (arith, c.requires.plane_graph.few, length-half_edges c.args.graph.now.edges)

pub trace-requires-then-not-index-clause-untraced : goal.trace-requires-then-not-index-clause-untraced
trace-requires-then-not-index-clause-untraced c =
    let traced = c.loop-s.tracing.is_traced.items in
    let within : c.loop-s.s < length traced = omega (arith, c.loop-s-test.true, c.loop-s.invariant.told.as_many, c.side_count-count.ensures.count) in
    slice_get_read traced (length traced) c.loop-s.s c.index.result.now refl within c.index.ensures ∙ ap Some c.if-not-index.true

pub loop-s-preserved : goal.loop-s-preserved
loop-s-preserved c =
    let s = c.loop-s.invariant in
    let firsts = side_numbers c.args.firsts.now in
    let g = rotations_of c.args.graph.now in
    let traced = c.loop-s.tracing.is_traced.items in
    let within : c.loop-s.s < length traced = omega (arith, c.loop-s-test.true, s.told.as_many, c.side_count-count.ensures.count) in
    let read = slice_get_read traced (length traced) c.loop-s.s c.index.result.now refl within c.index.ensures in
    elim c.if-not-index.branch [
      | then-not-index+in_ok-trace-2 w ↦
          let e = w.in_ok-trace-2.ensures in
          let new = w.trace-then-not-index.new.self in
          rw w.tracing-is (record {
            rest = s.rest ++ c.loop-s.s ∷ [];
            cycles = subst (λ (heads : List ℕ). AreCyclesOf g heads (cycle_numbers_of new.cycles.cycle_of.items) (side_numbers new.cycles.sides.items) new.cycles.starts.items)
                (append_assoc firsts s.rest (c.loop-s.s ∷ [])) (e.cycles (firsts ++ s.rest) s.cycles);
            told = e.told;
            behind = told_up_to traced new.is_traced.items c.loop-s.s s.behind e.kept e.traced;
          })
      | else-not-index w ↦
          let has = read ∙ ap Some w.if-not-index.false in
          rw w.tracing-is (record {
            rest = s.rest;
            cycles = s.cycles;
            told = s.told;
            behind = told_up_to traced traced c.loop-s.s s.behind (λ t is. is) has;
          })
    ]

pub returns : goal.returns
returns c =
    let s = c.loop-s.invariant in
    record {
      rest = s.rest;
      are_cycles = s.cycles;
      all = λ t below. (s.told.told t).0 (s.behind t (omega (arith, below, c.loop-s-test.false, c.side_count-count.ensures.count)));
    }
