-- Each half-edge goes on with the run before it, or begins one.
use Rattle.std.proofs.Common.{arith, ◌≡◌, ◌⊎◌, ◌<◌, ℕ, List, length, refl, map, ℕ}
use Rattle.std.proofs.lemmas.List.{length-map}
use Rattle.std.proofs.lemmas.Option.{slice_get-get_or}
use Rattle.nest_base.specs.declared.numbers.Side.{Side}
use Rattle.nest_base.specs.declared.places.Point.{Point}
use Rattle.nest_base.specs.Order.{IsMarkedBefore}
use Rattle.half_edges.specs.Runs.{from_at}
use Rattle.half_edges.proofs.AllSides.{few_places, from_read, number_fits, from_not_after}
use Rattle.half_edges.proofs.Grouping.{AreRuns-goes_on, AreRuns-begins, AreAllRuns-from, begins_anew}
use Rattle.half_edges.proofs.PlaceNumbers.{inserted_last}
use Rattle.half_edges.proofs.layout.runs_of.Goals as goal
use Rattle.half_edges.proofs.layout.runs_of.Goals.{then-not-is_last+in_ok-insert+in_ok-push, else-not-is_last}

pub start_of-at-requires : goal.start_of-at-requires
start_of-at-requires c =
    number_fits c.args.edges.now c.args.all.now c.loop-k.k _ c.requires.all_round (slice_get-get_or c.args.all.now c.loop-k.k _ c.loop-k-test.true)

pub overflow_cast-k : goal.overflow_cast-k
overflow_cast-k c = let few = few_places c.args.edges.now c.args.all.now c.requires.few c.requires.all_round in omega arith

pub overflow_cast-all : goal.overflow_cast-all
overflow_cast-all c = let few = few_places c.args.edges.now c.args.all.now c.requires.few c.requires.all_round in omega arith

pub loop-k-preserved : goal.loop-k-preserved
loop-k-preserved c =
    let numbers : List ℕ = map (λ (t : Side). t.0) c.args.all.now in
    let at : ℕ → Point = from_at c.args.edges.now numbers in
    let here = from_read c.args.edges.now c.args.all.now c.loop-k.k _ c.start_of-at.result c.requires.all_round (slice_get-get_or c.args.all.now c.loop-k.k _ c.loop-k-test.true) c.start_of-at.ensures in
    let within : c.loop-k.k < length numbers = omega (arith, length-map c.args.all.now (λ (t : Side). t.0)) in
    elim c.if-not-is_last.branch [
      | then-not-is_last+in_ok-insert+in_ok-push w ↦
          let not_after : (j : ℕ) → j < c.loop-k.k → IsMarkedBefore (at j) (at c.loop-k.k) ⊎ (at j ≡ at c.loop-k.k) =
          λ j below. from_not_after c.requires.all_round j c.loop-k.k below within in
          let other = w.if-not-is_last.ensures.other refl in
          let fresh = begins_anew at c.loop-k.k c.start_of-at.result c.as_slice.result.now c.loop-k.places.keys c.loop-k.starts.items here c.as_slice.ensures.keys c.loop-k.invariant not_after other in
          rw (w.places-is, w.starts-is, w.in_ok-insert.ensures.keys, inserted_last c.start_of-at.result c.loop-k.places.keys fresh, w.in_ok-push.ensures.items)
          (AreRuns-begins at c.loop-k.k c.start_of-at.result c.as_slice.result.now c.loop-k.places.keys c.loop-k.starts.items here c.as_slice.ensures.keys c.loop-k.invariant not_after other)
      | else-not-is_last w ↦
          rw (w.places-is, w.starts-is)
          (AreRuns-goes_on at c.loop-k.k c.start_of-at.result c.as_slice.result.now c.loop-k.places.keys c.loop-k.starts.items here c.as_slice.ensures.keys c.loop-k.invariant
          (w.if-not-is_last.ensures.last refl))
    ]

pub returns : goal.returns
returns c =
    let numbers : List ℕ = map (λ (t : Side). t.0) c.args.all.now in
    let all_met : c.loop-k.k ≡ length c.args.all.now = omega arith in
    rw (c.in_ok-push-2.ensures.items, ← all_met)
    (AreAllRuns-from (from_at c.args.edges.now numbers) c.loop-k.k c.loop-k.places.keys c.loop-k.starts.items c.loop-k.invariant)
