use Rattle.std.proofs.Common.{ℕ, ◌<◌, length}
use Rattle.nest_base.specs.declared.numbers.Side.{Side}
use Rattle.std.proofs.lemmas.Option.{slice_get-get_or}
use Rattle.std.proofs.lemmas.List.Elements.{All-get_or}
use Rattle.half_edges.proofs.RotationNumbers.{NumbersRotation-none, NumbersRotation-more}
use Rattle.half_edges.proofs.layout.number_rotation.Goals as goal

pub loop-k-init : goal.loop-k-init
loop-k-init c = record {
  origins = NumbersRotation-none (λ (k : ℕ). c.args.v) c.args.rotation.now c.args.origins.now;
  positions = NumbersRotation-none (λ (k : ℕ). k) c.args.rotation.now c.args.positions.now;
}

pub loop-k-preserved : goal.loop-k-preserved
loop-k-preserved c = record {
  origins =
      NumbersRotation-more (λ (k : ℕ). c.args.v) c.args.rotation.now c.loop-k.k _ c.args.origins.now c.loop-k.origins c.requires.each_once (slice_get-get_or c.args.rotation.now c.loop-k.k _ c.loop-k-test.true)
      (All-get_or (λ (s : Side). s.0 < length c.args.origins.now) c.args.rotation.now c.loop-k.k _ c.loop-k-test.true c.requires.origins_long) c.loop-k.invariant.origins;
  positions =
      NumbersRotation-more (λ (k : ℕ). k) c.args.rotation.now c.loop-k.k _ c.args.positions.now c.loop-k.positions c.requires.each_once (slice_get-get_or c.args.rotation.now c.loop-k.k _ c.loop-k-test.true)
      (All-get_or (λ (s : Side). s.0 < length c.args.positions.now) c.args.rotation.now c.loop-k.k _ c.loop-k-test.true c.requires.positions_long) c.loop-k.invariant.positions;
}
