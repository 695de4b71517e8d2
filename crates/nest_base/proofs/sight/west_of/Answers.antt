use Rattle.std.proofs.Common.{arith, ◌≡◌, ◌<ℤ◌, ◌≤ℤ◌, ℤ, pos, IsTrue, to_z, of_z, ap, sym}
use Rattle.std.specs.Int.{w128}
use Rattle.std.specs.Int.Signed.{lt_z}
use Rattle.std.proofs.lemmas.Int.{ints}
use Rattle.nest_base.specs.declared.places.Point.{Point}
use Rattle.nest_base.specs.Plane.{HalfEdge}
use Rattle.nest_base.proofs.sight.west_of.Goals as goal

positive_told : (z : ℤ) → pos 0 <ℤ z → IsTrue (lt_z (pos 0) z)
positive_told z h = grind (arith, ints)

pub returns-then-d-p : goal.returns-then-d-p
returns-then-d-p c = record {
  met = (
    λ impossible. cc,
    λ m.
        let same = (c.downward-d.ensures.only m.0 m.1).1 in
        let low = m.2.lower_end in
        absurd (omega (arith, ints, ap (λ (q : Point). q.y) same, low)),
  );
}

pub returns-then-p-d : goal.returns-then-p-d
returns-then-p-d c = record {
  met = (
    λ impossible. cc,
    λ m.
        let same = (c.downward-d.ensures.only m.0 m.1).0 in
        let high = m.2.upper_end in
        absurd (omega (arith, ints, ap (λ (q : Point). q.y) same, high)),
  );
}

pub cross-requires-clause-o_within : goal.cross-requires-clause-o_within
cross-requires-clause-o_within c = (c.downward-d.ensures.within c.requires.e_within).0

pub cross-requires-clause-a_within : goal.cross-requires-clause-a_within
cross-requires-clause-a_within c = (c.downward-d.ensures.within c.requires.e_within).1

pub returns : goal.returns
returns c =
    let d : HalfEdge = record { from = c.downward-d.result.from; to = c.downward-d.result.to } in
    record {
      met = (
        λ yes.
            let low : d.to.y ≤ℤ c.args.p.y = omega (arith, ints) in
            let high : c.args.p.y <ℤ d.from.y = omega (arith, ints) in
            let east : pos 0 <ℤ c.cross.result = omega (arith, ints, yes) in
            (d, c.downward-d.ensures.down (omega (arith, ints, low, high)), record { lower_end = low; upper_end = high; is_east = rw c.cross.ensures at east }),
        λ m.
            let same = c.downward-d.ensures.only m.0 m.1 in
            let east = rw (same.0, same.1, sym c.cross.ensures) at m.2.is_east in
            let kept : to_z w128 (of_z w128 c.cross.result) ≡ c.cross.result = omega (arith, ints) in
            rw kept (positive_told c.cross.result east),
      );
    }
