use Rattle.std.proofs.Common.{arith, ◌≡◌, ℤ, ◌*ℤ◌, refl, rules, to_z, of_z, w64, FitsSigned, IsTrue, ◌↔◌}
use Rattle.std.proofs.lemmas.Int.{ints, to_z-of_z}
use Rattle.std.proofs.lemmas.Bool.{not-true, not-false, both_ways}
use Rattle.nest_base.specs.declared.places.Segment.{Segment}
use Rattle.nest_base.specs.Range.{IsNear, widest}
use Rattle.plate_edges.specs.Cuts.{IsParallel, IsFloor}
use Rattle.segment_split.specs.declared.meet.Rounded.{Rounded}
use Rattle.segment_split.specs.Meetings.{numerator_along, MeetAlong, CrossesNear}
use Rattle.segment_split.proofs.Crossings.{meets_at, crosses_near}
use Rattle.segment_split.proofs.meet.meeting_of.Goals.{After-rounded_along-y}
use Rattle.segment_split.proofs.meet.meeting_of.Goals as goal

-- a coordinate along a segment, from the bits of its ends
along_read : (from to part whole : ℤ) → IsNear widest from → IsNear widest to → numerator_along (to_z w64 (of_z w64 from)) (to_z w64 (of_z w64 to)) part whole ≡ numerator_along from to part whole
along_read from to part whole from_near to_near =
    let same_from : to_z w64 (of_z w64 from) ≡ from = omega (arith, ints) in
    let same_to : to_z w64 (of_z w64 to) ≡ to = omega (arith, ints) in
    rw (same_from, same_to) refl

-- what is said of a coordinate along a segment that was rounded, told by the bits of the ends
record IsRounded (from to part whole : ℤ) (r : Rounded) : Type 0 where
  down : IsFloor (numerator_along from to part whole) whole r.down
  exact : IsTrue r.is_exact ↔ (r.down *ℤ whole ≡ numerator_along from to part whole)

rounded_read : (from to part whole : ℤ) (r : Rounded) → IsNear widest from → IsNear widest to →
    IsFloor (numerator_along (to_z w64 (of_z w64 from)) (to_z w64 (of_z w64 to)) part whole) whole r.down →
    IsTrue r.is_exact ↔ (r.down *ℤ whole ≡ numerator_along (to_z w64 (of_z w64 from)) (to_z w64 (of_z w64 to)) part whole) →
    IsRounded from to part whole r
rounded_read from to part whole r from_near to_near down exact =
    let same = along_read from to part whole from_near to_near in
    record { down = rw same at down; exact = rw same at exact }

-- the crossing is no place where a coordinate isn't exact
crosses_read : (s t : Segment) (part whole : ℤ) (x y : Rounded) → FitsSigned w64 x.down → FitsSigned w64 y.down → MeetAlong s t part whole → (IsParallel s t → ⊥) →
    IsRounded s.a.x s.b.x part whole x → IsRounded s.a.y s.b.y part whole y → (IsTrue x.is_exact → IsTrue y.is_exact → ⊥) →
    CrossesNear s t (record { x = to_z w64 (of_z w64 x.down); y = to_z w64 (of_z w64 y.down) })
crosses_read s t part whole x y x_fits y_fits meets across x_is y_is inexact =
    rw (to_z-of_z w64 x.down x_fits, to_z-of_z w64 y.down y_fits)
    (crosses_near s t part whole (record { x = x.down; y = y.down }) meets across x_is.down y_is.down (λ exact. inexact (x_is.exact.1 exact.0) (y_is.exact.1 exact.1)))

-- both coordinates of the crossing, rounded; they fit, and the two lines aren't parallel
module _ (c : After-rounded_along-y) where
  x_fits : FitsSigned w64 c.rounded_along-x.result.down
  x_fits = search rules

  y_fits : FitsSigned w64 c.rounded_along-y.result.down
  y_fits = search rules

  across : IsParallel c.args.s.now c.args.t.now → ⊥
  across = search (rules, c.turn_from-turn.ensures, c.if-turn-eq0.false)

  x_rounded : IsRounded c.args.s.now.a.x c.args.s.now.b.x c.crossing_on-f.result.part c.crossing_on-f.result.whole c.rounded_along-x.result
  x_rounded =
      let s = c.args.s.now in
      let f = c.crossing_on-f.result in
      rounded_read s.a.x s.b.x f.part f.whole c.rounded_along-x.result c.requires.s_within.a.x c.requires.s_within.b.x c.rounded_along-x.ensures.down c.rounded_along-x.ensures.exact

  y_rounded : IsRounded c.args.s.now.a.y c.args.s.now.b.y c.crossing_on-f.result.part c.crossing_on-f.result.whole c.rounded_along-y.result
  y_rounded =
      let s = c.args.s.now in
      let f = c.crossing_on-f.result in
      rounded_read s.a.y s.b.y f.part f.whole c.rounded_along-y.result c.requires.s_within.a.y c.requires.s_within.b.y c.rounded_along-y.ensures.down c.rounded_along-y.ensures.exact

  off_lattice : (IsTrue c.rounded_along-x.result.is_exact → IsTrue c.rounded_along-y.result.is_exact → ⊥) →
      CrossesNear c.args.s.now c.args.t.now (record { x = to_z w64 (of_z w64 c.rounded_along-x.result.down); y = to_z w64 (of_z w64 c.rounded_along-y.result.down) })
  off_lattice inexact =
      let f = c.crossing_on-f.result in
      crosses_read c.args.s.now c.args.t.now f.part f.whole c.rounded_along-x.result c.rounded_along-y.result x_fits y_fits c.crossing_on-f.ensures across x_rounded y_rounded inexact

pub crossing_on-f-requires-clause-meet : goal.crossing_on-f-requires-clause-meet
crossing_on-f-requires-clause-meet c = c.if-not-share_point.ensures.found refl

pub returns-then-not-x : goal.returns-then-not-x
returns-then-not-x c =
    let x = c.rounded_along-x.result.is_exact in
    off_lattice (goal.at.returns-then-not-x c).After-rounded_along-y (λ exact_x _. both_ways x (not-true x c.if-not-x.true) exact_x)

pub returns-then-not-y : goal.returns-then-not-y
returns-then-not-y c =
    let y = c.rounded_along-y.result.is_exact in
    off_lattice (goal.at.returns-then-not-y c).After-rounded_along-y (λ _ exact_y. both_ways y (not-true y c.if-not-y.true) exact_y)

pub returns : goal.returns
returns c =
    let found = (goal.at.returns c).After-rounded_along-y in
    let f = c.crossing_on-f.result in
    let exact_x = (x_rounded found).exact.0 (not-false c.rounded_along-x.result.is_exact c.if-not-x.false) in
    let exact_y = (y_rounded found).exact.0 (not-false c.rounded_along-y.result.is_exact c.if-not-y.false) in
    rw (to_z-of_z w64 c.rounded_along-x.result.down (x_fits found), to_z-of_z w64 c.rounded_along-y.result.down (y_fits found))
    (across found, meets_at c.args.s.now c.args.t.now f.part f.whole (record { x = c.rounded_along-x.result.down; y = c.rounded_along-y.result.down }) c.crossing_on-f.ensures exact_x exact_y)

pub returns-then-turn-eq0 : goal.returns-then-turn-eq0
returns-then-turn-eq0 c =
    let line : IsParallel c.args.s.now c.args.t.now = search (rules, c.turn_from-turn.ensures, c.if-turn-eq0.true) in
    (line, c.if-not-share_point.ensures.found refl)
