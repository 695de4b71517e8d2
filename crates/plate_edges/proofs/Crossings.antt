-- Two crossings: one off the lattice, one on it.
use Rattle.std.proofs.Common.{arith, pos, [], ◌∷◌, inl, inr, ap, refl}
use Rattle.std.proofs.lemmas.Int.{ints}
use Rattle.nest_base.specs.declared.places.Point.{Point}
use Rattle.nest_base.specs.Plane.{RationalPoint, rational, IsAt, MeetIn}
use Rattle.nest_base.proofs.Lists.{Contains-head, Contains-later}
use Rattle.segment_meeting.proofs.OnePoint.{one_point, at_place}
use Rattle.plate_edges.specs.Cuts.{IsParallel, CrossesOffLattice, IsRoundedDown, IsSomeMeeting, IsCutPoint}
use Rattle.plate_edges.specs.Examples.{place, segment_of}

-- the point in which the segments of the first meet
abbrev between_places : RationalPoint
between_places = record { x = pos 20000; y = pos 14000; w = pos 9; positive = record { lt = tt } }

no_ninth : (q : Point) → IsAt between_places q → ⊥
no_ninth q at = omega (arith, ints, ap (λ (p : Point). p.x) at)

rounded_down : IsRoundedDown between_places (place 2222 1555)
rounded_down = record { x = (omega (arith, ints), omega (arith, ints)); y = (omega (arith, ints), omega (arith, ints)) }

steep_meets : MeetIn (segment_of 0 0 10000 7000) (segment_of 0 2000 10000 0) between_places
steep_meets = (
  record { on_line = refl; between_x = inl (omega (arith, ints), omega (arith, ints)); between_y = inl (omega (arith, ints), omega (arith, ints)) },
  record { on_line = refl; between_x = inl (omega (arith, ints), omega (arith, ints)); between_y = inr (omega (arith, ints), omega (arith, ints)) },
)

pub crosses_off_lattice : (c : CrossesOffLattice (segment_of 0 0 10000 7000) (segment_of 0 2000 10000 0)) × IsRoundedDown c.point (place 2222 1555)
crosses_off_lattice = (record { not_parallel = λ e. omega (arith, ints, e); point = between_places; meet = steep_meets; off_lattice = no_ninth }, rounded_down)

diagonals_meet : MeetIn (segment_of 0 0 10000 10000) (segment_of 0 10000 10000 0) (rational (place 5000 5000))
diagonals_meet = (
  record { on_line = refl; between_x = inl (omega (arith, ints), omega (arith, ints)); between_y = inl (omega (arith, ints), omega (arith, ints)) },
  record { on_line = refl; between_x = inl (omega (arith, ints), omega (arith, ints)); between_y = inr (omega (arith, ints), omega (arith, ints)) },
)

not_parallel : IsParallel (segment_of 0 0 10000 10000) (segment_of 0 10000 10000 0) → ⊥
not_parallel e = omega (arith, ints, e)

pub diagonals_on_lattice : CrossesOffLattice (segment_of 0 0 10000 10000) (segment_of 0 10000 10000 0) → ⊥
diagonals_on_lattice c =
    c.off_lattice (place 5000 5000) (at_place c.point (place 5000 5000)
    (one_point (segment_of 0 0 10000 10000) (segment_of 0 10000 10000 0) not_parallel c.point (rational (place 5000 5000)) c.meet diagonals_meet))

-- the diagonals cut each other
diagonals_cut : IsSomeMeeting (segment_of 0 0 10000 10000 ∷ segment_of 0 10000 10000 0 ∷ []) (place 5000 5000)
diagonals_cut =
    let s = segment_of 0 0 10000 10000 in
    let t = segment_of 0 10000 10000 0 in
    (s, t, Contains-head s (t ∷ []), Contains-later s t (t ∷ []) (Contains-head t []), not_parallel, diagonals_meet)

pub first_diagonal : IsCutPoint (segment_of 0 0 10000 10000 ∷ segment_of 0 10000 10000 0 ∷ []) (segment_of 0 0 10000 10000) (place 5000 5000)
first_diagonal = (diagonals_meet.0, inr diagonals_cut)

pub second_diagonal : IsCutPoint (segment_of 0 0 10000 10000 ∷ segment_of 0 10000 10000 0 ∷ []) (segment_of 0 10000 10000 0) (place 5000 5000)
second_diagonal = (diagonals_meet.1, inr diagonals_cut)

-- a segment is cut where another ends on it
pub joint : IsCutPoint (segment_of 0 0 10000 0 ∷ segment_of 5000 0 5000 8000 ∷ []) (segment_of 0 0 10000 0) (place 5000 0)
joint =
    let s = segment_of 0 0 10000 0 in
    let t = segment_of 5000 0 5000 8000 in (
      record { on_line = refl; between_x = inl (omega (arith, ints), omega (arith, ints)); between_y = inl (omega (arith, ints), omega (arith, ints)) },
      inl (t, Contains-later s t (t ∷ []) (Contains-head t []), inl refl),
    )
