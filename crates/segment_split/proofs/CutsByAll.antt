-- At which places segments cut one of them.
use Rattle.std.proofs.Common.{arith, ◌≡◌, ℕ, ◌+◌, ◌*◌, ◌<◌, ◌⊎◌, ◌↔◌, inl, inr, pos, ◌*ℤ◌, List, [], ◌∷◌, ◌++◌, length, take, get_or, subst, sym}
use Rattle.std.specs.Prelude.{Contains}
use Rattle.std.proofs.lemmas.Int.{ints}
use Rattle.std.proofs.lemmas.List.{take_more}
use Rattle.std.proofs.lemmas.List.Elements.{Contains-append_left, Contains-push, Contains-push_cases}
use Rattle.nest_base.specs.declared.places.Point.{Point}
use Rattle.nest_base.specs.declared.places.Segment.{Segment}
use Rattle.nest_base.specs.Plane.{rational, direction, cross_product, IsOn, MeetIn}
use Rattle.nest_base.proofs.Directions.{cross_product-turned}
use Rattle.nest_base.proofs.Points.{same_place}
use Rattle.plate_edges.specs.Cuts.{HasLength, IsParallel, IsCutPoint}
use Rattle.segment_meeting.proofs.Factors.{same_or_not, same_unless, zero_factor}
use Rattle.segment_meeting.proofs.OnePoint.{across_x, across_y, times_zero}
use Rattle.segment_split.specs.CutPoints.{IsCutBy, AddsPlaces}
use Rattle.segment_split.proofs.AddedPlaces.{adds_then}

-- one of the segments cuts s at q
abbrev pub IsCutByOne : List Segment → Segment → Point → Type 0
IsCutByOne segments s q = (t : Segment) × Contains segments t × IsCutBy s t q

-- segments that are parallel to one that has length are parallel
parallel_too : (s t u : Segment) → HasLength s → IsParallel s t → IsParallel s u → IsParallel t u
parallel_too s t u long first second =
    let d = direction s.a s.b in
    let e = direction t.a t.b in
    let f = direction u.a u.b in
    let e_d : cross_product e d ≡ pos 0 = cross_product-turned d e first in
    let f_d : cross_product f d ≡ pos 0 = cross_product-turned d f second in
    let over_x : cross_product e f *ℤ d.x ≡ pos 0 = omega (arith, ints, across_x e f d, times_zero f.x (cross_product e d) e_d, times_zero e.x (cross_product f d) f_d) in
    let over_y : cross_product e f *ℤ d.y ≡ pos 0 = omega (arith, ints, across_y e f d, times_zero f.y (cross_product e d) e_d, times_zero e.y (cross_product f d) f_d) in
    same_unless (cross_product e f) (pos 0)
    (λ turned.
    let level = zero_factor (cross_product e f) d.x turned over_x in
    let upright = zero_factor (cross_product e f) d.y turned over_y in
    long (same_place (omega (arith, ints, level)) (omega (arith, ints, upright))))

-- of two segments that aren't parallel, one isn't parallel to s
meeting_is_by_one : (segments : List Segment) (s t u : Segment) (q : Point) → HasLength s → Contains segments t → Contains segments u → (IsParallel t u → ⊥) →
    IsOn (rational q) s.a s.b → MeetIn t u (rational q) → IsCutByOne segments s q
meeting_is_by_one segments s t u q long t_among u_among turned on meet = elim (same_or_not (cross_product (direction s.a s.b) (direction t.a t.b)) (pos 0)) [
  | inl along ↦ (u, u_among, (on, inr ((λ other. turned (parallel_too s t u long along other)), (on, meet.1))))
  | inr across ↦ (t, t_among, (on, inr (across, (on, meet.0))))
]

-- at a cut point of a segment one of them cuts it
pub cut_is_by_one : (segments : List Segment) (s : Segment) → HasLength s → (q : Point) → IsCutPoint segments s q → IsCutByOne segments s q
cut_is_by_one segments s long q (on, inl (t, among, end)) = (t, among, (on, inl end))
cut_is_by_one segments s long q (on, inr (t, u, t_among, u_among, turned, meet)) = meeting_is_by_one segments s t u q long t_among u_among turned on meet

-- and where they cut it is a cut point
pub by_one_is_cut : (segments : List Segment) (s : Segment) → Contains segments s → (q : Point) → IsCutByOne segments s q → IsCutPoint segments s q
by_one_is_cut segments s among q (t, found, (on, inl end)) = (on, inl (t, found, end))
by_one_is_cut segments s among q (t, found, (on, inr (turned, meet))) = (on, inr (s, t, among, found, turned, meet))

-- one segment more cuts at its own places
cut_by_more : (segments : List Segment) (s t : Segment) (q : Point) → IsCutByOne (segments ++ t ∷ []) s q ↔ (IsCutByOne segments s q ⊎ IsCutBy s t q)
cut_by_more segments s t q = (to, from)
  where
    to : IsCutByOne (segments ++ t ∷ []) s q → IsCutByOne segments s q ⊎ IsCutBy s t q
    to (u, found, cut) = elim (Contains-push_cases segments t u found) [ inl before ↦ inl (u, before, cut) | inr same ↦ inr (subst (λ v. IsCutBy s v q) (sym same) cut) ]

    from : IsCutByOne segments s q ⊎ IsCutBy s t q → IsCutByOne (segments ++ t ∷ []) s q
    from (inl (u, found, cut)) = (u, Contains-append_left segments (t ∷ []) u found, cut)
    from (inr cut) = (t, Contains-push segments t, cut)

-- so where places of one segment more were added, these are all places at which those in front cut
pub cuts_more : (segments : List Segment) (s : Segment) (i : ℕ) (d : Segment) (before after : List Point) → i < length segments →
    AddsPlaces (IsCutByOne (take i segments) s) (2 * i) [] before → AddsPlaces (IsCutBy s (get_or segments i d)) 2 before after →
    AddsPlaces (IsCutByOne (take (i + 1) segments) s) (2 * (i + 1)) [] after
cuts_more segments s i d before after within first next =
    let all = adds_then (IsCutByOne (take i segments) s) (IsCutBy s (get_or segments i d)) (IsCutByOne (take i segments ++ get_or segments i d ∷ []) s) (2 * i) 2 [] before after
    first next (cut_by_more (take i segments) s (get_or segments i d)) in
    rw (take_more segments i d within) (record { are_all = all.are_all; few = omega (arith, all.few) })
