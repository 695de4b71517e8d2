use Rattle.std.proofs.Common.{arith, rules, ◌≡◌, ℕ, ◌+◌, ◌-◌, ◌<◌, ◌≤◌, List, length, get_or, map, take, drop, refl}
use Rattle.std.proofs.lemmas.List.{take-map, drop-map}
use Rattle.std.proofs.lemmas.Option.{slice_get_read}
use Rattle.std.specs.Prelude.{Some, slice_get}
use Rattle.nest_base.specs.declared.numbers.Side.{Side}
use Rattle.nest_base.specs.declared.places.Edge.{Edge}
use Rattle.nest_base.specs.declared.places.Point.{Point}
use Rattle.half_edges.specs.declared.layout.Layout.{Layout}
use Rattle.half_edges.specs.Layouts.{BeginsAt, IsRotationAt}
use Rattle.half_edges.specs.Floods.{IsLaidOut}
use Rattle.nest_base.specs.NumberLists.{side_numbers}
use Rattle.nest_base.proofs.NumberLists.{length-side_numbers}
use Rattle.half_edges.proofs.Neighbours.{rotation_within, rotation_cut}
use Rattle.half_edges.proofs.components.rotation_of.Goals as goal

-- the two places that are read
record AreRead (layout : Layout) (v first behind : ℕ) : Type 0 where
  within : v < length layout.places.keys
  begins : first ≡ get_or layout.starts.items v first
  ends : behind ≡ get_or layout.starts.items (v + 1) behind

first_at : (layout : Layout) (all : List Side) (edges : List Edge) (v first behind : ℕ) → IsLaidOut layout all edges → AreRead layout v first behind →
    BeginsAt layout.starts.items v first
first_at layout all edges v first behind lay r = slice_get_read layout.starts.items (length layout.starts.items) v first refl (omega (arith, lay.one_more, r.within)) r.begins

behind_at : (layout : Layout) (all : List Side) (edges : List Edge) (v first behind : ℕ) → IsLaidOut layout all edges → AreRead layout v first behind →
    BeginsAt layout.starts.items (v + 1) behind
behind_at layout all edges v first behind lay r =
    slice_get_read layout.starts.items (length layout.starts.items) (v + 1) behind refl (omega (arith, lay.one_more, r.within)) r.ends

bounds : (layout : Layout) (all : List Side) (edges : List Edge) (v first behind : ℕ) → IsLaidOut layout all edges → AreRead layout v first behind →
    (first ≤ behind) × (behind ≤ length all)
bounds layout all edges v first behind lay r =
    let w = rotation_within edges layout.places.keys _ _ layout.starts.items v first behind lay r.within (first_at layout all edges v first behind lay r) (behind_at layout all edges v first behind lay r) in
    (w.0, omega (arith, w.1, length-side_numbers all))

rotation_component : (layout : Layout) (all : List Side) (edges : List Edge) (v first behind : ℕ) (p : Point) → IsLaidOut layout all edges → AreRead layout v first behind →
    slice_get layout.places.keys v ≡ Some p →
    IsRotationAt edges p (side_numbers (take (behind - first) (drop first all))) 0 (length (side_numbers (take (behind - first) (drop first all))))
rotation_component layout all edges v first behind p lay r at =
    let number : Side → ℕ = λ s. s.0 in
    let rotation = rotation_cut edges p (map number all) first behind (lay.rotations v first behind p at (first_at layout all edges v first behind lay r) (behind_at layout all edges v first behind lay r)) in
    rw (← take-map number (behind - first) (drop first all), ← drop-map number first all) rotation

pub slice_bounds-result-count : goal.slice_bounds-result-count
slice_bounds-result-count c =
    (bounds c.args.layout.now c.args.all.now c.requires.known.0 c.args.v.0 c.index.result.now c.index-2.result.now c.requires.known.1
    (record { within = c.requires.vertex; begins = c.index.ensures; ends = c.index-2.ensures })).0

pub slice_bounds-result-start : goal.slice_bounds-result-start
slice_bounds-result-start c =
    let w = bounds c.args.layout.now c.args.all.now c.requires.known.0 c.args.v.0 c.index.result.now c.index-2.result.now c.requires.known.1
    (record { within = c.requires.vertex; begins = c.index.ensures; ends = c.index-2.ensures }) in
    let less = w.0 in
    let within = w.1 in
    search rules

pub slice_bounds-result-end : goal.slice_bounds-result-end
slice_bounds-result-end c =
    let w = bounds c.args.layout.now c.args.all.now c.requires.known.0 c.args.v.0 c.index.result.now c.index-2.result.now c.requires.known.1
    (record { within = c.requires.vertex; begins = c.index.ensures; ends = c.index-2.ensures }) in
    let less = w.0 in
    let within = w.1 in
    search rules

pub returns : goal.returns
returns c = λ edges lay p at. rotation_component c.args.layout.now c.args.all.now edges c.args.v.0 c.index.result.now c.index-2.result.now p lay
    (record { within = c.requires.vertex; begins = c.index.ensures; ends = c.index-2.ensures }) at
