-- A chain stands between where the one before it ends and its own end.
use Rattle.std.proofs.Common.{arith, rules, ◌≡◌, ◌≤◌, ◌<◌, ◌-◌, ℕ, List, length, get_or, take, drop, sym, ap, ◌∙◌}
use Rattle.std.specs.Prelude.{Some, slice_get}
use Rattle.std.proofs.lemmas.List.{length-take-le, length-drop}
use Rattle.nest_base.specs.declared.numbers.Side.{Side}
use Rattle.nest_base.specs.NumberLists.{side_numbers}
use Rattle.face_nesting.proofs.NumbersOf.{side_numbers-between}
use Rattle.oe_cover.specs.Pieces.{AreEnds, begins_at, pieces}
use Rattle.oe_cover.proofs.Pieces.{length-pieces, piece_at, piece_within}
use Rattle.oe_cover.proofs.plan.Plan.chain.Goals as goal
use Rattle.oe_cover.proofs.plan.Plan.chain.Goals.{After-index}

-- a plan, and the chain at a place of it
record IsRead (sides : List Side) (ends : List ℕ) (chains : List (List ℕ)) (i first behind : ℕ) : Type 0 where
  is_plan : pieces (side_numbers sides) 0 ends ≡ chains
  are_ends : AreEnds 0 ends (length sides)
  within : i < length chains
  begins : first ≡ begins_at 0 ends i
  ends_there : behind ≡ get_or ends i behind

as_many : (sides : List Side) (ends : List ℕ) (chains : List (List ℕ)) → pieces (side_numbers sides) 0 ends ≡ chains → length ends ≡ length chains
as_many sides ends chains is = sym (length-pieces (side_numbers sides) 0 ends) ∙ ap length is

bounds : {sides : List Side} {ends : List ℕ} {chains : List (List ℕ)} {i first behind : ℕ} → IsRead sides ends chains i first behind →
    (first < behind) × (behind ≤ length sides)
bounds {sides} {ends} {chains} {i} {first} {behind} r =
    let w = piece_within 0 ends (length sides) i behind r.are_ends (omega (arith, r.within, as_many sides ends chains r.is_plan)) in
    (omega (arith, w.0, r.begins, r.ends_there), omega (arith, w.1, r.ends_there))

reads : {sides : List Side} {ends : List ℕ} {chains : List (List ℕ)} {i first behind : ℕ} → IsRead sides ends chains i first behind →
    slice_get chains i ≡ Some (side_numbers (take (behind - first) (drop first sides)))
reads {sides} {ends} {chains} {i} {first} {behind} r =
    let at = piece_at (side_numbers sides) 0 ends i behind (omega (arith, r.within, as_many sides ends chains r.is_plan)) in
    ap (λ cs. slice_get cs i) (sym r.is_plan) ∙ at
    ∙ ap Some (ap (λ b. take (get_or ends i behind - b) (drop b (side_numbers sides))) (sym r.begins) ∙ ap (λ e. take (e - first) (drop first (side_numbers sides))) (sym r.ends_there) ∙ sym (side_numbers-between sides first behind))

holds_something : {sides : List Side} {ends : List ℕ} {chains : List (List ℕ)} {i first behind : ℕ} → IsRead sides ends chains i first behind →
    0 < length (take (behind - first) (drop first sides))
holds_something {sides} {ends} {chains} {i} {first} {behind} r =
    let w = bounds r in
    omega (arith, w.0, w.1, length-take-le (behind - first) (drop first sides) (omega (arith, w.0, w.1, length-drop first sides)))

pub beginning-first-requires : goal.beginning-first-requires
beginning-first-requires c =
    omega (arith, c.requires, as_many c.self.inside.sides.items c.self.inside.ends.items c.args.self.now c.self.view_is, ap length c.deref.ensures.value)

pub index-requires : goal.index-requires
index-requires c = omega (arith, c.requires, as_many c.self.inside.sides.items c.self.inside.ends.items c.args.self.now c.self.view_is)

-- what is read
known : (c : After-index) → IsRead c.self.inside.sides.items c.self.inside.ends.items c.args.self.now c.args.index c.beginning-first.result c.index.result.now
known c = record {
  is_plan = c.self.view_is;
  are_ends = c.self.invariant;
  within = c.requires;
  begins = c.beginning-first.ensures ∙ ap (λ ends. begins_at 0 ends c.args.index) c.deref.ensures.value;
  ends_there = c.index.ensures;
}

pub offset_bounds-deref-first : goal.offset_bounds-deref-first
offset_bounds-deref-first c =
    let w = bounds (known (goal.at.offset_bounds-deref-first c).After-index) in
    omega (arith, w.0, w.1, ap length c.deref-2.ensures.value)

pub slice_bounds-result-count : goal.slice_bounds-result-count
slice_bounds-result-count c =
    let w = bounds (known (goal.at.slice_bounds-result-count c).After-index) in
    omega (arith, w.0)

pub slice_bounds-result-start : goal.slice_bounds-result-start
slice_bounds-result-start c =
    let w = bounds (known (goal.at.slice_bounds-result-start c).After-index) in
    let less = w.0 in
    let within = w.1 in
    search rules

pub slice_bounds-result-end : goal.slice_bounds-result-end
slice_bounds-result-end c =
    let w = bounds (known (goal.at.slice_bounds-result-end c).After-index) in
    let less = w.0 in
    let within = w.1 in
    search rules

pub returns-clause-chain : goal.returns-clause-chain
returns-clause-chain c = rw c.deref-2.ensures.value (reads (known (goal.at.returns-clause-chain c).After-index))

pub returns-clause-some : goal.returns-clause-some
returns-clause-some c = rw c.deref-2.ensures.value (holds_something (known (goal.at.returns-clause-some c).After-index))
