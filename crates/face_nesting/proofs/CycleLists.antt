-- Lists of cycles: where each begins, how many there are, and in which of them a half-edge stands.
use Rattle.std.proofs.Common.{arith, ◌≡◌, inl, inr, ℕ, zero, suc, ◌+◌, ◌<◌, ◌≤◌, List, [], ◌∷◌, ◌++◌, length, refl, sym, ap, subst, ◌∙◌, length-append}
use Rattle.std.specs.Prelude.{Contains, Some, slice_get, flat_map}
use Rattle.std.specs.List.{AllZip}
use Rattle.std.proofs.lemmas.List.Concat.{flat_map-cons}
use Rattle.std.proofs.lemmas.List.Elements.{All-contains, Contains-append_left, Contains-append_right, Contains-append_cases}
use Rattle.std.proofs.lemmas.Option.{none-some, same_Some, slice_get_within}
use Rattle.nest_base.proofs.Lists.{Contains-none, All-from_contains}
use Rattle.rotation_systems.specs.RotationSystem.{RotationSystem, IsRotationSystem, along}
use Rattle.half_edges.proofs.Fewer.{few_below}
use Rattle.nest_base.proofs.ListReads.{Contains-from_read}
use Rattle.face_nesting.specs.Cycles.{IsCycleFrom, AreCyclesOf, OnOneCycle, offsets}
use Rattle.face_nesting.proofs.Zips.{zip_first}
use Rattle.face_nesting.proofs.CycleSteps.{cycle_before, cycle_walk}

-- all half-edges of cycles, one cycle behind the other
abbrev pub joined : List (List ℕ) → List ℕ
joined cycles = flat_map (λ cycle. cycle) cycles

pub joined-cons : (cycle : List ℕ) (cycles : List (List ℕ)) → joined (cycle ∷ cycles) ≡ cycle ++ joined cycles
joined-cons cycle cycles = flat_map-cons (λ (xs : List ℕ). xs) cycle cycles

pub length-offsets : (n : ℕ) (cycles : List (List ℕ)) → length (offsets n cycles) ≡ length cycles + 1
length-offsets n [] = refl
length-offsets n (cycle ∷ cycles) = omega (arith, length-offsets (n + length cycle) cycles)

pub offsets_more : (n : ℕ) (cycles : List (List ℕ)) (cycle : List ℕ) → offsets n (cycles ++ cycle ∷ []) ≡ offsets n cycles ++ (n + length (joined cycles ++ cycle)) ∷ []
offsets_more n [] cycle = refl
offsets_more n (first ∷ cycles) cycle =
    let long : n + length first + length (joined cycles ++ cycle) ≡ n + length (joined (first ∷ cycles) ++ cycle) =
    omega (arith, length-append (joined cycles) cycle, length-append (joined (first ∷ cycles)) cycle, ap length (joined-cons first cycles), length-append first (joined cycles)) in
    ap (λ (ns : List ℕ). n ∷ ns) (offsets_more (n + length first) cycles cycle) ∙ ap (λ m. n ∷ (offsets (n + length first) cycles ++ m ∷ [])) long

-- a half-edge of cycles stands in one of them
pub joined_read : (cycles : List (List ℕ)) (s : ℕ) → Contains (joined cycles) s → (r : ℕ) × (cycle : List ℕ) × (slice_get cycles r ≡ Some cycle) × Contains cycle s
joined_read [] s stands = absurd (Contains-none s stands)
joined_read (cycle ∷ cycles) s stands = elim (Contains-append_cases cycle (joined cycles) s (subst (λ xs. Contains xs s) (joined-cons cycle cycles) stands)) [
  | inl here ↦ (0, cycle, refl, here)
  | inr later ↦ let rest = joined_read cycles s later in (suc rest.0, rest.1, rest.2, rest.3)
]

pub joined_holds : (cycles : List (List ℕ)) (r : ℕ) (cycle : List ℕ) (s : ℕ) → slice_get cycles r ≡ Some cycle → Contains cycle s → Contains (joined cycles) s
joined_holds [] r cycle s at stands = absurd (none-some cycle at)
joined_holds (first ∷ cycles) zero cycle s at stands =
    subst (λ xs. Contains xs s) (sym (joined-cons first cycles)) (Contains-append_left first (joined cycles) s (subst (λ xs. Contains xs s) (sym (same_Some first cycle at)) stands))
joined_holds (first ∷ cycles) (suc r) cycle s at stands =
    subst (λ xs. Contains xs s) (sym (joined-cons first cycles)) (Contains-append_right first (joined cycles) s (joined_holds cycles r cycle s at stands))

-- no cycle is empty
pub cycles_few : (g : RotationSystem) (heads : List ℕ) (cycles : List (List ℕ)) → AllZip (IsCycleFrom g) heads cycles → length cycles ≤ length (joined cycles)
cycles_few g heads [] zip = omega arith
cycles_few g [] (cycle ∷ cycles) zip = absurd zip
cycles_few g (head ∷ heads) (cycle ∷ cycles) zip =
    omega (arith, cycles_few g heads cycles zip.1, slice_get_within cycle 0 head zip.0.begins, ap length (joined-cons cycle cycles), length-append cycle (joined cycles))

-- the cycle of a half-edge
pub record StandsInCycle (g : RotationSystem) (heads sides : List ℕ) (s : ℕ) : Type 0 where
  pub head : ℕ
  pub cycle : List ℕ
  pub is_head : Contains heads head
  pub is_cycle : IsCycleFrom g head cycle
  pub stands : Contains cycle s
  pub held : (t : ℕ) → Contains cycle t → Contains sides t

module _ {g : RotationSystem} {heads cycle_of sides starts : List ℕ} (are : AreCyclesOf g heads cycle_of sides starts) where
  pub cycle_at : (s : ℕ) → Contains sides s → StandsInCycle g heads sides s
  cycle_at s stands =
      let read = joined_read are.cycles s (subst (λ xs. Contains xs s) are.are_sides stands) in
      let head = zip_first (IsCycleFrom g) heads are.cycles read.0 read.1 are.each read.2 in
      record {
        head = head.0;
        cycle = read.1;
        is_head = Contains-from_read heads read.0 head.0 head.1;
        is_cycle = head.2;
        stands = read.3;
        held = λ t in_cycle. subst (λ xs. Contains xs t) (sym are.are_sides) (joined_holds are.cycles read.0 read.1 t read.2 in_cycle);
      }

  -- what goes along to a half-edge of cycles stands in one too
  pub cycles_before : IsRotationSystem g → (t : ℕ) → t < g.sides → Contains sides (along g t) → Contains sides t
  cycles_before known t below stands =
      let at = cycle_at (along g t) stands in
      let within = All-from_contains (λ s. s < g.sides) at.cycle (λ s in_cycle. All-contains (λ s. s < g.sides) sides s are.within (at.held s in_cycle)) in
      at.held t (cycle_before known at.head at.cycle t at.is_cycle within below at.stands)

  -- one of the first half-edges leads to it along a cycle
  pub head_leads : (s : ℕ) → Contains sides s → (head : ℕ) × Contains heads head × OnOneCycle g head s
  head_leads s stands =
      let at = cycle_at s stands in
      (at.head, at.is_head, cycle_walk g at.head at.cycle s at.is_cycle at.stands)

  pub sides_few : length sides ≤ g.sides
  sides_few = few_below g.sides sides are.within are.once

  pub starts_long : length starts ≡ length are.cycles + 1
  starts_long = ap length are.are_starts ∙ length-offsets 0 are.cycles

  pub starts_few : length starts ≤ length sides + 1
  starts_few = omega (arith, starts_long, cycles_few g heads are.cycles are.each, ap length are.are_sides)
