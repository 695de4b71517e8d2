-- The lists of a nesting: how long they are, and where cycles begin.
use Rattle.std.proofs.Common.{arith, ◌≡◌, ℕ, ◌+◌, ◌-◌, ◌<◌, ◌≤◌, List, Option, length, length-append}
use Rattle.std.proofs.lemmas.Option.{slice_get_within}
use Rattle.std.proofs.lemmas.Slice.Zip.{AllZip-long}
use Rattle.nest_base.specs.Limits.{most_half_edges}
use Rattle.half_edges.specs.Graph.{Graph, rotations_of}
use Rattle.nest_base.proofs.ListReads.{read_below}
use Rattle.face_nesting.specs.Cycles.{IsCycleFrom}
use Rattle.face_nesting.specs.Nesting.{IsNesting}
use Rattle.face_nesting.proofs.CycleLists.{starts_long}
use Rattle.face_nesting.proofs.CycleMembers.{heads, cycles, few_cycles}
use Rattle.face_nesting.proofs.Zips.{zip_first}
use Rattle.face_nesting.proofs.KnownGraph.{few_sides}
use Rattle.face_nesting.proofs.FoundCycles.{AreFound, as_many_mark_sides}
use Rattle.face_nesting.proofs.CycleSlices.{IsSlice, slice_at}

module _ {graph : Graph} {mark_sides cycle_of sides starts : List ℕ} {sights : List (Option ℕ)} (found : AreFound graph mark_sides cycle_of sides starts sights) where
  -- there are at least as many cycles as components, and few
  pub enough_cycles : length graph.marks ≤ length (cycles found.are_cycles)
  enough_cycles =
      omega (arith, as_many_mark_sides found, length-append mark_sides found.are_cycles.rest, AllZip-long (IsCycleFrom (rotations_of graph)) (heads found.are_cycles) (cycles found.are_cycles) found.are_cycles.are_cycles.each)

  pub starts_of_cycles : length starts ≡ length (cycles found.are_cycles) + 1
  starts_of_cycles = starts_long found.are_cycles.are_cycles

  pub cycles_within : length (cycles found.are_cycles) ≤ most_half_edges
  cycles_within = omega (arith, few_cycles found.are_cycles, few_sides found.known)

  -- a cycle of a component isn't empty
  slice_of : (c : ℕ) → c < length graph.marks → (cycle : List ℕ) × IsSlice sides starts c cycle × (0 < length cycle)
  slice_of c below =
      let cycle = read_below (cycles found.are_cycles) c (omega (arith, below, enough_cycles)) in
      let head = zip_first (IsCycleFrom (rotations_of graph)) (heads found.are_cycles) (cycles found.are_cycles) c cycle.0 found.are_cycles.are_cycles.each cycle.1 in
      (cycle.0, slice_at sides starts (cycles found.are_cycles) c cycle.0 found.are_cycles.are_cycles.are_sides found.are_cycles.are_cycles.are_starts cycle.1, slice_get_within cycle.0 0 head.0 head.2.begins)

  pub is_nesting : (faces : List ℕ) (count : ℕ) (ranks : List ℕ) (parents : List (Option ℕ)) → length ranks ≡ count → count ≡ length starts - 1 - length mark_sides + 1 → length parents ≡ length graph.marks →
      IsNesting (record { faces = faces; count = count; ranks = ranks; parents = parents; sides = sides; starts = starts })
  is_nesting faces count ranks parents ranked is as_many = record {
    some = omega (arith, is);
    fits = omega (arith, is, starts_of_cycles, cycles_within);
    ranked = ranked;
    cycles = omega (arith, as_many, starts_of_cycles, enough_cycles);
    rising = λ c below.
        let here = slice_of c (omega (arith, below, as_many)) in
        omega (arith, here.1.begins, here.1.ends, here.2);
    within = λ c below.
        let here = slice_of c (omega (arith, below, as_many)) in
        omega (arith, here.1.ends, here.1.within);
  }
