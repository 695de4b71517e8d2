-- What the steps of a tracing write.
use Rattle.std.proofs.Common.{arith, ◌≡◌, ◌≢◌, ℕ, ◌+◌, ◌<◌, ◌≤◌, List, [], ◌∷◌, ◌++◌, Bool, true, length, length-append, set, sym, ap, subst, ◌∙◌}
use Rattle.std.specs.Prelude.{Contains}
use Rattle.std.proofs.lemmas.List.Elements.{Contains-append_left}
use Rattle.std.proofs.lemmas.List.{map-set, length_push}
use Rattle.nest_base.specs.declared.numbers.Side.{Side}
use Rattle.rotation_systems.specs.RotationSystem.{RotationSystem, IsRotationSystem, along}
use Rattle.face_nesting.specs.declared.cycles.CycleId.{CycleId}
use Rattle.face_nesting.specs.Numbering.{cycle_numbers_of}
use Rattle.nest_base.specs.NumberLists.{side_numbers}
use Rattle.nest_base.proofs.NumberLists.{side_numbers-push, length-side_numbers}
use Rattle.face_nesting.specs.Cycles.{AreCyclesOf}
use Rattle.face_nesting.proofs.CycleFound.{cycle_found, first_found}
use Rattle.half_edges.proofs.Fewer.{few_below}
use Rattle.face_nesting.proofs.CycleTracing.{IsTracing, traced_on, traced_new}

pub cycle_numbers_of-set : (cycles : List CycleId) (s : ℕ) (r : CycleId) → cycle_numbers_of (set cycles s r) ≡ set (cycle_numbers_of cycles) s r.0
cycle_numbers_of-set cycles s r = map-set (λ (q : CycleId). q.0) cycles s r

module _ {g : RotationSystem} (known : IsRotationSystem g) {old_sides old_cycle_of : List ℕ} {first : ℕ} (r : CycleId) (s t : Side) (sides more : List Side) (cycle_of : List CycleId) {traced : List Bool}
    (is : IsTracing g old_sides old_cycle_of first r.0 s.0 (side_numbers sides) (cycle_numbers_of cycle_of) traced) (new : Contains (side_numbers sides) s.0 → ⊥)
    (pushed : more ≡ sides ++ s ∷ []) (next : t.0 ≡ along g s.0) where
  pushed_numbers : side_numbers more ≡ side_numbers sides ++ s.0 ∷ []
  pushed_numbers = ap (λ (xs : List Side). side_numbers xs) pushed ∙ side_numbers-push sides s

  pub written_on : IsTracing g old_sides old_cycle_of first r.0 t.0 (side_numbers more) (cycle_numbers_of (set cycle_of s.0 r)) (set traced s.0 true)
  written_on = rw (next, pushed_numbers, cycle_numbers_of-set cycle_of s.0 r) (traced_on known is new)

  pub written_new : ((u : ℕ) → u < g.sides → Contains old_sides (along g u) → Contains old_sides u) → t.0 ≢ first → Contains (side_numbers more) t.0 → ⊥
  written_new closed other stands = traced_new known is new closed (λ same. other (next ∙ same)) (rw (next, pushed_numbers) at stands)

  -- one more, and never more than there are
  pub written_grows : (length more ≡ length sides + 1) × (length more ≤ g.sides)
  written_grows =
      let few = few_below g.sides (side_numbers more) written_on.within written_on.once in
      (ap length pushed ∙ length_push sides s, omega (arith, few, length-side_numbers more))

  written_more : length old_sides < length (side_numbers more)
  written_more = omega (arith, ap length is.are_sides, length-append old_sides is.path, length-side_numbers sides, length-side_numbers more, written_grows.0)

  pub written_keeps : (u : ℕ) → Contains old_sides u → Contains (side_numbers more) u
  written_keeps u stands =
      let on = written_on in
      subst (λ xs. Contains xs u) (sym on.are_sides) (Contains-append_left old_sides on.path u stands)

  -- the cycle is round
  module _ (round : t.0 ≡ first) where
    ended : IsTracing g old_sides old_cycle_of first r.0 first (side_numbers more) (cycle_numbers_of (set cycle_of s.0 r)) (set traced s.0 true)
    ended = subst (λ u. IsTracing g old_sides old_cycle_of first r.0 u (side_numbers more) (cycle_numbers_of (set cycle_of s.0 r)) (set traced s.0 true)) round written_on

    pub written_cycle : (heads old_starts : List ℕ) → AreCyclesOf g heads old_cycle_of old_sides old_starts → r.0 + 1 ≡ length old_starts →
        AreCyclesOf g (heads ++ first ∷ []) (cycle_numbers_of (set cycle_of s.0 r)) (side_numbers more) (old_starts ++ length more ∷ [])
    written_cycle heads old_starts are count =
        subst (λ n. AreCyclesOf g (heads ++ first ∷ []) (cycle_numbers_of (set cycle_of s.0 r)) (side_numbers more) (old_starts ++ n ∷ [])) (length-side_numbers more)
        (cycle_found g heads old_cycle_of old_sides old_starts first r.0 (side_numbers more) (cycle_numbers_of (set cycle_of s.0 r)) (set traced s.0 true) are ended written_more count)

    pub written_first : Contains (side_numbers more) first
    written_first = first_found g old_sides old_cycle_of first r.0 (side_numbers more) (cycle_numbers_of (set cycle_of s.0 r)) (set traced s.0 true) ended written_more
