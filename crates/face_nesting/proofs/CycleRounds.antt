-- All cycles, one after another: none yet, those of the first half-edges, and those behind them.
use Rattle.std.proofs.Common.{arith, ◌≡◌, ◌≢◌, inl, inr, ℕ, ◌+◌, ◌<◌, List, [], ◌∷◌, ◌++◌, Bool, true, false, length, length-take, get_or, take, sym, ap, subst, ◌∙◌}
use Rattle.std.specs.Prelude.{Contains, All, AllPairs, Some, slice_get}
use Rattle.std.proofs.lemmas.List.{take_more}
use Rattle.std.proofs.lemmas.List.Elements.{All-nil}
use Rattle.std.proofs.lemmas.Bool.{cases_eq}
use Rattle.std.proofs.lemmas.Option.{none-some, slice_get_within, slice_get-get_or}
use Rattle.nest_base.proofs.Lists.{AllPairs-none, Contains-none}
use Rattle.nest_base.specs.declared.numbers.Side.{Side}
use Rattle.rotation_systems.specs.RotationSystem.{RotationSystem}
use Rattle.nest_base.proofs.ListReads.{read_from_Contains, read_of_map, read-take, AllPairs-reads, All-read}
use Rattle.face_nesting.specs.Cycles.{AreCyclesOf, AreTold, OnOneCycle}
use Rattle.nest_base.specs.NumberLists.{side_numbers}
use Rattle.face_nesting.proofs.CycleLists.{head_leads}
use Rattle.face_nesting.proofs.CycleFound.{new_untold}
use Rattle.nest_base.proofs.NumberLists.{side_numbers-push, length-side_numbers}

pub none_begun : (g : RotationSystem) (cycle_of sides starts : List ℕ) → length cycle_of ≡ g.sides → sides ≡ [] → starts ≡ 0 ∷ [] → AreCyclesOf g [] cycle_of sides starts
none_begun g cycle_of sides starts as_many empty begins = record {
  cycles = [];
  each = tt;
  are_sides = empty;
  are_starts = begins;
  within = subst (All (λ s. s < g.sides)) (sym empty) (All-nil (λ s. s < g.sides));
  once = subst (AllPairs (λ s t. s ≢ t)) (sym empty) (AllPairs-none (λ (s t : ℕ). s ≢ t));
  as_many = as_many;
  numbered = λ r s cycle at stands. absurd (none-some cycle at);
}

pub none_told : (g : RotationSystem) (traced : List Bool) (sides : List ℕ) → length traced ≡ g.sides → All (λ b. b ≡ false) traced → sides ≡ [] → AreTold g traced sides
none_told g traced sides as_many none empty = record {
  as_many = as_many;
  told = λ s. (λ is. grind (arith, All-read (λ b. b ≡ false) traced s true none is), λ stands. absurd (Contains-none s (subst (λ xs. Contains xs s) empty stands)));
}

-- a half-edge that is read among those before place k
in_front : (firsts : List Side) (k s : ℕ) → Contains (side_numbers (take k firsts)) s → (j : ℕ) × (t : Side) × (j < k) × (slice_get firsts j ≡ Some t) × (t.0 ≡ s)
in_front firsts k s stands =
    let at = read_from_Contains (side_numbers (take k firsts)) s stands in
    let read = read_of_map (λ (t : Side). t.0) (take k firsts) at.0 s at.1 in
    let less : at.0 < k = omega (arith, slice_get_within (side_numbers (take k firsts)) at.0 s at.1, length-side_numbers (take k firsts), length-take k firsts) in
    (at.0, read.0, less, sym (read-take k firsts at.0 less) ∙ read.1, read.2)

-- the half-edge at place k stands in no cycle of those before it
pub first_new : (g : RotationSystem) (firsts : List Side) (k : ℕ) (s : Side) (cycle_of sides starts : List ℕ) → AllPairs (λ (t u : Side). OnOneCycle g t.0 u.0 → ⊥) firsts →
    slice_get firsts k ≡ Some s → AreCyclesOf g (side_numbers (take k firsts)) cycle_of sides starts → Contains sides s.0 → ⊥
first_new g firsts k s cycle_of sides starts apart at are stands =
    let leads = head_leads are s.0 stands in
    let front = in_front firsts k leads.0 leads.1 in
    AllPairs-reads (λ (t u : Side). OnOneCycle g t.0 u.0 → ⊥) firsts front.0 k front.1 s apart front.2 front.3 at (subst (λ h. OnOneCycle g h s.0) (sym front.4) leads.2)

pub first_untold : (g : RotationSystem) (firsts : List Side) (k : ℕ) (d : Side) (cycle_of sides starts : List ℕ) (traced : List Bool) → AllPairs (λ (t u : Side). OnOneCycle g t.0 u.0 → ⊥) firsts →
    All (λ (s : Side). s.0 < g.sides) firsts → k < length firsts → AreCyclesOf g (side_numbers (take k firsts)) cycle_of sides starts → AreTold g traced sides →
    slice_get traced (get_or firsts k d).0 ≡ Some false
first_untold g firsts k d cycle_of sides starts traced apart within below are told =
    let s = get_or firsts k d in
    let at = slice_get-get_or firsts k d below in
    new_untold g traced sides s.0 told (All-read (λ (s : Side). s.0 < g.sides) firsts k s within at) (first_new g firsts k s cycle_of sides starts apart at are)

pub firsts_more : (firsts : List Side) (k : ℕ) (d : Side) → k < length firsts → side_numbers (take (k + 1) firsts) ≡ side_numbers (take k firsts) ++ (get_or firsts k d).0 ∷ []
firsts_more firsts k d below = ap (λ (xs : List Side). side_numbers xs) (take_more firsts k d below) ∙ side_numbers-push (take k firsts) (get_or firsts k d)

-- one place more is told
pub told_up_to : (traced more : List Bool) (s : ℕ) → ((t : ℕ) → t < s → slice_get traced t ≡ Some true) →
    ((t : ℕ) → slice_get traced t ≡ Some true → slice_get more t ≡ Some true) → slice_get more s ≡ Some true → (t : ℕ) → t < s + 1 → slice_get more t ≡ Some true
told_up_to traced more s before kept at t less = elim (cases_eq t s) [
  | inl same ↦ ap (slice_get more) same ∙ at
  | inr other ↦ kept t (before t (omega (arith, less, other)))
]
