-- One vertex gives its number to its neighbours, one after another.
use Rattle.std.proofs.Common.{arith, ◌≡◌, ◌≢◌, inl, inr, ℕ, ◌+◌, ◌<◌, ◌≤◌, cond, List, [], ◌∷◌, ◌++◌, length, set, refl, sym, ap, ◌∙◌}
use Rattle.std.specs.Prelude.{◌==◌, Some, slice_get}
use Rattle.std.proofs.lemmas.Bool.{cases_eq}
use Rattle.std.proofs.lemmas.Bool.Decides.{nat_tests}
use Rattle.std.proofs.lemmas.List.{length_push}
use Rattle.std.proofs.lemmas.List.Sums.{sum_by-set}
use Rattle.nest_base.specs.declared.places.Point.{Point}
use Rattle.nest_base.specs.declared.places.Edge.{Edge}
use Rattle.half_edges.specs.Floods.{none, component_at, unnumbered, end_of, Joins, IsFlood, GetsNumber, AreKept}
use Rattle.half_edges.proofs.Floods.{set_keeps, set_gives, flood_spread, flood_meets, flood_done, flood_within}
use Rattle.nest_base.proofs.Lists.{Contains-head}

abbrev missing : ℕ → ℕ
missing n = cond (n == none) 1 0

missing_not : (c : ℕ) → c ≢ none → missing c ≡ 0
missing_not c some = grind (arith, nat_tests)

-- one more vertex has a number
unnumbered-set : (components : List ℕ) (w c : ℕ) → w < length components → component_at components w ≡ none → c ≢ none → unnumbered (set components w c) + 1 ≡ unnumbered components
unnumbered-set components w c within bare some =
    let step : unnumbered (set components w c) + missing (component_at components w) ≡ unnumbered components + missing c = sum_by-set missing components w c none within in
    let one : missing (component_at components w) ≡ 1 = ap missing bare in
    omega (arith, step, one, missing_not c some)

-- what is so when the number c of u was given to those vertices to which the first i half-edges of `rotation` lead
pub record IsSpreading (known : List Edge → Type 0) (vertices : List Point) (origins rotation : List ℕ) (u c i : ℕ)
    (old_components old_found : List ℕ) (old_marks : List Point) (components : List ℕ) (marks : List Point) (found : List ℕ) : Type 0 where
  pub number : c + 1 ≡ length marks
  pub few : length marks ≤ none
  pub marks_stay : marks ≡ old_marks
  pub kept : AreKept old_components components
  pub fewer : unnumbered components + length found ≡ unnumbered old_components + length old_found
  pub flood : (edges : List Edge) → known edges → IsFlood edges vertices components marks (u ∷ found)
  pub reached : (k s : ℕ) → k < i → slice_get rotation k ≡ Some s → component_at components (end_of origins s) ≡ c

pub spreading_begun : (known : List Edge → Type 0) (vertices : List Point) (origins rotation : List ℕ) (u c : ℕ) (components found : List ℕ) (marks : List Point) →
    component_at components u ≡ c → component_at components u + 1 ≡ length marks → length marks ≤ none →
    ((edges : List Edge) → known edges → IsFlood edges vertices components marks (u ∷ found)) →
    IsSpreading known vertices origins rotation u c 0 components found marks components marks found
spreading_begun known vertices origins rotation u c components found marks is newest few flood = record {
  number = omega arith;
  few = few;
  marks_stay = refl;
  kept = λ v numbered. refl;
  fewer = refl;
  flood = flood;
  reached = λ k s less at. absurd (omega arith);
}

-- the next half-edge leads to w
pub record IsNext (known : List Edge → Type 0) (vertices : List Point) (origins rotation : List ℕ) (u i w : ℕ) (components : List ℕ) : Type 0 where
  pub within : w < length components
  pub joins : (edges : List Edge) → known edges → Joins edges vertices u w
  pub leads : (s : ℕ) → slice_get rotation i ≡ Some s → end_of origins s ≡ w

-- what the first i half-edges have reached, and what the next one reaches
reached_more : (origins rotation components later : List ℕ) (i c w : ℕ) → AreKept components later → c ≢ none →
    ((k s : ℕ) → k < i → slice_get rotation k ≡ Some s → component_at components (end_of origins s) ≡ c) →
    ((s : ℕ) → slice_get rotation i ≡ Some s → end_of origins s ≡ w) → component_at later w ≡ c →
    (k s : ℕ) → k < i + 1 → slice_get rotation k ≡ Some s → component_at later (end_of origins s) ≡ c
reached_more origins rotation components later i c w kept some before leads here k s less at = elim (cases_eq k i) [
  | inl same ↦ ap (component_at later) (leads s (ap (slice_get rotation) (sym same) ∙ at)) ∙ here
  | inr other ↦
      let was : component_at components (end_of origins s) ≡ c = before k s (omega arith) at in
      kept (end_of origins s) (λ bare. some (sym was ∙ bare)) ∙ was
]

-- where w has none yet, it gets c
pub spreading_given : (known : List Edge → Type 0) (vertices : List Point) (origins rotation : List ℕ) (u c i w : ℕ)
    (old_components old_found : List ℕ) (old_marks : List Point) (components : List ℕ) (marks : List Point) (found : List ℕ) →
    IsSpreading known vertices origins rotation u c i old_components old_found old_marks components marks found →
    IsNext known vertices origins rotation u i w components → component_at components w ≡ none →
    IsSpreading known vertices origins rotation u c (i + 1) old_components old_found old_marks (set components w c) marks (found ++ w ∷ [])
spreading_given known vertices origins rotation u c i w old_components old_found old_marks components marks found s next bare =
    let some : c ≢ none = λ e. omega (arith, s.number, s.few) in
    let kept = set_keeps components w c next.within bare in
    record {
      number = s.number;
      few = s.few;
      marks_stay = s.marks_stay;
      kept = λ v numbered. kept v (λ e. numbered (sym (s.kept v numbered) ∙ e)) ∙ s.kept v numbered;
      fewer = omega (arith, s.fewer, unnumbered-set components w c next.within bare some, length_push found w);
      flood = λ edges is. flood_spread edges vertices components marks u w c found (s.flood edges is) (next.joins edges is) bare s.few s.number;
      reached = reached_more origins rotation components (set components w c) i c w kept some s.reached next.leads (set_gives components w c next.within);
    }

-- where it has a number, that is c
pub spreading_passed : (known : List Edge → Type 0) (vertices : List Point) (origins rotation : List ℕ) (u c i w : ℕ)
    (old_components old_found : List ℕ) (old_marks : List Point) (components : List ℕ) (marks : List Point) (found : List ℕ) →
    (edges : List Edge) → known edges →
    IsSpreading known vertices origins rotation u c i old_components old_found old_marks components marks found →
    IsNext known vertices origins rotation u i w components → component_at components w ≢ none →
    IsSpreading known vertices origins rotation u c (i + 1) old_components old_found old_marks components marks found
spreading_passed known vertices origins rotation u c i w old_components old_found old_marks components marks found edges is s next numbered =
    let some : c ≢ none = λ e. omega (arith, s.number, s.few) in
    let flood = s.flood edges is in
    let at_u : component_at components u + 1 ≡ length marks = flood.last u (Contains-head u found) in
    let here : component_at components w ≡ c = omega (arith, flood_meets edges vertices components marks u w found flood (next.joins edges is) numbered, s.number) in
    record {
      number = s.number;
      few = s.few;
      marks_stay = s.marks_stay;
      kept = s.kept;
      fewer = s.fewer;
      flood = s.flood;
      reached = reached_more origins rotation components components i c w (λ v has. refl) some s.reached next.leads here;
    }

-- either way
pub spreading_more : (known : List Edge → Type 0) (vertices : List Point) (origins rotation : List ℕ) (u c i w : ℕ)
    (old_components old_found : List ℕ) (old_marks : List Point) (components : List ℕ) (marks : List Point) (found : List ℕ) (later : List ℕ) (later_marks : List Point) (more : List ℕ) →
    (edges : List Edge) → known edges →
    IsSpreading known vertices origins rotation u c i old_components old_found old_marks components marks found →
    IsNext known vertices origins rotation u i w components → later_marks ≡ marks → GetsNumber components found w c later more →
    IsSpreading known vertices origins rotation u c (i + 1) old_components old_found old_marks later later_marks more
spreading_more known vertices origins rotation u c i w old_components old_found old_marks components marks found later later_marks more edges is s next same (inl (bare, given, waits)) =
    rw (same, given, waits) (spreading_given known vertices origins rotation u c i w old_components old_found old_marks components marks found s next bare)
spreading_more known vertices origins rotation u c i w old_components old_found old_marks components marks found later later_marks more edges is s next same (inr (numbered, given, waits)) =
    rw (same, given, waits) (spreading_passed known vertices origins rotation u c i w old_components old_found old_marks components marks found edges is s next numbered)

-- u is a vertex meanwhile
pub spreading_within : (known : List Edge → Type 0) (vertices : List Point) (origins rotation : List ℕ) (u c i : ℕ)
    (old_components old_found : List ℕ) (old_marks : List Point) (components : List ℕ) (marks : List Point) (found : List ℕ) →
    (edges : List Edge) → known edges → IsSpreading known vertices origins rotation u c i old_components old_found old_marks components marks found →
    (u < length vertices) × (length components ≡ length vertices)
spreading_within known vertices origins rotation u c i old_components old_found old_marks components marks found edges is s =
    (flood_within edges vertices components marks u found (s.flood edges is) s.few, (s.flood edges is).as_many)

-- after the last half-edge
pub spreading_done : (known : List Edge → Type 0) (vertices : List Point) (origins rotation : List ℕ) (u c i : ℕ)
    (old_components old_found : List ℕ) (old_marks : List Point) (components : List ℕ) (marks : List Point) (found : List ℕ) →
    IsSpreading known vertices origins rotation u c i old_components old_found old_marks components marks found → length rotation ≤ i →
    (edges : List Edge) → known edges →
    ((w : ℕ) → Joins edges vertices u w → (k : ℕ) × (s : ℕ) × (k < length rotation) × (slice_get rotation k ≡ Some s) × (end_of origins s ≡ w)) →
    IsFlood edges vertices components marks found
spreading_done known vertices origins rotation u c i old_components old_found old_marks components marks found s all edges is leads =
    let flood = s.flood edges is in
    let at_u : component_at components u + 1 ≡ length marks = flood.last u (Contains-head u found) in
    let alike : component_at components u ≡ c = omega (arith, s.number) in
    flood_done edges vertices components marks u found flood
    (λ w join. let led = leads w join in ap (component_at components) (sym led.4) ∙ s.reached led.0 led.1 (omega (arith, led.2)) led.3 ∙ sym alike)
