-- Code that burns trails behind their lead-ins has one lighting for each, and as many pierces in a component as trails lie in it.
use Rattle.std.proofs.Common.{arith, ◌≡◌, Bool, true, false, cond, List, [], ◌∷◌, ◌++◌, length, map, refl, sym, ap, subst, ◌∙◌}
use Rattle.std.specs.Prelude.{⊤, Option, None, Some, flat_map}
use Rattle.std.specs.List.{AllZip, AllByRecursion}
use Rattle.nest_base.specs.declared.places.Point.{Point}
use Rattle.nest_base.specs.declared.places.Edge.{Edge}
use Rattle.nest_base.specs.Plane.{HalfEdge}
use Rattle.plate_sides.specs.HalfEdges.{IsHalfEdge}
use Rattle.plate_sides.specs.Cover.{IsTrail, joined, HasTrailsIn}
use Rattle.plate_sides.specs.Paths.{paths_of}
use Rattle.plate_parts.specs.declared.leads.Lead.{Lead}
use Rattle.plate_parts.specs.LeadIns.{AreFirstLeadIns}
use Rattle.code_moves.specs.declared.moves.Move.{Move}
use Rattle.code_moves.specs.BurntChains.{begins_lighting}
use Rattle.code_moves.specs.CodeText.{code_text}
use Rattle.code_moves.specs.Meaning.{moves_of}
use Rattle.code_moves.specs.Moves.{way, lit_moves}
use Rattle.sound_code.specs.Lightings.{Lighting, IsLighting, on_line, led_in, put_before, cut_before_fresh, starts_of, lighting_trails, first_sides}
use Rattle.sound_code.specs.Plans.{BurntPlanHasLightings, PlanHasFirstLeadIns, PlanHasPierces, CodeIsOfItsLightings, IsLedPlan, lightings_of}
use Rattle.sound_code.proofs.FreeLeadIns.{lead_in_is_off_edges}
use Rattle.sound_code.proofs.LedTrails.{AreLed, none, on_line as trail_on_line, led_in as trail_led_in, all_legs, plan_is_led, as_many_leads, burnt_ways, burnt_marks}
use Rattle.sound_code.proofs.LedRuns.{marks_of}
use Rattle.sound_code.proofs.MovesAlong.{IsLit, lit_moves_are_lit}

-- the first mark, if there is one, is set
abbrev BeginsMarked : List Bool → Type 0
BeginsMarked [] = ⊤
BeginsMarked (mark ∷ marks) = mark ≡ true

-- before a fresh move it is cut, whatever follows
cut_before : (m n : Move) (parts : List (List Move)) → n.fresh ≡ true → put_before m (put_before n parts) ≡ (m ∷ []) ∷ put_before n parts
cut_before m n [] fresh = rw fresh refl
cut_before m n ([] ∷ parts) fresh = rw fresh refl
cut_before m n ((k ∷ part) ∷ parts) fresh = either k.fresh
  where
    either : (mark : Bool) → put_before m (cond mark ((n ∷ []) ∷ (k ∷ part) ∷ parts) ((n ∷ k ∷ part) ∷ parts)) ≡ (m ∷ []) ∷ cond mark ((n ∷ []) ∷ (k ∷ part) ∷ parts) ((n ∷ k ∷ part) ∷ parts)
    either true = rw fresh refl
    either false = rw fresh refl

-- and before one that isn't fresh it isn't
not_cut_before : (m n : Move) (part : List Move) (parts : List (List Move)) → n.fresh ≡ false → put_before m ((n ∷ part) ∷ parts) ≡ (m ∷ n ∷ part) ∷ parts
not_cut_before m n part parts same = rw same refl

-- m and the moves behind it, cut where its lighting ends: behind m these go along the ways, and what is left along the other ways, with these marks
record IsCutOff (m : Move) (moves : List Move) (ways other_ways : List HalfEdge) (marks : List Bool) : Type 0 where
  part : List Move
  left : List Move
  left_lit : AllByRecursion IsLit left
  cut : cut_before_fresh (m ∷ moves) ≡ (m ∷ part) ∷ cut_before_fresh left
  burnt : map way part ≡ ways
  ways_left : map way left ≡ other_ways
  marks_left : marks_of left ≡ marks

-- one more way, by a move that isn't fresh
cut_later : (m n : Move) (moves : List Move) (h : HalfEdge) (ways other_ways : List HalfEdge) (marks : List Bool) → n.fresh ≡ false → way n ≡ h →
    IsCutOff n moves ways other_ways marks → IsCutOff m (n ∷ moves) (h ∷ ways) other_ways marks
cut_later m n moves h ways other_ways marks same first off =
    let burnt = off.burnt in
    record {
      part = n ∷ off.part;
      left = off.left;
      left_lit = off.left_lit;
      cut = ap (put_before m) off.cut ∙ not_cut_before m n off.part (cut_before_fresh off.left) same;
      burnt = cc;
      ways_left = off.ways_left;
      marks_left = off.marks_left;
    }

cut_off : (m : Move) (moves : List Move) (ways other_ways : List HalfEdge) (marks : List Bool) → BeginsMarked marks → AllByRecursion IsLit moves →
    map way moves ≡ ways ++ other_ways → marks_of moves ≡ map (λ _. false) ways ++ marks → IsCutOff m moves ways other_ways marks
cut_off m [] [] other_ways marks begins lit are marked = record { part = []; left = []; left_lit = tt; cut = refl; burnt = refl; ways_left = are; marks_left = marked }
cut_off m (n ∷ moves) [] other_ways marks begins lit are marked = record {
  part = [];
  left = n ∷ moves;
  left_lit = lit;
  cut = cut_before m n (cut_before_fresh moves) (subst BeginsMarked (sym marked) begins);
  burnt = refl;
  ways_left = are;
  marks_left = marked;
}
cut_off m [] (h ∷ ways) other_ways marks begins lit are marked = absurd (cc)
cut_off m (n ∷ moves) (h ∷ ways) other_ways marks begins lit are marked =
    cut_later m n moves h ways other_ways marks (cc) (cc) (cut_off n moves ways other_ways marks begins lit.1 (cc) (cc))

-- the lightings of what is left
abbrev LeftHas : List Edge → List HalfEdge → List Bool → List Lighting → Type 0
LeftHas edges other_ways marks lightings =
    (left : List Move) → AllByRecursion IsLit left → map way left ≡ other_ways → marks_of left ≡ marks → AllZip (IsLighting edges) (cut_before_fresh left) lightings

-- a lit move that goes the way h, and moves behind it along the ways, are this lighting
abbrev IsLightingOf : List Edge → HalfEdge → List HalfEdge → Lighting → Type 0
IsLightingOf edges h ways lighting = (m : Move) (part : List Move) → IsLit m → way m ≡ h → map way part ≡ ways → IsLighting edges (m ∷ part) lighting

lighting_on_line : (edges : List Edge) (h : HalfEdge) (ways : List HalfEdge) → IsTrail edges (h ∷ ways) → IsLightingOf edges h ways (record { start = None; trail = h ∷ ways })
lighting_on_line edges h ways trail m part lit first rest =
    let burnt : map way (m ∷ part) ≡ h ∷ ways = cc in
    let Burns : List HalfEdge → Type 0 = λ hs. IsLighting edges (m ∷ part) (record { start = None; trail = hs }) in
    subst Burns burnt (on_line {moves = m ∷ part} (subst (IsTrail edges) (sym burnt) trail))

lighting_led_in : (edges : List Edge) (q v : Point) (trail : List HalfEdge) → (IsHalfEdge edges (record { from = q; to = v }) → ⊥) → IsTrail edges trail →
    IsLightingOf edges (record { from = q; to = v }) trail (record { start = Some q; trail = trail })
lighting_led_in edges q v trail off is m part lit first rest =
    let Burns : Point → List HalfEdge → Type 0 = λ p hs. IsLighting edges (m ∷ part) (record { start = Some p; trail = hs }) in
    let off_edges : IsHalfEdge edges (way m) → ⊥ = subst (λ (h : HalfEdge). IsHalfEdge edges h → ⊥) (sym first) off in
    subst (λ hs. Burns q hs) rest (subst (λ p. Burns p (map way part)) (ap (λ (h : HalfEdge). h.from) first) (led_in {m = m} {moves = part} (lit, off_edges) (subst (IsTrail edges) (sym rest) is)))

-- what is cut off is one lighting
first_lighting : (edges : List Edge) (m : Move) (moves : List Move) (h : HalfEdge) (ways other_ways : List HalfEdge) (marks : List Bool) (lighting : Lighting) (lightings : List Lighting) →
    IsLit m → way m ≡ h → IsLightingOf edges h ways lighting → IsCutOff m moves ways other_ways marks → LeftHas edges other_ways marks lightings →
    AllZip (IsLighting edges) (cut_before_fresh (m ∷ moves)) (lighting ∷ lightings)
first_lighting edges m moves h ways other_ways marks lighting lightings lit first is off more =
    let Parts : List (List Move) → Type 0 = λ parts. AllZip (IsLighting edges) parts (lighting ∷ lightings) in
    subst Parts (sym off.cut) (is m off.part lit first off.burnt, more off.left off.left_lit off.ways_left off.marks_left)

-- moves along ways of which the first is fresh, and no other, and what follows them
one_more : (edges : List Edge) (h : HalfEdge) (ways other_ways : List HalfEdge) (marks : List Bool) (lighting : Lighting) (lightings : List Lighting) (moves : List Move) →
    IsLightingOf edges h ways lighting → BeginsMarked marks → AllByRecursion IsLit moves → map way moves ≡ h ∷ ways ++ other_ways →
    marks_of moves ≡ true ∷ map (λ _. false) ways ++ marks → LeftHas edges other_ways marks lightings → AllZip (IsLighting edges) (cut_before_fresh moves) (lighting ∷ lightings)
one_more edges h ways other_ways marks lighting lightings [] is begins lit are marked more = absurd (cc)
one_more edges h ways other_ways marks lighting lightings (m ∷ moves) is begins lit are marked more =
    first_lighting edges m moves h ways other_ways marks lighting lightings lit.0 (cc) is (cut_off m moves ways other_ways marks begins lit.1 (cc) (cc)) more

-- the first mark of led trails is set
trails_begin : (edges : List Edge) (names : List Point) {earlier : List Lead} {leads : List (Option Point)} {trails : List (List HalfEdge)} → AreLed edges names earlier leads trails →
    BeginsMarked (flat_map begins_lighting (all_legs leads trails))
trails_begin edges names none = tt
trails_begin edges names (trail_on_line is later) = refl
trails_begin edges names (trail_led_in is free later) = refl

-- lit moves along them, where the first of each chain is fresh and no other, are one lighting for each
lightings_are : (edges : List Edge) (names : List Point) {earlier : List Lead} {leads : List (Option Point)} {trails : List (List HalfEdge)} → AreLed edges names earlier leads trails →
    (lit : List Move) → AllByRecursion IsLit lit → map way lit ≡ joined (all_legs leads trails) → marks_of lit ≡ flat_map begins_lighting (all_legs leads trails) →
    AllZip (IsLighting edges) (cut_before_fresh lit) (lightings_of leads trails)
lightings_are edges names none [] are_lit are marked = tt
lightings_are edges names none (m ∷ lit) are_lit are marked = absurd (cc)
lightings_are edges names (trail_on_line {leads} {s} {rest} {trails} is later) lit are_lit are marked =
    one_more edges s rest (joined (all_legs leads trails)) (flat_map begins_lighting (all_legs leads trails)) _ (lightings_of leads trails) lit
    (lighting_on_line edges s rest is) (trails_begin edges names later) are_lit are marked (lightings_are edges names later)
lightings_are edges names (trail_led_in {earlier} {q} {leads} {s} {rest} {trails} is free later) lit are_lit are marked =
    one_more edges (record { from = q; to = s.from }) (s ∷ rest) (joined (all_legs leads trails)) (flat_map begins_lighting (all_legs leads trails)) _ (lightings_of leads trails) lit
    (lighting_led_in edges q s.from (s ∷ rest) (lead_in_is_off_edges edges names earlier s q free) is) (trails_begin edges names later) are_lit are marked (lightings_are edges names later)

pub burnt_plan_has_lightings : BurntPlanHasLightings
burnt_plan_has_lightings edges names trails leads bytes cut plan burnt =
    let led = plan_is_led edges names trails leads plan in
    lightings_are edges names led (lit_moves (moves_of bytes)) (lit_moves_are_lit (moves_of bytes))
    (burnt_ways edges names trails leads bytes cut led burnt) (burnt_marks edges names trails leads bytes cut led burnt)

-- what such lightings are made of
starts_are : (leads : List (Option Point)) (trails : List (List HalfEdge)) → length leads ≡ length trails → starts_of (lightings_of leads trails) ≡ leads
starts_are [] trails as_many = refl
starts_are (lead ∷ leads) [] as_many = absurd (omega (arith, as_many))
starts_are (lead ∷ leads) (trail ∷ trails) as_many = ap (λ more. lead ∷ more) (starts_are leads trails (omega (arith, as_many)))

trails_are : (leads : List (Option Point)) (trails : List (List HalfEdge)) → length leads ≡ length trails → lighting_trails (lightings_of leads trails) ≡ trails
trails_are [] [] as_many = refl
trails_are [] (trail ∷ trails) as_many = absurd (omega (arith, as_many))
trails_are (lead ∷ leads) [] as_many = absurd (omega (arith, as_many))
trails_are (lead ∷ leads) (trail ∷ trails) as_many = ap (λ more. trail ∷ more) (trails_are leads trails (omega (arith, as_many)))

-- a plan has as many lead-ins, or places for one, as trails
pub plan_has_as_many_leads : (edges : List Edge) (names : List Point) (trails : List (List HalfEdge)) (leads : List (Option Point)) → IsLedPlan edges names trails leads →
    length leads ≡ length trails
plan_has_as_many_leads edges names trails leads plan = as_many_leads edges names (plan_is_led edges names trails leads plan)

pub plan_has_first_lead_ins : PlanHasFirstLeadIns
plan_has_first_lead_ins edges names trails leads plan =
    let as_many = plan_has_as_many_leads edges names trails leads plan in
    subst (λ ts. AreFirstLeadIns edges names [] (first_sides ts) (starts_of (lightings_of leads trails))) (sym (trails_are leads trails as_many))
    (subst (AreFirstLeadIns edges names [] (first_sides trails)) (sym (starts_are leads trails as_many)) plan.first_leads)

pub plan_has_pierces : PlanHasPierces
plan_has_pierces edges mark trails leads n as_many has = subst (λ ts. HasTrailsIn edges mark ts n) (sym (trails_are leads trails as_many)) has

pub code_is_of_its_lightings : CodeIsOfItsLightings
code_is_of_its_lightings trails leads as_many =
    ap (λ ls. code_text (paths_of ls trails)) (sym (starts_are leads trails as_many))
    ∙ ap (λ ts. code_text (paths_of (starts_of (lightings_of leads trails)) ts)) (sym (trails_are leads trails as_many))
