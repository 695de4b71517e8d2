-- Trails behind free lead-ins, and what their chains burn.
use Rattle.std.proofs.Common.{◌≡◌, ◌≢◌, ℕ, cond, List, [], ◌∷◌, ◌++◌, length, map, suc, refl, sym, ap, subst, ◌∙◌}
use Rattle.std.specs.Prelude.{Option, None, Some, flat_map}
use Rattle.std.specs.List.{AllByRecursion}
use Rattle.std.proofs.lemmas.Bool.{false_from_ne_true}
use Rattle.std.proofs.lemmas.List.Elements.{recursion_from_All}
use Rattle.std.proofs.lemmas.List.Folds.{flat_map-map}
use Rattle.nest_base.specs.declared.places.Point.{Point}
use Rattle.nest_base.specs.declared.places.Edge.{Edge}
use Rattle.nest_base.specs.Order.{is_place}
use Rattle.nest_base.specs.Plane.{HalfEdge}
use Rattle.nest_base.specs.Routes.{legs}
use Rattle.nest_base.proofs.Points.{Decides-is_place}
use Rattle.plate_sides.specs.Cover.{IsTrail, joined}
use Rattle.plate_sides.specs.HalfEdges.{IsHalfEdge}
use Rattle.plate_sides.specs.Paths.{path_of, paths_of}
use Rattle.plate_parts.specs.declared.leads.Lead.{Lead}
use Rattle.plate_parts.specs.LeadIns.{IsFreeLeadIn, AreFirstLeadIns}
use Rattle.plate_parts.specs.LeadIns.AreFirstLeadIns.{next}
use Rattle.code_moves.specs.declared.moves.Move.{Move}
use Rattle.code_moves.specs.BurntChains.{burnt_legs, lead_leg, begins_lighting, BurnsChains}
use Rattle.code_moves.specs.Meaning.{moves_of}
use Rattle.code_moves.specs.Moves.{way, lit_moves}
use Rattle.code_moves.proofs.BurntLegs.{IsMoving, burnt_legs-moving, burnt_legs-led_in}
use Rattle.sound_code.specs.Lightings.{first_sides}
use Rattle.sound_code.specs.Plans.{CanBeCut, IsLedPlan}
use Rattle.sound_code.proofs.FreeLeadIns.{free_is_apart, first_is_free}
use Rattle.sound_code.proofs.Trails.{trail_sides}
use Rattle.sound_code.proofs.WritableChains.{each_leg, leg_is_moving}

-- these are trails, and where one has a lead-in, it is free with the earlier ones
pub data AreLed (edges : List Edge) (names : List Point) : List Lead → List (Option Point) → List (List HalfEdge) → Type 0 where
  none : {earlier : List Lead} → AreLed edges names earlier [] []
  on_line : {earlier : List Lead} {leads : List (Option Point)} {s : HalfEdge} {rest : List HalfEdge} {trails : List (List HalfEdge)} →
      IsTrail edges (s ∷ rest) → AreLed edges names earlier leads trails → AreLed edges names earlier (None ∷ leads) ((s ∷ rest) ∷ trails)
  led_in : {earlier : List Lead} {q : Point} {leads : List (Option Point)} {s : HalfEdge} {rest : List HalfEdge} {trails : List (List HalfEdge)} →
      IsTrail edges (s ∷ rest) → IsFreeLeadIn edges names earlier s q → AreLed edges names (earlier ++ record { from = q; to = s.from } ∷ []) leads trails →
      AreLed edges names earlier (Some q ∷ leads) ((s ∷ rest) ∷ trails)

first_are_led : (edges : List Edge) (names : List Point) (earlier : List Lead) (leads : List (Option Point)) (trails : List (List HalfEdge)) →
    AllByRecursion (IsTrail edges) trails → AreFirstLeadIns edges names earlier (first_sides trails) leads → AreLed edges names earlier leads trails
first_are_led edges names earlier [] [] are firsts = none
first_are_led edges names earlier (lead ∷ leads) [] are firsts = elim firsts [ ]
first_are_led edges names earlier leads ([] ∷ trails) are firsts = absurd are.0
first_are_led edges names earlier [] ((s ∷ rest) ∷ trails) are firsts = elim firsts [ ]
first_are_led edges names earlier (None ∷ leads) ((s ∷ rest) ∷ trails) are (next first later) = on_line are.0 (first_are_led edges names earlier leads trails are.1 later)
first_are_led edges names earlier (Some q ∷ leads) ((s ∷ rest) ∷ trails) are (next first later) =
    led_in are.0 (first_is_free edges names earlier s q first) (first_are_led edges names (earlier ++ record { from = q; to = s.from } ∷ []) leads trails are.1 later)

-- those of a plan are
pub plan_is_led : (edges : List Edge) (names : List Point) (trails : List (List HalfEdge)) (leads : List (Option Point)) → IsLedPlan edges names trails leads →
    AreLed edges names [] leads trails
plan_is_led edges names trails leads plan = first_are_led edges names [] leads trails (recursion_from_All (IsTrail edges) trails plan.covers.are_trails) plan.first_leads

-- as many lead-ins, or places for one, as trails
pub as_many_leads : (edges : List Edge) (names : List Point) {earlier : List Lead} {leads : List (Option Point)} {trails : List (List HalfEdge)} →
    AreLed edges names earlier leads trails → length leads ≡ length trails
as_many_leads edges names none = refl
as_many_leads edges names (on_line is later) = ap suc (as_many_leads edges names later)
as_many_leads edges names (led_in is free later) = ap suc (as_many_leads edges names later)

-- the way along a lead-in, and then the trail
abbrev pub led_legs : Option Point → List HalfEdge → List HalfEdge
led_legs None trail = trail
led_legs (Some q) [] = []
led_legs (Some q) (s ∷ rest) = record { from = q; to = s.from } ∷ s ∷ rest

-- trail by trail
abbrev pub all_legs : List (Option Point) → List (List HalfEdge) → List (List HalfEdge)
all_legs [] trails = []
all_legs (lead ∷ leads) [] = []
all_legs (lead ∷ leads) (trail ∷ trails) = led_legs lead trail ∷ all_legs leads trails

-- the legs along the path of a trail are its half-edges
legs_of_path : (edges : List Edge) (trail : List HalfEdge) → IsTrail edges trail → legs (path_of trail) ≡ trail
legs_of_path edges [] is = absurd is
legs_of_path edges (s ∷ []) is = refl
legs_of_path edges (s ∷ t ∷ rest) (is, follows, later) =
    ap (λ k. s ∷ k) (ap (λ (p : Point). legs (p ∷ map (λ (h : HalfEdge). h.to) (t ∷ rest))) follows ∙ legs_of_path edges (t ∷ rest) later)

trail_is_moving : (edges : List Edge) (trail : List HalfEdge) → CanBeCut edges → IsTrail edges trail → AllByRecursion IsMoving trail
trail_is_moving edges trail cut is = each_leg (IsHalfEdge edges) IsMoving (leg_is_moving edges cut) trail (trail_sides edges trail is)

path_burns : (edges : List Edge) (s : HalfEdge) (rest : List HalfEdge) → CanBeCut edges → IsTrail edges (s ∷ rest) → burnt_legs (path_of (s ∷ rest)) ≡ s ∷ rest
path_burns edges s rest cut is =
    let same = legs_of_path edges (s ∷ rest) is in
    burnt_legs-moving s.from s.to (map (λ (h : HalfEdge). h.to) rest) (subst (AllByRecursion IsMoving) (sym same) (trail_is_moving edges (s ∷ rest) cut is)) ∙ same

-- a lead-in that starts elsewhere burns
lead_leg_burns : (q v : Point) → q ≢ v → lead_leg q v ≡ record { from = q; to = v } ∷ []
lead_leg_burns q v apart =
    ap (λ b. cond b [] (record { from = q; to = v } ∷ [])) (false_from_ne_true (is_place v q) (λ same. apart (sym ((Decides-is_place v q).0 same))))

led_path_burns : (edges : List Edge) (q : Point) (s : HalfEdge) (rest : List HalfEdge) → CanBeCut edges → IsTrail edges (s ∷ rest) → q ≢ s.from →
    burnt_legs (q ∷ path_of (s ∷ rest)) ≡ record { from = q; to = s.from } ∷ s ∷ rest
led_path_burns edges q s rest cut is apart =
    let same = legs_of_path edges (s ∷ rest) is in
    burnt_legs-led_in q s.from s.to (map (λ (h : HalfEdge). h.to) rest) (subst (AllByRecursion IsMoving) (sym same) (trail_is_moving edges (s ∷ rest) cut is))
    ∙ ap (λ hs. hs ++ legs (path_of (s ∷ rest))) (lead_leg_burns q s.from apart) ∙ ap (λ hs. record { from = q; to = s.from } ∷ hs) same

-- chains along such trails burn their lead-ins and the trails
pub chains_burn : (edges : List Edge) (names : List Point) {earlier : List Lead} {leads : List (Option Point)} {trails : List (List HalfEdge)} → CanBeCut edges →
    AreLed edges names earlier leads trails → map burnt_legs (paths_of leads trails) ≡ all_legs leads trails
chains_burn edges names cut none = refl
chains_burn edges names cut (on_line {leads} {s} {rest} {trails} is later) =
    ap (λ hs. hs ∷ map burnt_legs (paths_of leads trails)) (path_burns edges s rest cut is) ∙ ap (λ more. (s ∷ rest) ∷ more) (chains_burn edges names cut later)
chains_burn edges names cut (led_in {earlier} {q} {leads} {s} {rest} {trails} is free later) =
    ap (λ hs. hs ∷ map burnt_legs (paths_of leads trails)) (led_path_burns edges q s rest cut is (free_is_apart edges names earlier s q free))
    ∙ ap (λ more. led_legs (Some q) (s ∷ rest) ∷ more) (chains_burn edges names cut later)

-- so the lit moves of code that burns them go along the lead-ins and trails
pub burnt_ways : (edges : List Edge) (names : List Point) (trails : List (List HalfEdge)) (leads : List (Option Point)) (bytes : List ℕ) → CanBeCut edges →
    AreLed edges names [] leads trails → BurnsChains (paths_of leads trails) bytes → map way (lit_moves (moves_of bytes)) ≡ joined (all_legs leads trails)
burnt_ways edges names trails leads bytes cut led burnt =
    burnt.ways ∙ sym (flat_map-map (λ (hs : List HalfEdge). hs) burnt_legs (paths_of leads trails)) ∙ ap joined (chains_burn edges names cut led)

-- and the first one of each is fresh, and no other
pub burnt_marks : (edges : List Edge) (names : List Point) (trails : List (List HalfEdge)) (leads : List (Option Point)) (bytes : List ℕ) → CanBeCut edges →
    AreLed edges names [] leads trails → BurnsChains (paths_of leads trails) bytes →
    map (λ (m : Move). m.fresh) (lit_moves (moves_of bytes)) ≡ flat_map begins_lighting (all_legs leads trails)
burnt_marks edges names trails leads bytes cut led burnt =
    burnt.lightings ∙ sym (flat_map-map begins_lighting burnt_legs (paths_of leads trails)) ∙ ap (flat_map begins_lighting) (chains_burn edges names cut led)
