-- What chains burn whose legs all lead to another place.
use Rattle.std.proofs.Common.{◌≡◌, ◌≢◌, Bool, true, false, cond, List, [], ◌∷◌, ◌++◌, refl, sym, ap, ◌∙◌}
use Rattle.std.specs.Prelude.{filter, not}
use Rattle.std.specs.List.{AllByRecursion}
use Rattle.std.proofs.lemmas.Bool.{false_from_ne_true}
use Rattle.std.proofs.lemmas.List.Elements.{recursion_from_All}
use Rattle.nest_base.specs.declared.places.Point.{Point}
use Rattle.nest_base.specs.Order.{is_place}
use Rattle.nest_base.specs.Plane.{HalfEdge}
use Rattle.nest_base.specs.Routes.{legs}
use Rattle.nest_base.proofs.Points.{Decides-is_place}
use Rattle.code_moves.specs.BurntChains.{leads_on, or_spot, burnt_legs, lead_leg, LegsAreBurnt, LeadInsAreBurnt}

-- the legs through these places that lead on
abbrev pub moving : List Point → List HalfEdge
moving places = filter leads_on (legs places)

-- the same, by whether the first leg stays where it is
abbrev pub moving_by : Bool → Point → Point → List Point → List HalfEdge
moving_by stays p q places = cond (not stays) (record { from = p; to = q } ∷ moving (q ∷ places)) (moving (q ∷ places))

-- the leg goes somewhere
abbrev pub IsMoving : HalfEdge → Type 0
IsMoving h = h.from ≢ h.to

leads_on-moving : (h : HalfEdge) → IsMoving h → leads_on h ≡ true
leads_on-moving h moving = ap not (false_from_ne_true (is_place h.to h.from) (λ one. moving (sym ((Decides-is_place h.to h.from).0 one))))

-- no such leg is left out
filter-moving : (hs : List HalfEdge) → AllByRecursion IsMoving hs → filter leads_on hs ≡ hs
filter-moving [] all = refl
filter-moving (h ∷ hs) all = ap (λ b. cond b (h ∷ filter leads_on hs) (filter leads_on hs)) (leads_on-moving h all.0) ∙ ap (λ r. h ∷ r) (filter-moving hs all.1)

pub burnt_legs-moving : (p q : Point) (places : List Point) → AllByRecursion IsMoving (legs (p ∷ q ∷ places)) → burnt_legs (p ∷ q ∷ places) ≡ legs (p ∷ q ∷ places)
burnt_legs-moving p q places all = ap (or_spot p) (filter-moving (legs (p ∷ q ∷ places)) all)

-- behind a lead-in, by whether it begins at the first vertex
by_start : (here : Bool) (start p : Point) (h : HalfEdge) (rest : List HalfEdge) →
    or_spot start (cond (not here) (record { from = start; to = p } ∷ h ∷ rest) (h ∷ rest)) ≡ cond here [] (record { from = start; to = p } ∷ []) ++ h ∷ rest
by_start true start p h rest = refl
by_start false start p h rest = refl

pub burnt_legs-led_in : (start p q : Point) (places : List Point) → AllByRecursion IsMoving (legs (p ∷ q ∷ places)) → burnt_legs (start ∷ p ∷ q ∷ places) ≡ lead_leg start p ++ legs (p ∷ q ∷ places)
burnt_legs-led_in start p q places all =
    ap (λ hs. or_spot start (cond (not (is_place p start)) (record { from = start; to = p } ∷ hs) hs)) (filter-moving (legs (p ∷ q ∷ places)) all)
    ∙ by_start (is_place p start) start p (record { from = p; to = q }) (legs (q ∷ places))

pub legs_are_burnt : LegsAreBurnt
legs_are_burnt p q places all = burnt_legs-moving p q places (recursion_from_All IsMoving (legs (p ∷ q ∷ places)) all)

pub lead_ins_are_burnt : LeadInsAreBurnt
lead_ins_are_burnt start p q places all = burnt_legs-led_in start p q places (recursion_from_All IsMoving (legs (p ∷ q ∷ places)) all)
