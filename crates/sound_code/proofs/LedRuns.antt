-- Lit moves along trails and their lead-ins.
use Rattle.std.proofs.Common.{arith, ◌≡◌, Bool, true, false, List, [], ◌∷◌, ◌++◌, append_assoc, append-nil, length, map, suc, refl, sym, ap, subst}
use Rattle.std.specs.Prelude.{IsTrue, Option, flat_map}
use Rattle.std.specs.List.{AllByRecursion}
use Rattle.std.proofs.lemmas.List.{length-map}
use Rattle.nest_base.specs.declared.places.Point.{Point}
use Rattle.nest_base.specs.declared.places.Edge.{Edge}
use Rattle.nest_base.specs.Plane.{HalfEdge}
use Rattle.nest_base.specs.Selection.{Selects}
use Rattle.nest_base.specs.Selection.Selects.{none as none_selected, taken, passed}
use Rattle.plate_sides.specs.HalfEdges.{IsHalfEdge}
use Rattle.plate_sides.specs.Cover.{joined}
use Rattle.plate_parts.specs.declared.leads.Lead.{Lead}
use Rattle.plate_parts.specs.LeadIns.{IsFreeLeadIn}
use Rattle.code_moves.specs.declared.moves.Move.{Move}
use Rattle.code_moves.specs.BurntChains.{begins_lighting}
use Rattle.code_moves.specs.Moves.{way}
use Rattle.sound_code.specs.Sound.{IsEdgeMove, IsLitOffEdges, lead_of}
use Rattle.sound_code.proofs.FreeLeadIns.{lead_in_is_off_edges}
use Rattle.sound_code.proofs.LedTrails.{AreLed, none as none_led, on_line, led_in as trail_led_in, all_legs}
use Rattle.sound_code.proofs.MovesAlong.{IsLit}
use Rattle.sound_code.proofs.Trails.{trail_sides}

-- moves that are edge moves, or lead-ins that are free with the earlier ones, and the half-edges of the edge moves among them
pub data IsLedRun (edges : List Edge) (names : List Point) : List Lead → List Move → List HalfEdge → Type 0 where
  none : {earlier : List Lead} → IsLedRun edges names earlier [] []
  along : {earlier : List Lead} {m : Move} {moves : List Move} {burns : List HalfEdge} →
      IsEdgeMove edges m → IsLedRun edges names earlier moves burns → IsLedRun edges names earlier (m ∷ moves) (way m ∷ burns)
  led_in : {earlier : List Lead} {m n : Move} {moves : List Move} {burns : List HalfEdge} →
      IsLitOffEdges edges m → IsTrue m.fresh → IsEdgeMove edges n → (IsTrue n.fresh → ⊥) → IsFreeLeadIn edges names earlier (way n) m.from →
      IsLedRun edges names (earlier ++ lead_of m ∷ []) (n ∷ moves) burns → IsLedRun edges names earlier (m ∷ n ∷ moves) burns

-- these half-edges are all among the ways of the moves
pub run_sides : (edges : List Edge) (names : List Point) {earlier : List Lead} {moves : List Move} {burns : List HalfEdge} → IsLedRun edges names earlier moves burns →
    Selects (IsHalfEdge edges) (map way moves) burns
run_sides edges names none = none_selected
run_sides edges names (along on_edge run) = taken on_edge.1 (run_sides edges names run)
run_sides edges names (led_in off fresh on_edge not_fresh free run) = passed off.1 (run_sides edges names run)

-- a lead-in among lit moves, between those before it and those after it, and behind earlier lead-ins
pub record IsLedIn (edges : List Edge) (names : List Point) (earlier : List Lead) (before : List Move) (m : Move) (after : List Move) : Type 0 where
  pub fresh : IsTrue m.fresh
  pub next : Move
  pub rest : List Move
  pub follows : after ≡ next ∷ rest
  pub on_edge : IsEdgeMove edges next
  pub not_fresh : IsTrue next.fresh → ⊥
  pub found : List Move
  pub all_found : Selects (IsLitOffEdges edges) before found
  pub free : IsFreeLeadIn edges names (earlier ++ map lead_of found) (way next) m.from

-- each of these moves that goes along no edge is one
abbrev pub HaveLeadIns : List Edge → List Point → List Lead → List Move → Type 0
HaveLeadIns edges names earlier moves =
    (before : List Move) (m : Move) (after : List Move) → moves ≡ before ++ m ∷ after → IsLitOffEdges edges m → IsLedIn edges names earlier before m after

-- behind an edge move
led_behind_edge : (edges : List Edge) (names : List Point) (earlier : List Lead) (k : Move) (before : List Move) (m : Move) (after : List Move) → IsEdgeMove edges k →
    IsLedIn edges names earlier before m after → IsLedIn edges names earlier (k ∷ before) m after
led_behind_edge edges names earlier k before m after on_edge led = record {
  fresh = led.fresh;
  next = led.next;
  rest = led.rest;
  follows = led.follows;
  on_edge = led.on_edge;
  not_fresh = led.not_fresh;
  found = led.found;
  all_found = passed (λ off. off.1 on_edge.1) led.all_found;
  free = led.free;
}

-- behind a lead-in
led_behind_lead : (edges : List Edge) (names : List Point) (earlier : List Lead) (k : Move) (before : List Move) (m : Move) (after : List Move) → IsLitOffEdges edges k →
    IsLedIn edges names (earlier ++ lead_of k ∷ []) before m after → IsLedIn edges names earlier (k ∷ before) m after
led_behind_lead edges names earlier k before m after off led = record {
  fresh = led.fresh;
  next = led.next;
  rest = led.rest;
  follows = led.follows;
  on_edge = led.on_edge;
  not_fresh = led.not_fresh;
  found = k ∷ led.found;
  all_found = taken off led.all_found;
  free = subst (λ leads. IsFreeLeadIn edges names leads (way led.next) m.from) (append_assoc earlier (lead_of k ∷ []) (map lead_of led.found)) led.free;
}

no_move_in : (before : List Move) (m : Move) (after : List Move) → [] ≡ before ++ m ∷ after → ⊥
no_move_in [] m after are = cc
no_move_in (k ∷ before) m after are = cc

leads_behind_edge : (edges : List Edge) (names : List Point) (earlier : List Lead) (k : Move) (moves : List Move) → IsEdgeMove edges k →
    HaveLeadIns edges names earlier moves → HaveLeadIns edges names earlier (k ∷ moves)
leads_behind_edge edges names earlier k moves on_edge more [] m after are off =
    let same : k ≡ m = cc in absurd (off.1 (subst (λ (n : Move). IsHalfEdge edges (way n)) same on_edge.1))
leads_behind_edge edges names earlier k moves on_edge more (b ∷ before) m after are off =
    let same : k ≡ b = cc in
    subst (λ (n : Move). IsLedIn edges names earlier (n ∷ before) m after) same (led_behind_edge edges names earlier k before m after on_edge (more before m after (cc) off))

-- a lead-in itself, and those behind it
leads_from_lead : (edges : List Edge) (names : List Point) (earlier : List Lead) (k n : Move) (moves : List Move) → IsLitOffEdges edges k → IsLedIn edges names earlier [] k (n ∷ moves) →
    HaveLeadIns edges names (earlier ++ lead_of k ∷ []) (n ∷ moves) → HaveLeadIns edges names earlier (k ∷ n ∷ moves)
leads_from_lead edges names earlier k n moves k_off led more [] m after are off =
    let same : k ≡ m = cc in
    let rest : n ∷ moves ≡ after = cc in
    subst (λ (j : Move). IsLedIn edges names earlier [] j after) same (subst (IsLedIn edges names earlier [] k) rest led)
leads_from_lead edges names earlier k n moves k_off led more (b ∷ before) m after are off =
    let same : k ≡ b = cc in
    subst (λ (j : Move). IsLedIn edges names earlier (j ∷ before) m after) same (led_behind_lead edges names earlier k before m after k_off (more before m after (cc) off))

-- so has such a run
pub run_leads : (edges : List Edge) (names : List Point) {earlier : List Lead} {moves : List Move} {burns : List HalfEdge} → IsLedRun edges names earlier moves burns →
    HaveLeadIns edges names earlier moves
run_leads edges names none before m after are off = absurd (no_move_in before m after are)
run_leads edges names (along {earlier} {m = k} {moves} on_edge run) before m after are off =
    leads_behind_edge edges names earlier k moves on_edge (run_leads edges names run) before m after are off
run_leads edges names (led_in {earlier} {m = k} {n} {moves} k_off fresh on_edge not_fresh free run) before m after are off =
    let led : IsLedIn edges names earlier [] k (n ∷ moves) = record {
      fresh = fresh;
      next = n;
      rest = moves;
      follows = refl;
      on_edge = on_edge;
      not_fresh = not_fresh;
      found = [];
      all_found = none_selected;
      free = subst (λ leads. IsFreeLeadIn edges names leads (way n) k.from) (sym (append-nil earlier)) free;
    } in
    leads_from_lead edges names earlier k n moves k_off led (run_leads edges names run) before m after are off

-- whether each move is fresh
abbrev pub marks_of : List Move → List Bool
marks_of moves = map (λ (m : Move). m.fresh) moves

-- what is left is such a run
abbrev RunsOn : List Edge → List Point → List Lead → List HalfEdge → List Bool → List HalfEdge → Type 0
RunsOn edges names earlier other_ways marks burns =
    (left : List Move) → AllByRecursion IsLit left → map way left ≡ other_ways → marks_of left ≡ marks → IsLedRun edges names earlier left burns

-- moves along a trail, before such a run; each has a mark of its own
run_along : (edges : List Edge) (names : List Point) (earlier : List Lead) (trail other_ways : List HalfEdge) (own marks : List Bool) (burns : List HalfEdge) (lit : List Move) →
    AllByRecursion (IsHalfEdge edges) trail → length own ≡ length trail → AllByRecursion IsLit lit → map way lit ≡ trail ++ other_ways → marks_of lit ≡ own ++ marks →
    RunsOn edges names earlier other_ways marks burns → IsLedRun edges names earlier lit (trail ++ burns)
run_along edges names earlier [] other_ways [] marks burns lit sides as_many are_lit are marked more = more lit are_lit are marked
run_along edges names earlier [] other_ways (mark ∷ own) marks burns lit sides as_many are_lit are marked more = absurd (omega (arith, as_many))
run_along edges names earlier (h ∷ trail) other_ways [] marks burns lit sides as_many are_lit are marked more = absurd (omega (arith, as_many))
run_along edges names earlier (h ∷ trail) other_ways (mark ∷ own) marks burns [] sides as_many are_lit are marked more = absurd (cc)
run_along edges names earlier (h ∷ trail) other_ways (mark ∷ own) marks burns (m ∷ moves) sides as_many are_lit are marked more =
    let first : way m ≡ h = cc in
    let rest = run_along edges names earlier trail other_ways own marks burns moves sides.1 (omega (arith, as_many)) are_lit.1 (cc) (cc) more in
    subst (λ (g : HalfEdge). IsLedRun edges names earlier (m ∷ moves) (g ∷ trail ++ burns)) first (along (are_lit.0, subst (IsHalfEdge edges) (sym first) sides.0) rest)

-- the same behind a free lead-in, whose move is fresh
run_led_in : (edges : List Edge) (names : List Point) (earlier : List Lead) (q : Point) (s : HalfEdge) (rest other_ways : List HalfEdge) (marks : List Bool) (burns : List HalfEdge) (lit : List Move) →
    AllByRecursion (IsHalfEdge edges) (s ∷ rest) → IsFreeLeadIn edges names earlier s q → AllByRecursion IsLit lit →
    map way lit ≡ record { from = q; to = s.from } ∷ s ∷ rest ++ other_ways → marks_of lit ≡ true ∷ false ∷ map (λ _. false) rest ++ marks →
    RunsOn edges names (earlier ++ record { from = q; to = s.from } ∷ []) other_ways marks burns → IsLedRun edges names earlier lit (s ∷ rest ++ burns)
run_led_in edges names earlier q s rest other_ways marks burns [] sides free are_lit are marked more = absurd (cc)
run_led_in edges names earlier q s rest other_ways marks burns (m ∷ []) sides free are_lit are marked more = absurd (cc)
run_led_in edges names earlier q s rest other_ways marks burns (m ∷ n ∷ moves) sides free are_lit are marked more =
    let lead_way : way m ≡ record { from = q; to = s.from } = cc in
    let next_way : way n ≡ s = cc in
    let fresh : m.fresh ≡ true = cc in
    let not_fresh : n.fresh ≡ false = cc in
    let start : m.from ≡ q = ap (λ (h : HalfEdge). h.from) lead_way in
    let lead : lead_of m ≡ record { from = q; to = s.from } = ap (λ (h : HalfEdge). record { from = h.from; to = h.to }) lead_way in
    let off = subst (λ (h : HalfEdge). IsHalfEdge edges h → ⊥) (sym lead_way) (lead_in_is_off_edges edges names earlier s q free) in
    let on : IsFreeLeadIn edges names earlier (way n) m.from = subst (IsFreeLeadIn edges names earlier (way n)) (sym start) (subst (λ (h : HalfEdge). IsFreeLeadIn edges names earlier h q) (sym next_way) free) in
    let later = run_along edges names (earlier ++ record { from = q; to = s.from } ∷ []) (s ∷ rest) other_ways (false ∷ map (λ _. false) rest) marks burns (n ∷ moves) sides
    (ap suc (length-map rest (λ _. false))) are_lit.1 (cc) (cc) more in
    led_in (are_lit.0, off) fresh (are_lit.1.0, subst (IsHalfEdge edges) (sym next_way) sides.0) (λ is. absurd (cc)) on
    (subst (λ (l : Lead). IsLedRun edges names (earlier ++ l ∷ []) (n ∷ moves) (s ∷ rest ++ burns)) (sym lead) later)

-- the marks of a trail on the line, one for each of its half-edges
as_many_marks : (s : HalfEdge) (rest : List HalfEdge) → length (begins_lighting (s ∷ rest)) ≡ length (s ∷ rest)
as_many_marks s rest = ap suc (length-map rest (λ _. false))

-- lit moves along led trails, where the first of each chain is fresh and no other, are such a run
pub trails_run : (edges : List Edge) (names : List Point) {earlier : List Lead} {leads : List (Option Point)} {trails : List (List HalfEdge)} → AreLed edges names earlier leads trails →
    (lit : List Move) → AllByRecursion IsLit lit → map way lit ≡ joined (all_legs leads trails) → marks_of lit ≡ flat_map begins_lighting (all_legs leads trails) →
    IsLedRun edges names earlier lit (joined trails)
trails_run edges names none_led [] are_lit are marked = none
trails_run edges names none_led (m ∷ lit) are_lit are marked = absurd (cc)
trails_run edges names (on_line {earlier} {leads} {s} {rest} {trails} is later) lit are_lit are marked =
    run_along edges names earlier (s ∷ rest) (joined (all_legs leads trails)) (begins_lighting (s ∷ rest)) (flat_map begins_lighting (all_legs leads trails)) (joined trails) lit
    (trail_sides edges (s ∷ rest) is) (as_many_marks s rest) are_lit are marked (trails_run edges names later)
trails_run edges names (trail_led_in {earlier} {q} {leads} {s} {rest} {trails} is free later) lit are_lit are marked =
    run_led_in edges names earlier q s rest (joined (all_legs leads trails)) (flat_map begins_lighting (all_legs leads trails)) (joined trails) lit
    (trail_sides edges (s ∷ rest) is) free are_lit are marked (trails_run edges names later)
