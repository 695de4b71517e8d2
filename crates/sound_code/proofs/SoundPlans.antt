-- Code that burns trails which cover the edges, in an order that detaches none before it burns, behind free lead-ins, is sound.
use Rattle.std.proofs.Common.{◌≡◌, true, cond, List, [], ◌∷◌, ◌++◌, map, ap, subst, ◌∙◌}
use Rattle.std.proofs.lemmas.List.Elements.{filter-append}
use Rattle.nest_base.specs.declared.places.Point.{Point}
use Rattle.nest_base.specs.declared.places.Edge.{Edge}
use Rattle.nest_base.specs.Plane.{HalfEdge}
use Rattle.nest_base.specs.Selection.{Selects, HasCount}
use Rattle.nest_base.proofs.Lists.{All-from_contains}
use Rattle.plate_sides.specs.HalfEdges.{IsHalfEdge, IsHalfEdgeOf}
use Rattle.plate_sides.specs.Cover.{joined}
use Rattle.code_moves.specs.declared.moves.Move.{Move}
use Rattle.code_moves.specs.Meaning.{moves_of}
use Rattle.code_moves.specs.Moves.{way, lit_moves}
use Rattle.sound_code.specs.Sound.{IsMoveAlong, IsLitOffEdges, IsLeadIn, AreLeadIns}
use Rattle.sound_code.specs.Plans.{BurntPlanIsSound}
use Rattle.sound_code.proofs.LedRuns.{IsLedRun, IsLedIn, run_sides, run_leads, trails_run}
use Rattle.sound_code.proofs.LedTrails.{plan_is_led, burnt_ways, burnt_marks}
use Rattle.sound_code.proofs.MovesAlong.{lit_moves_are_lit, from_lit, burns_are, count_along, selects_through}
use Rattle.sound_code.proofs.Relighting.{IsRelit, moves_are_relit, relit_after, next_follows}

-- a lit move stands among the lit moves, between those before it and those after it
lit_around : (before : List Move) (m : Move) (after : List Move) → m.lit ≡ true → lit_moves (before ++ m ∷ after) ≡ lit_moves before ++ m ∷ lit_moves after
lit_around before m after lit =
    filter-append (λ (n : Move). n.lit) before (m ∷ after) ∙ ap (λ b. lit_moves before ++ cond b (m ∷ lit_moves after) (lit_moves after)) lit

-- a lead-in among the lit moves is one among all moves, where behind an unlit move the next lit one is fresh
led_among_all : (edges : List Edge) (names : List Point) (before : List Move) (m : Move) (after : List Move) → IsRelit after →
    IsLedIn edges names [] (lit_moves before) m (lit_moves after) → IsLeadIn edges names before m after
led_among_all edges names before m after relit led =
    let later = next_follows after led.next led.rest relit led.follows led.not_fresh in
    record {
      fresh = led.fresh;
      next = led.next;
      rest = later.0;
      follows = later.1;
      on_edge = led.on_edge;
      not_fresh = led.not_fresh;
      earlier = led.found;
      all_earlier = from_lit (IsLitOffEdges edges) (λ n off. off.0) before led.found led.all_found;
      free = led.free;
    }

run_is_led : (edges : List Edge) (names : List Point) (moves : List Move) (burns : List HalfEdge) → IsRelit moves → IsLedRun edges names [] (lit_moves moves) burns → AreLeadIns edges names moves
run_is_led edges names moves burns relit run before m after are off =
    led_among_all edges names before m after (relit_after before m after (subst IsRelit are relit))
    (run_leads edges names run (lit_moves before) m (lit_moves after) (ap lit_moves are ∙ lit_around before m after off.0) off)

pub burnt_plan_is_sound : BurntPlanIsSound
burnt_plan_is_sound edges names trails leads bytes cut plan burnt =
    let moves = moves_of bytes in
    let led = plan_is_led edges names trails leads plan in
    let run = trails_run edges names led (lit_moves moves) (lit_moves_are_lit moves)
    (burnt_ways edges names trails leads bytes cut led burnt) (burnt_marks edges names trails leads bytes cut led burnt) in
    let sides : Selects (IsHalfEdge edges) (map way (lit_moves moves)) (joined trails) = run_sides edges names run in
    record {
      lead_ins = run_is_led edges names moves (joined trails) (moves_are_relit bytes) run;
      each_edge_once = All-from_contains (λ e. HasCount (IsMoveAlong e) moves 1) edges (λ e stands.
          let (found, selected, one) = plan.covers.each_once e stands in
          count_along e moves 1 (found, selects_through (IsHalfEdgeOf e) (IsHalfEdge edges) (λ h of_e. (e, stands, of_e)) sides selected, one));
      order_enclosing = (joined trails, burns_are edges moves (joined trails) sides, plan.encloses);
    }
