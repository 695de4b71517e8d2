-- The reader of bytes: what its answers give, and the drawing at the end.
use Rattle.std.proofs.Common.{arith, ◌≡◌, ◌<◌, ℕ, Bool, false, List, [], ◌∷◌, length, Some, None, refl, sym, ap, ◌∙◌, subst}
use Rattle.std.specs.Prelude.{Option, option_map, is_some, nat_eq}
use Rattle.std.specs.Option.{option_or}
use Rattle.std.proofs.lemmas.Grind.{common_steps}
use Rattle.std.proofs.lemmas.Bool.{true≢false}
use Rattle.nest_base.specs.declared.places.Segment.{Segment}
use Rattle.nest_base.specs.Drawing.{Lists}
use Rattle.dxf_groups.specs.declared.answers.Found.{Found}
use Rattle.dxf_groups.specs.declared.answers.GroupError.{GroupError}
use Rattle.dxf_groups.specs.declared.answers.Stop.{Stop}
use Rattle.dxf_groups.specs.declared.answers.Stop.TheVariants.{AtEof, AtFault, BeforeCode, BeforeValue}
use Rattle.dxf_groups.specs.Pairs.{Pair, read_pairs, pairs_of, at_the_end, fault_of, group_refusal_of}
use Rattle.dxf_groups.specs.Steps.{gives_pair}
use Rattle.dxf_groups.specs.Taking.{Progress, EndedAt, gave_pair, at_the_last, completed, completed_by_end, value_of, found_at, found_at_end, found_last, found_at_stop, pair_or, stop_so_far}
use Rattle.dxf_entities.specs.declared.error.DrawingError.{DrawingError}
use Rattle.dxf_entities.specs.declared.error.DrawingError.TheVariants.{Groups, Nothing}
use Rattle.dxf_drawing.specs.States.{events_of}
use Rattle.dxf_drawing.specs.Drawings.{segments_in, names_in, entity_refusal, unless_some, segments_of, names_of, read_refusal_of}
use Rattle.dxf_drawing.specs.DrawingBuilder.{DrawingSoFar, Holds}
use Rattle.dxf_drawing.specs.Reading.{IsFound, IsRead}
use Rattle.dxf_drawing.proofs.Rooms.{segments_fit, names_fit}

no_pair : (s : Stop) → gives_pair (found_at_stop s) ≡ false
no_pair AtEof = refl
no_pair (AtFault e) = refl
no_pair (BeforeCode n) = refl
no_pair (BeforeValue code n) = refl

found_by : (o : Option Pair) (s : Stop) (v : Option (List ℕ)) → v ≡ value_of o → IsFound (pair_or o (found_at_stop s)) v o
found_by (Some p) s v e = (refl, e)
found_by None s v e = no_pair s

-- what a byte completed
pub taken_pair : (b : List ℕ) (v : Option (List ℕ)) → v ≡ value_of (completed b) → IsFound (found_at b) v (completed b)
taken_pair b v e = found_by (completed b) (stop_so_far b) v e

same_pair : (p q : Pair) → Some p ≡ Some q → p ≡ q
same_pair p q e = cc

ended_by : (g : Progress) (b : List ℕ) (o : Option Pair) (found : Found) → o ≡ completed_by_end b → EndedAt g b → found ≡ pair_or o (found_last b) → is_some g.value ≡ gives_pair found →
    IsFound found g.value o
ended_by g b None found e at is some = ap gives_pair is ∙ no_pair (at_the_end ((read_pairs b).stop))
ended_by g b (Some p) found e (gave_pair q by_end stop value answer) is some = (is, value ∙ ap (λ (r : Pair). Some r.value) (sym (same_pair p q (e ∙ by_end))))
ended_by g b (Some p) found e (at_the_last stop value answer) is some = absurd (true≢false (ap gives_pair (sym is) ∙ sym some ∙ ap is_some value))

-- what the end completed
pub ended_pair : (g : Progress) (b : List ℕ) (found : Found) → EndedAt g b → found ≡ found_at_end b → is_some g.value ≡ gives_pair found → IsFound found g.value (completed_by_end b)
ended_pair g b found at is some = ended_by g b (completed_by_end b) found refl at is some

-- the last call of `end` leaves the lines where they stop
pub stop_at_the_end : (g : Progress) (b : List ℕ) (found : Found) → EndedAt g b → found ≡ found_last b → g.answer ≡ Some found → g.stop ≡ at_the_end ((read_pairs b).stop)
stop_at_the_end g b found (at_the_last stop value answer) is answered = stop
stop_at_the_end g b found (gave_pair p by_end stop value answer) is answered =
    absurd (true≢false (ap events_at (sym answer ∙ answered) ∙ ap gives_pair is ∙ no_pair (at_the_end ((read_pairs b).stop))))
  where
    events_at : Option Found → Bool
    events_at None = false
    events_at (Some f) = gives_pair f

-- the definitions of a file's drawing
refusal_is : (b : List ℕ) → read_refusal_of b ≡ option_or (option_map Groups (group_refusal_of b)) (option_or (entity_refusal (events_of (pairs_of b))) (unless_some (segments_in (events_of (pairs_of b)))))
unfolding read_refusal_of
refusal_is b = refl

segments_are : (b : List ℕ) → segments_of b ≡ segments_in (events_of (pairs_of b))
unfolding segments_of
segments_are b = refl

names_are : (b : List ℕ) → names_of b ≡ names_in (events_of (pairs_of b))
unfolding names_of
names_are b = refl

pub refused_by_lines : (b : List ℕ) (stop : Stop) (e : GroupError) → stop ≡ at_the_end ((read_pairs b).stop) → fault_of stop ≡ Some e → read_refusal_of b ≡ Some (Groups e)
refused_by_lines b stop e is fault =
    refusal_is b ∙ ap (λ f. option_or (option_map Groups f) (option_or (entity_refusal (events_of (pairs_of b))) (unless_some (segments_in (events_of (pairs_of b)))))) (ap fault_of (sym is) ∙ fault)

not_by_lines : (b : List ℕ) (stop : Stop) → stop ≡ at_the_end ((read_pairs b).stop) → fault_of stop ≡ None →
    read_refusal_of b ≡ option_or (entity_refusal (events_of (pairs_of b))) (unless_some (segments_in (events_of (pairs_of b))))
not_by_lines b stop is fault =
    refusal_is b ∙ ap (λ f. option_or (option_map Groups f) (option_or (entity_refusal (events_of (pairs_of b))) (unless_some (segments_in (events_of (pairs_of b)))))) (ap fault_of (sym is) ∙ fault)

pub refused_by_entities : (b : List ℕ) (stop : Stop) (k : DrawingSoFar) (e : DrawingError) → stop ≡ at_the_end ((read_pairs b).stop) → fault_of stop ≡ None →
    Holds k (events_of (pairs_of b)) → k.refusal ≡ Some e → read_refusal_of b ≡ Some e
refused_by_entities b stop k e is fault held some =
    not_by_lines b stop is fault ∙ ap (λ r. option_or r (unless_some (segments_in (events_of (pairs_of b))))) (sym held.refusal ∙ some)

not_by_entities : (b : List ℕ) (stop : Stop) (k : DrawingSoFar) → stop ≡ at_the_end ((read_pairs b).stop) → fault_of stop ≡ None →
    Holds k (events_of (pairs_of b)) → k.refusal ≡ None → read_refusal_of b ≡ unless_some k.drawing.segments
not_by_entities b stop k is fault held none =
    not_by_lines b stop is fault ∙ ap (λ r. option_or r (unless_some (segments_in (events_of (pairs_of b))))) (sym held.refusal ∙ none) ∙ ap unless_some (sym (held.segments none))

no_segment : (segments : List Segment) → length segments ≡ 0 → unless_some segments ≡ Some Nothing
no_segment [] e = refl
no_segment (s ∷ segments) e = absurd (omega arith)

a_segment : (segments : List Segment) → 0 < length segments → unless_some segments ≡ None
a_segment [] h = absurd (omega arith)
a_segment (s ∷ segments) h = refl

pub refused_as_empty : (b : List ℕ) (stop : Stop) (k : DrawingSoFar) → stop ≡ at_the_end ((read_pairs b).stop) → fault_of stop ≡ None →
    Holds k (events_of (pairs_of b)) → k.refusal ≡ None → length k.drawing.segments ≡ 0 → read_refusal_of b ≡ Some Nothing
refused_as_empty b stop k is fault held none empty = not_by_entities b stop k is fault held none ∙ no_segment k.drawing.segments empty

pub read_whole : (b : List ℕ) (stop : Stop) (k : DrawingSoFar) (d : Lists) → stop ≡ at_the_end ((read_pairs b).stop) → fault_of stop ≡ None →
    Holds k (events_of (pairs_of b)) → k.refusal ≡ None → d ≡ k.drawing → 0 < length d.segments → IsRead b d
read_whole b stop k d is fault held none same some = record {
  accepted = not_by_entities b stop k is fault held none ∙ a_segment k.drawing.segments (subst (λ (l : Lists). 0 < length l.segments) same some);
  segments = segments ∙ sym (segments_are b);
  names = names ∙ sym (names_are b);
  most_segments = omega (arith, ap (λ (l : List Segment). length l) segments, segments_fit 20000 5000 (events_of (pairs_of b)) (sym held.refusal ∙ none));
  most_names = omega (arith, ap length names, names_fit 20000 5000 (events_of (pairs_of b)) (sym held.refusal ∙ none));
}
  where
    segments : d.segments ≡ segments_in (events_of (pairs_of b))
    segments = ap (λ (l : Lists). l.segments) same ∙ held.segments none

    names : d.names ≡ names_in (events_of (pairs_of b))
    names = ap (λ (l : Lists). l.names) same ∙ held.names none

pub not_empty : (n : ℕ) → nat_eq n 0 ≡ false → 0 < n
not_empty n h = grind (arith, common_steps, h)
