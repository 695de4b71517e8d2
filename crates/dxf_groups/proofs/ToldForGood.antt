-- A refusal that was told is told for good.
use Rattle.std.proofs.Common.{◌≡◌, ℕ, false, List, [], ◌∷◌, ◌++◌, refl, sym, ap, ◌∙◌, Some, None}
use Rattle.std.specs.Prelude.{Option}
use Rattle.std.proofs.lemmas.List.{append-nil, append_assoc}
use Rattle.dxf_groups.specs.declared.answers.GroupError.{GroupError}
use Rattle.dxf_groups.specs.declared.answers.Found.TheVariants.{Refused}
use Rattle.dxf_groups.specs.declared.answers.Stop.{Stop}
use Rattle.dxf_groups.specs.declared.answers.Stop.TheVariants.{AtEof, AtFault, BeforeCode, BeforeValue}
use Rattle.dxf_groups.specs.Pairs.{Pair, read_pairs, at_the_end, fault_of}
use Rattle.dxf_groups.specs.Taking.{Progress, EndedAt, stop_so_far, completed, completed_by_end, pair_or, found_at_stop, found_last, is_open, gave_pair, at_the_last}
use Rattle.dxf_groups.specs.Laws.{IsRefusedFor, TakeStaysRefused, EndStaysRefused}
use Rattle.dxf_groups.proofs.Bytes.{closed_stop, closed_completed}
use Rattle.dxf_groups.proofs.Ends.{closed_end, closed_end_completed}
use Rattle.dxf_groups.proofs.Growth.{closed_stays}

-- a refusal is told where no pair is, and where the lines stop at a fault
refused_at : (p : Option Pair) (stop : Stop) → pair_or p (found_at_stop stop) ≡ Refused → (e : GroupError) × (p ≡ None) × (stop ≡ AtFault e)
refused_at (Some p) stop h = absurd (cc)
refused_at None AtEof h = absurd (cc)
refused_at None (AtFault e) h = (e, refl, refl)
refused_at None (BeforeCode n) h = absurd (cc)
refused_at None (BeforeValue code n) h = absurd (cc)

-- behind a closed stop no byte completes a pair
none_completed : (more b : List ℕ) → is_open (stop_so_far b) ≡ false → completed b ≡ None → completed (b ++ more) ≡ None
none_completed [] b shut none = ap completed (append-nil b) ∙ none
none_completed (c ∷ more) b shut none =
    ap completed (sym (append_assoc b (c ∷ []) more)) ∙ none_completed more (b ++ c ∷ []) (ap is_open (closed_stop b c shut) ∙ shut) (closed_completed b c shut)

-- a reader that was told the end has the reason of the lines
ended_fault : (g : Progress) (b : List ℕ) (e : GroupError) → (read_pairs b).stop ≡ AtFault e → EndedAt g b → fault_of g.stop ≡ Some e
ended_fault g b e last (gave_pair p some stop value answer) = ap fault_of (stop ∙ last)
ended_fault g b e last (at_the_last stop value answer) = ap fault_of (stop ∙ ap at_the_end last)

refused_for : (b : List ℕ) (e : GroupError) → completed b ≡ None → stop_so_far b ≡ AtFault e → IsRefusedFor e b
refused_for b e none stop =
    let shut : is_open (stop_so_far b) ≡ false = ap is_open stop in
    let last : (read_pairs b).stop ≡ AtFault e = closed_end b shut ∙ stop in
    let again : found_last b ≡ Refused = ap (λ s. found_at_stop (at_the_end s)) last in
    record {
      by_take = ap (λ p. pair_or p (found_at_stop (stop_so_far b))) none ∙ ap found_at_stop stop;
      by_end = ap (λ p. pair_or p (found_last b)) (closed_end_completed b shut) ∙ again;
      by_end_again = again;
      so_far = λ g at. ap fault_of (at.stop ∙ stop);
      ended = λ g at. ended_fault g b e last at;
      whole = ap (λ s. fault_of (at_the_end s)) last;
    }

pub take_stays : TakeStaysRefused
take_stays b h =
    let at = refused_at (completed b) (stop_so_far b) h in
    let shut : is_open (stop_so_far b) ≡ false = ap is_open at.2 in
    (at.0, λ more. refused_for (b ++ more) at.0 (none_completed more b shut at.1) (ap (λ read. read.stop) (closed_stays more b shut) ∙ at.2))

-- `end` tells a refusal where it completes no pair
end_fault : (g : Progress) (b : List ℕ) (e : GroupError) → completed_by_end b ≡ None → at_the_end ((read_pairs b).stop) ≡ AtFault e → EndedAt g b → fault_of g.stop ≡ Some e
end_fault g b e none last (gave_pair p some stop value answer) = absurd (cc)
end_fault g b e none last (at_the_last stop value answer) = ap fault_of (stop ∙ last)

pub end_stays : EndStaysRefused
end_stays b h =
    let at = refused_at (completed_by_end b) (at_the_end ((read_pairs b).stop)) h in
    (at.0, ap fault_of at.2, ap found_at_stop at.2, λ g ended. end_fault g b at.0 at.1 at.2 ended)
