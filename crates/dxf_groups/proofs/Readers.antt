-- The reader behind one more byte, and behind the end.
use Rattle.std.proofs.Common.{arith, ◌≡◌, ℕ, ◌+◌, ◌<◌, Bool, true, false, List, [], ◌∷◌, ◌++◌, length, Some, None, refl, sym, ap, ◌∙◌, subst}
use Rattle.std.specs.Prelude.{◌==◌, ◌&&◌, nat_eq, nat_lt, IsTrue, slice_index, Option, if◌then◌else◌, ◌||◌, is_some}
use Rattle.std.specs.Str.Lines.{strip_carriage_return}
use Rattle.std.proofs.lemmas.Grind.{common_steps}
use Rattle.std.proofs.lemmas.Bool.{true≢false}
use Rattle.std.proofs.lemmas.List.{length-append}
use Rattle.nest_base.specs.Lines.{unended}
use Rattle.nest_base.proofs.Lines.{unended-lf, unended-other}
use Rattle.dxf_groups.specs.declared.answers.Found.{Found}
use Rattle.dxf_groups.specs.declared.answers.Stop.{Stop}
use Rattle.dxf_groups.specs.declared.answers.Stop.TheVariants.{AtEof, AtFault, BeforeCode, BeforeValue}
use Rattle.dxf_groups.specs.declared.answers.GroupError.TheVariants.{Binary}
use Rattle.dxf_groups.specs.Pairs.{Pair, Reading, binary_head, stopped, read_pairs, at_the_end}
use Rattle.dxf_groups.specs.Steps.{IsReadyAt, goes_on, line_behind, pair_of, last_reading, stop_of_end}
use Rattle.dxf_groups.specs.Taking.{Progress, GroupsAt, stop_so_far, stop_with, completed, value_of, found_at, found_at_stop, pair_or, is_open, EndedAt, gave_pair, at_the_last, found_at_end, found_last, completed_by_end}
use Rattle.dxf_groups.proofs.Ends.{closed_end, closed_end_completed, bare_end, bare_end_completed, line_end, line_end_completed}
use Rattle.dxf_groups.proofs.Bytes.{GoesOn, matched_of, matched_on, matched_off, head_stop, head_completed, closed_stop, closed_completed, ended_stop, ended_completed, unended_stop, unended_completed}

-- what the last byte tells, by where the bytes stop and the pair that they complete
found_is : (b : List ℕ) (s : Stop) (p : Option Pair) → s ≡ stop_so_far b → p ≡ completed b → pair_or p (found_at_stop s) ≡ found_at b
found_is b s p e q = ap (λ x. pair_or p (found_at_stop x)) e ∙ ap (λ x. pair_or x (found_at_stop (stop_so_far b))) q

-- a closed reader counts the byte and stays as it is
pub closed_at : (g n : Progress) (b : List ℕ) (c : ℕ) → GroupsAt g b → is_open g.stop ≡ false →
    n.taken ≡ g.taken + 1 → n.stop ≡ g.stop → n.value ≡ None → n.answer ≡ None → GroupsAt n (b ++ c ∷ [])
closed_at g n b c at closed taken stop value answer =
    let shut : is_open (stop_so_far b) ≡ false = ap is_open (sym at.stop) ∙ closed in
    record {
      taken = taken ∙ ap (λ k. k + 1) at.taken ∙ sym (length-append b (c ∷ []));
      stop = stop ∙ at.stop ∙ sym (closed_stop b c shut);
      value = value ∙ ap value_of (sym (closed_completed b c shut));
      answer = answer;
      while_open = λ o. absurd (true≢false (sym o ∙ ap is_open stop ∙ closed));
    }

pub closed_found : (g : Progress) (b : List ℕ) (c : ℕ) → GroupsAt g b → is_open g.stop ≡ false → found_at_stop g.stop ≡ found_at (b ++ c ∷ [])
closed_found g b c at closed =
    let shut : is_open (stop_so_far b) ≡ false = ap is_open (sym at.stop) ∙ closed in
    found_is (b ++ c ∷ []) g.stop None (at.stop ∙ sym (closed_stop b c shut)) (sym (closed_completed b c shut))

-- the three parts of `goes_on`
three_parts : (m t k c : ℕ) → (nat_eq (m + 1) t && nat_lt m 18 && nat_eq k c) ≡ true → (m + 1 ≡ t) × (m < 18) × (k ≡ c)
three_parts m t k c h = grind (arith, common_steps, h)

three_whole : (m t k c : ℕ) → m + 1 ≡ t → m < 18 → k ≡ c → (nat_eq (m + 1) t && nat_lt m 18 && nat_eq k c) ≡ true
three_whole m t k c e f h = grind (arith, common_steps, e, f, h)

-- the reader counts the bytes that are those of a binary drawing
goes_on_is : (g : Progress) (b : List ℕ) (c : ℕ) → IsReadyAt g b → goes_on g c ≡ true → GoesOn b c
goes_on_is g b c at h =
    let parts = three_parts g.matched g.taken (slice_index binary_head g.matched) c h in
    let all : matched_of b ≡ length b = omega (arith, parts.0, at.taken, at.matched) in
    record { all = all; short = omega (arith, parts.1, all, at.matched); next = ap (λ k. slice_index binary_head k) (sym all ∙ sym at.matched) ∙ parts.2 }

goes_on_if : (g : Progress) (b : List ℕ) (c : ℕ) → IsReadyAt g b → GoesOn b c → goes_on g c ≡ true
goes_on_if g b c at on =
    three_whole g.matched g.taken (slice_index binary_head g.matched) c (omega (arith, at.taken, at.matched, on.all)) (omega (arith, at.matched, on.all, on.short))
    (ap (λ k. slice_index binary_head k) (at.matched ∙ on.all) ∙ on.next)

pub counted : (t : Bool) (g : Progress) (b : List ℕ) (c m : ℕ) → IsReadyAt g b → goes_on g c ≡ t → m ≡ (if t then g.matched + 1 else g.matched) → m ≡ matched_of (b ++ c ∷ [])
counted true g b c m at h e = e ∙ ap (λ k. k + 1) at.matched ∙ sym (matched_on b c (goes_on_is g b c at h))
counted false g b c m at h e = e ∙ at.matched ∙ sym (matched_off b c (λ on. true≢false (sym (goes_on_if g b c at on) ∙ h)))

-- the front isn't complete
pub not_complete : (t : Bool) (m k : ℕ) → k ≡ (if t then m + 1 else m) → (t && nat_eq k 18) ≡ false → t ≡ true → m + 1 ≡ 18 → ⊥
not_complete true m k e h on full = grind (arith, common_steps, e, h, full)
not_complete false m k e h on full = true≢false (sym on)

-- a byte that completes the front of a binary drawing
pub head_at : (g n : Progress) (b : List ℕ) (c : ℕ) → IsReadyAt g b → goes_on g c ≡ true → g.matched + 1 ≡ 18 →
    n.taken ≡ g.taken → n.stop ≡ AtFault Binary → n.value ≡ None → n.answer ≡ None → GroupsAt n (b ++ c ∷ [])
head_at g n b c at on full taken stop value answer =
    let goes = goes_on_is g b c at on in
    let long : length b ≡ 17 = omega (arith, at.matched, goes.all, full) in
    record {
      taken = taken ∙ at.taken ∙ sym (length-append b (c ∷ []));
      stop = stop ∙ sym (head_stop b c goes long);
      value = value ∙ ap value_of (sym (head_completed b c goes long));
      answer = answer;
      while_open = λ o. absurd (true≢false (sym o ∙ ap is_open stop));
    }

pub head_found : (g : Progress) (b : List ℕ) (c : ℕ) → IsReadyAt g b → goes_on g c ≡ true → g.matched + 1 ≡ 18 →
    found_at_stop (AtFault Binary) ≡ found_at (b ++ c ∷ [])
head_found g b c at on full =
    let goes = goes_on_is g b c at on in
    let long : length b ≡ 17 = omega (arith, at.matched, goes.all, full) in
    found_is (b ++ c ∷ []) (AtFault Binary) None (sym (head_stop b c goes long)) (sym (head_completed b c goes long))

-- what the reader that is ready takes of the line: what an LF gives
ended_read : (g : Progress) (b : List ℕ) → IsReadyAt g b → line_behind g.stop (strip_carriage_return g.line) ≡ line_behind (stop_so_far b) (strip_carriage_return (unended b))
ended_read g b at = ap (λ s. line_behind s (strip_carriage_return g.line)) at.stop ∙ ap (λ l. line_behind (stop_so_far b) (strip_carriage_return l)) at.line

opened : (g : Progress) (b : List ℕ) → IsReadyAt g b → IsTrue (is_open g.stop) → is_open (stop_so_far b) ≡ true
opened g b at way = ap is_open (sym at.stop) ∙ way

pub ended_at : (g n : Progress) (b : List ℕ) → IsReadyAt g b → IsTrue (is_open g.stop) →
    n.taken ≡ g.taken → n.stop ≡ (line_behind g.stop (strip_carriage_return g.line)).stop →
    n.value ≡ value_of (pair_of (line_behind g.stop (strip_carriage_return g.line))) → n.answer ≡ None →
    n.matched ≡ matched_of (b ++ 10 ∷ []) → n.line ≡ [] → GroupsAt n (b ++ 10 ∷ [])
ended_at g n b at way taken stop value answer matched line =
    let is_open_at = opened g b at way in
    let read = ended_read g b at in
    record {
      taken = taken ∙ at.taken ∙ sym (length-append b (10 ∷ []));
      stop = stop ∙ ap (λ (r : Reading). r.stop) read ∙ sym (ended_stop b is_open_at);
      value = value ∙ ap (λ r. value_of (pair_of r)) read ∙ ap value_of (sym (ended_completed b is_open_at));
      answer = answer;
      while_open = λ o. record { matched = matched; line = line ∙ sym (unended-lf b) };
    }

pub ended_found : (g n : Progress) (b : List ℕ) → IsReadyAt g b → IsTrue (is_open g.stop) → n.stop ≡ (line_behind g.stop (strip_carriage_return g.line)).stop →
    pair_or (pair_of (line_behind g.stop (strip_carriage_return g.line))) (found_at_stop n.stop) ≡ found_at (b ++ 10 ∷ [])
ended_found g n b at way stop =
    let is_open_at = opened g b at way in
    let read = ended_read g b at in
    found_is (b ++ 10 ∷ []) n.stop (pair_of (line_behind g.stop (strip_carriage_return g.line)))
    (stop ∙ ap (λ (r : Reading). r.stop) read ∙ sym (ended_stop b is_open_at)) (ap pair_of read ∙ sym (ended_completed b is_open_at))

-- another byte, which doesn't complete that front
longer_stop : (g : Progress) (b : List ℕ) (c : ℕ) → IsReadyAt g b → stop_with (g.line ++ c ∷ []) g.stop ≡ stop_with (unended b ++ c ∷ []) (stop_so_far b)
longer_stop g b c at = ap (λ s. stop_with (g.line ++ c ∷ []) s) at.stop ∙ ap (λ l. stop_with (l ++ c ∷ []) (stop_so_far b)) at.line

pub longer_at : (g n : Progress) (b : List ℕ) (c : ℕ) → IsReadyAt g b → IsTrue (is_open g.stop) → (c == 10) ≡ false → (goes_on g c ≡ true → g.matched + 1 ≡ 18 → ⊥) →
    n.taken ≡ g.taken → n.stop ≡ stop_with (g.line ++ c ∷ []) g.stop → n.value ≡ None → n.answer ≡ None →
    n.matched ≡ matched_of (b ++ c ∷ []) → (IsTrue (is_open n.stop) → n.line ≡ g.line ++ c ∷ []) → GroupsAt n (b ++ c ∷ [])
longer_at g n b c at way other off taken stop value answer matched line =
    let is_open_at = opened g b at way in
    let not_head : GoesOn b c → length b ≡ 17 → ⊥ = λ on long. off (goes_on_if g b c at on) (omega (arith, at.matched, on.all, long)) in
    record {
      taken = taken ∙ at.taken ∙ sym (length-append b (c ∷ []));
      stop = stop ∙ longer_stop g b c at ∙ sym (unended_stop b c is_open_at other not_head);
      value = value ∙ ap value_of (sym (unended_completed b c is_open_at other not_head));
      answer = answer;
      while_open = λ o. record { matched = matched; line = line o ∙ ap (λ l. l ++ c ∷ []) at.line ∙ sym (unended-other b c other) };
    }

pub longer_found : (g n : Progress) (b : List ℕ) (c : ℕ) → IsReadyAt g b → IsTrue (is_open g.stop) → (c == 10) ≡ false → (goes_on g c ≡ true → g.matched + 1 ≡ 18 → ⊥) →
    n.stop ≡ stop_with (g.line ++ c ∷ []) g.stop → found_at_stop n.stop ≡ found_at (b ++ c ∷ [])
longer_found g n b c at way other off stop =
    let is_open_at = opened g b at way in
    let not_head : GoesOn b c → length b ≡ 17 → ⊥ = λ on long. off (goes_on_if g b c at on) (omega (arith, at.matched, on.all, long)) in
    found_is (b ++ c ∷ []) n.stop None (stop ∙ longer_stop g b c at ∙ sym (unended_stop b c is_open_at other not_head)) (sym (unended_completed b c is_open_at other not_head))

-- what `end` reads, where there is no line or one
abbrev reading_of : Bool → Stop → List ℕ → Reading
reading_of none stop line = if none then stopped stop else line_behind stop line

closed_reading : (none : Bool) (s : Stop) (line : List ℕ) → is_open s ≡ false → reading_of none s line ≡ stopped s
closed_reading true s line h = refl
closed_reading false AtEof line h = refl
closed_reading false (AtFault e) line h = refl
closed_reading false (BeforeCode n) line h = absurd (true≢false h)
closed_reading false (BeforeValue code n) line h = absurd (true≢false h)

some_line : (x : ℕ) (xs : List ℕ) → nat_eq (length (x ∷ xs)) 0 ≡ false
some_line x xs = grind (arith, common_steps)

-- a reading that is the whole one: it stops where the lines of all bytes do, and completes what the end does
abbrev EndsAs : Reading → List ℕ → Type 0
EndsAs read b = (read.stop ≡ (read_pairs b).stop) × (pair_of read ≡ completed_by_end b)

open_reading : (b line : List ℕ) → unended b ≡ line → is_open (stop_so_far b) ≡ true → EndsAs (reading_of (nat_eq (length line) 0) (stop_so_far b) line) b
open_reading b [] e h = (sym (bare_end b h e), sym (bare_end_completed b h e))
open_reading b (x ∷ xs) e h =
    let some : 0 < length (unended b) = rw e (omega arith) in
    subst (λ t. EndsAs (reading_of t (stop_so_far b) (x ∷ xs)) b) (sym (some_line x xs))
    (ap (λ l. (line_behind (stop_so_far b) l).stop) (sym e) ∙ sym (line_end b h some), ap (λ l. pair_of (line_behind (stop_so_far b) l)) (sym e) ∙ sym (line_end_completed b h some))

-- what the first call of `end` takes
end_reads : (g : Progress) (b : List ℕ) → GroupsAt g b → EndsAs (last_reading g) b
end_reads g b at = by_stop (is_open (stop_so_far b)) refl
  where
    stop : last_reading g ≡ reading_of (nat_eq (length g.line) 0) (stop_so_far b) g.line
    stop = ap (λ (a : Option Found). reading_of (is_some a || nat_eq (length g.line) 0) g.stop g.line) at.answer ∙ ap (λ s. reading_of (nat_eq (length g.line) 0) s g.line) at.stop

    by_stop : (t : Bool) → is_open (stop_so_far b) ≡ t → EndsAs (last_reading g) b
    by_stop false shut =
        let read = stop ∙ closed_reading (nat_eq (length g.line) 0) (stop_so_far b) g.line shut in
        (ap (λ (r : Reading). r.stop) read ∙ sym (closed_end b shut), ap pair_of read ∙ sym (closed_end_completed b shut))
    by_stop true way =
        let read = stop ∙ ap (λ l. reading_of (nat_eq (length l) 0) (stop_so_far b) l) ((at.while_open (ap is_open at.stop ∙ way)).line) in
        subst (λ r. EndsAs r b) (sym read) (open_reading b (unended b) refl way)

-- behind the first call of `end`
ended_by : (n : Progress) (b : List ℕ) (p : Option Pair) (s : Stop) → p ≡ completed_by_end b → s ≡ (read_pairs b).stop →
    n.stop ≡ stop_of_end p s → n.value ≡ value_of p → n.answer ≡ Some (pair_or p (found_at_stop n.stop)) → EndedAt n b
ended_by n b (Some p) s e f stop value answer = gave_pair p (sym e) (stop ∙ f) value answer
ended_by n b None s e f stop value answer = at_the_last (stop ∙ ap at_the_end f) value (answer ∙ ap (λ x. Some (found_at_stop x)) (stop ∙ ap at_the_end f))

found_by : (n : Stop) (b : List ℕ) (p : Option Pair) (s : Stop) → p ≡ completed_by_end b → s ≡ (read_pairs b).stop → n ≡ stop_of_end p s →
    pair_or p (found_at_stop n) ≡ found_at_end b
found_by n b (Some p) s e f stop = ap (λ x. pair_or x (found_last b)) e
found_by n b None s e f stop = ap found_at_stop (stop ∙ ap at_the_end f) ∙ ap (λ x. pair_or x (found_last b)) e

pub end_at : (g h n : Progress) (b : List ℕ) → GroupsAt g b → h ≡ record g { value = None } →
    n.stop ≡ stop_of_end (pair_of (last_reading h)) ((last_reading h).stop) → n.value ≡ value_of (pair_of (last_reading h)) →
    n.answer ≡ Some (pair_or (pair_of (last_reading h)) (found_at_stop n.stop)) → EndedAt n b
end_at g h n b at same stop value answer =
    let reads = subst (λ r. EndsAs r b) (sym (ap last_reading same)) (end_reads g b at) in
    ended_by n b (pair_of (last_reading h)) ((last_reading h).stop) reads.1 reads.0 stop value answer

pub end_found : (g h : Progress) (n : Stop) (b : List ℕ) → GroupsAt g b → h ≡ record g { value = None } →
    n ≡ stop_of_end (pair_of (last_reading h)) ((last_reading h).stop) → pair_or (pair_of (last_reading h)) (found_at_stop n) ≡ found_at_end b
end_found g h n b at same stop =
    let reads = subst (λ r. EndsAs r b) (sym (ap last_reading same)) (end_reads g b at) in
    found_by n b (pair_of (last_reading h)) ((last_reading h).stop) reads.1 reads.0 stop
