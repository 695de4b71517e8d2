-- A refusal that stands whatever follows has come.
use Rattle.std.proofs.Common.{arith, ◌≡◌, ℕ, zero, suc, ◌+◌, ◌≤◌, Bool, true, false, cond, List, [], ◌∷◌, ◌++◌, length, inl, inr, refl, sym, ap, ◌∙◌, Some, None, ℤ}
use Rattle.std.specs.Prelude.{Option, replicate}
use Rattle.std.specs.Str.Lines.{strip_carriage_return}
use Rattle.std.proofs.lemmas.Bool.{cases_Bool, lt-ltb, false_from_ne_true}
use Rattle.std.proofs.lemmas.List.{append-nil, append_assoc, length-append, length-replicate}
use Rattle.nest_base.specs.Lines.{unended}
use Rattle.nest_base.proofs.Lines.{unended-lf, ended_lines-run, unended-run, length-strip}
use Rattle.dxf_groups.specs.declared.answers.GroupError.{GroupError}
use Rattle.dxf_groups.specs.declared.answers.GroupError.TheVariants.{LineTooLong}
use Rattle.dxf_groups.specs.declared.answers.Stop.{Stop}
use Rattle.dxf_groups.specs.declared.answers.Stop.TheVariants.{AtEof, AtFault, BeforeCode, BeforeValue}
use Rattle.dxf_groups.specs.Pairs.{Pair, stopped, put_front, behind_code, is_binary, is_too_long, is_eof, code_of, read_from, read_pairs, at_the_end, fault_of, group_refusal_of}
use Rattle.dxf_groups.specs.Steps.{line_behind, number_of}
use Rattle.dxf_groups.specs.Taking.{reading_so_far, stop_so_far, with_unended, is_open}
use Rattle.dxf_groups.specs.Laws.{RefusalComesAtOnce}
use Rattle.dxf_groups.proofs.Head.{head_by_last}
use Rattle.dxf_groups.proofs.Readings.{too_long_at}
use Rattle.dxf_groups.proofs.State.{ended, reading_so_far-text, stop_with-overlong, open_text}
use Rattle.dxf_groups.proofs.SoFar.{reading_so_far-lf}
use Rattle.dxf_groups.proofs.Ends.{read_pairs-closed, read_pairs-bare}
use Rattle.dxf_groups.proofs.Growth.{group_refusal_of-closed}

-- a line that isn't too long isn't refused for that
code_not_long : (t : Bool) (o : Option ℤ) (n m : ℕ) → t ≡ false →
    fault_of (at_the_end ((cond t (stopped (AtFault (LineTooLong n))) (behind_code n o (λ code. stopped (BeforeValue code (n + 1))))).stop)) ≡ Some (LineTooLong m) → ⊥
code_not_long true o n m short h = cc
code_not_long false None n m short h = cc
code_not_long false (Some code) n m short h = cc

value_not_long : (t e : Bool) (p : Pair) (n m : ℕ) → t ≡ false →
    fault_of (at_the_end ((cond t (stopped (AtFault (LineTooLong p.line))) (cond e (put_front p (stopped AtEof)) (put_front p (stopped (BeforeCode n))))).stop)) ≡ Some (LineTooLong m) → ⊥
value_not_long true e p n m short h = cc
value_not_long false true p n m short h = cc
value_not_long false false p n m short h = cc

line_not_long : (stop : Stop) (line : List ℕ) (m : ℕ) → is_open stop ≡ true → is_too_long line ≡ false → fault_of (at_the_end ((line_behind stop line).stop)) ≡ Some (LineTooLong m) → ⊥
line_not_long AtEof line m free short h = cc
line_not_long (AtFault e) line m free short h = cc
line_not_long (BeforeCode n) line m free short h = code_not_long (is_too_long line) (code_of line) n m short h
line_not_long (BeforeValue code n) line m free short h =
    let p : Pair = record { code = code; value = line; line = n } in
    value_not_long (is_too_long line) (is_eof p) p (n + 1) m short h

-- so an LF leads to another refusal, or to none
read_pairs-lf : (b : List ℕ) → read_pairs (b ++ 10 ∷ []) ≡ reading_so_far (b ++ 10 ∷ [])
read_pairs-lf b = elim (cases_Bool (is_open (stop_so_far (b ++ 10 ∷ [])))) [
  | inl free ↦ read_pairs-bare (b ++ 10 ∷ []) free (unended-lf b)
  | inr shut ↦ read_pairs-closed (b ++ 10 ∷ []) shut
]

lf_not_long : (b : List ℕ) (m : ℕ) → is_open (stop_so_far b) ≡ true → group_refusal_of (b ++ 10 ∷ []) ≡ Some (LineTooLong m) → ⊥
lf_not_long b m free h = line_not_long (stop_so_far b) (strip_carriage_return (unended b)) m free (open_text b free).short
    (sym (ap (λ read. fault_of (at_the_end read.stop)) (read_pairs-lf b ∙ reading_so_far-lf b free)) ∙ h)

-- bytes `x` complete no front of a binary drawing
run_is_text : (b : List ℕ) (n : ℕ) → is_binary b ≡ false → is_binary (b ++ replicate n 120) ≡ false
run_is_text b zero text = ap is_binary (append-nil b) ∙ text
run_is_text b (suc n) text =
    ap is_binary (sym (append_assoc b (120 ∷ []) (replicate n 120)))
    ∙ run_is_text (b ++ 120 ∷ []) n (false_from_ne_true (is_binary (b ++ 120 ∷ [])) (λ now. absurd (omega (arith, (head_by_last b 120 text now).1))))

-- many of them make a line too long
run_overlong : (b : List ℕ) (n : ℕ) → 4098 ≤ n → is_too_long (strip_carriage_return (unended (b ++ replicate n 120))) ≡ true
run_overlong b n many =
    let line = unended (b ++ replicate n 120) in
    let long : length line ≡ length (unended b) + n = ap length (unended-run b n 120 refl) ∙ length-append (unended b) (replicate n 120) ∙ ap (λ k. length (unended b) + k) (length-replicate n 120) in
    lt-ltb 4096 (length (strip_carriage_return line)) (omega (arith, length-strip line))

run_too_long : (b : List ℕ) (n : ℕ) → 4098 ≤ n → is_open (stop_so_far b) ≡ true → stop_so_far (b ++ replicate n 120) ≡ too_long_at (ended b).stop
run_too_long b n many free =
    let o = open_text b free in
    ap (λ read. read.stop) (reading_so_far-text (b ++ replicate n 120) (run_is_text b n o.text)
    ∙ ap (λ lines. with_unended (unended (b ++ replicate n 120)) (read_from 1 lines)) (ended_lines-run b n 120 refl))
    ∙ stop_with-overlong (unended (b ++ replicate n 120)) (ended b).stop o.free (run_overlong b n many)

run_refused : (b : List ℕ) (n : ℕ) → 4098 ≤ n → is_open (stop_so_far b) ≡ true → group_refusal_of (b ++ replicate n 120) ≡ Some (LineTooLong (number_of (ended b).stop))
run_refused b n many free =
    let stop = run_too_long b n many free in
    ap (λ s. fault_of (at_the_end s)) (ap (λ read. read.stop) (read_pairs-closed (b ++ replicate n 120) (ap is_open stop)) ∙ stop)

-- an open text has no refusal that stands whatever follows
open_not_refused : (b : List ℕ) (n : ℕ) (e : GroupError) → 4098 ≤ n → is_open (stop_so_far b) ≡ true → ((more : List ℕ) → group_refusal_of (b ++ more) ≡ Some e) → ⊥
open_not_refused b n e many free h = lf_not_long b (number_of (ended b).stop) free (h (10 ∷ []) ∙ sym (h (replicate n 120)) ∙ run_refused b n many free)

-- a refusal at the end of a text that stands closed
closed_refused : (stop : Stop) (e : GroupError) → is_open stop ≡ false → fault_of (at_the_end stop) ≡ Some e → fault_of stop ≡ Some e
closed_refused AtEof e shut h = h
closed_refused (AtFault f) e shut h = h
closed_refused (BeforeCode n) e shut h = absurd (cc)
closed_refused (BeforeValue code n) e shut h = absurd (cc)

pub refusal_has_come : RefusalComesAtOnce
refusal_has_come b e h = elim (cases_Bool (is_open (stop_so_far b))) [
  | inl free ↦ absurd (open_not_refused b 4098 e (omega arith) free h)
  | inr shut ↦ closed_refused (stop_so_far b) e shut (sym (group_refusal_of-closed b [] shut) ∙ h [])
]
