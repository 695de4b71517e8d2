-- A code, line by line: its moves and its refusal behind the lines so far.
use Rattle.std.proofs.Common.{arith, ◌≡◌, ℕ, ◌+◌, ◌<◌, ◌≤◌, Bool, true, false, List, [], ◌∷◌, ◌++◌, length, Some, None, refl, sym, ap, ◌∙◌, append_assoc}
use Rattle.std.specs.Prelude.{OnOk, Result, Ok, Err, Option, not, ◌&&◌, ◌||◌, map, if◌then◌else◌}
use Rattle.std.specs.Result.{is_err}
use Rattle.std.proofs.lemmas.Bool.{true≢false}
use Rattle.std.proofs.lemmas.List.{append-nil}
use Rattle.nest_base.specs.Lines.{lines_of}
use Rattle.code_moves.specs.declared.moves.Move.{Move}
use Rattle.code_moves.specs.declared.faults.CodeFault.{CodeFault}
use Rattle.code_moves.specs.declared.faults.CodeError.TheVariants.{NoEnd}
use Rattle.code_moves.specs.Words.{Content, content_of}
use Rattle.code_moves.specs.History.{is_moving, is_lit, has_burnt, is_ended}
use Rattle.code_moves.specs.Meaning.{one_if, closing_by_m5, made, closing_by_end, moves_at, moves_from, moves_of, content_or_empty, line_fault, error_at, or_fault, refusal_from, code_refusal_of}
use Rattle.ngc_meaning.specs.declared.machine.Stepped.{Stepped}
use Rattle.ngc_meaning.specs.Machines.{State, MachineAt, IsTaken, listed}

-- what a reader has behind some lines of a code
pub record ReadSoFar (bytes : List ℕ) (m : State) (moves : List Move) (rest : List ℕ) : Type 0 where
  pub earlier : List Content
  pub at : MachineAt earlier m
  pub are_moves : moves_of bytes ≡ moves ++ moves_from earlier (map content_or_empty (lines_of rest))
  pub is_refusal : code_refusal_of bytes ≡ refusal_from earlier (lines_of rest)
  pub few : length earlier + length rest ≤ length bytes

-- a line makes no move where it closes a lighting by the end
made_or_end : {X : Type 0} (moving lit burnt ended : Bool) (x y : X) →
    one_if moving x ++ one_if (ended && lit && not (lit && (moving || burnt))) y ≡ one_if (ended && lit && not (lit && (moving || burnt))) y ++ one_if moving x
made_or_end false lit burnt ended x y = sym (append-nil (one_if (ended && lit && not (lit && burnt)) y))
made_or_end true true burnt true x y = refl
made_or_end true true burnt false x y = refl
made_or_end true false burnt true x y = refl
made_or_end true false burnt false x y = refl

-- the moves of a line: the closing one first
pub moves_of_line : (l : Content) (earlier : List Content) (s : Stepped) → IsTaken earlier l s → moves_at l earlier ≡ listed s.closing ++ listed s.made
moves_of_line l earlier s t =
    append_assoc (closing_by_m5 l earlier) (made l earlier) (closing_by_end l earlier)
    ∙ ap (λ r. closing_by_m5 l earlier ++ r) (made_or_end (is_moving (l ∷ earlier)) (is_lit (l ∷ earlier)) (has_burnt earlier) (is_ended (l ∷ earlier)) _ _)
    ∙ sym (append_assoc (closing_by_m5 l earlier) (closing_by_end l earlier) (made l earlier))
    ∙ ap (λ c. c ++ made l earlier) (sym t.closing) ∙ ap (λ m. listed s.closing ++ m) (sym t.made)

-- before the first line
pub at_start : (bytes : List ℕ) (m : State) (moves : List Move) → MachineAt [] m → moves ≡ [] → ReadSoFar bytes m moves bytes
unfolding moves_of code_refusal_of
at_start bytes m moves at e = record { earlier = []; at = at; are_moves = rw e refl; is_refusal = refl; few = omega arith }

-- no line is left
pub no_end : (bytes : List ℕ) (m : State) (moves : List Move) (rest : List ℕ) → ReadSoFar bytes m moves rest → lines_of rest ≡ [] → code_refusal_of bytes ≡ Some (NoEnd (m.lines + 1))
no_end bytes m moves rest so_far none = so_far.is_refusal ∙ ap (refusal_from so_far.earlier) none ∙ ap (λ n. Some (NoEnd (n + 1))) (sym so_far.at.taken)

-- the next line has a fault
pub line_refused : (bytes : List ℕ) (m : State) (moves : List Move) (rest line next : List ℕ) (f : CodeFault) (so_far : ReadSoFar bytes m moves rest) → lines_of rest ≡ line ∷ lines_of next →
    line_fault (content_of line) so_far.earlier ≡ Some f → code_refusal_of bytes ≡ Some (error_at f (m.lines + 1))
line_refused bytes m moves rest line next f so_far split fault = so_far.is_refusal ∙ ap (refusal_from so_far.earlier) split ∙ rw fault (ap (λ n. Some (error_at f (n + 1))) (sym so_far.at.taken))

-- the moves behind a line
moves_split : (bytes : List ℕ) (m : State) (moves : List Move) (rest line next : List ℕ) (s : Stepped) (t : Bool) (so_far : ReadSoFar bytes m moves rest) → lines_of rest ≡ line ∷ lines_of next →
    IsTaken so_far.earlier (content_or_empty line) s → s.ended ≡ t →
    moves_of bytes ≡ moves ++ listed s.closing ++ listed s.made ++ (if t then [] else moves_from (content_or_empty line ∷ so_far.earlier) (map content_or_empty (lines_of next)))
moves_split bytes m moves rest line next s t so_far split taken e =
    so_far.are_moves ∙ ap (λ ls. moves ++ moves_from so_far.earlier (map content_or_empty ls)) split
    ∙ ap (λ b. moves ++ (moves_at l so_far.earlier ++ (if b then [] else later))) (sym taken.ended ∙ e)
    ∙ sym (append_assoc moves (moves_at l so_far.earlier) (if t then [] else later))
    ∙ ap (λ c. moves ++ c ++ (if t then [] else later)) (moves_of_line l so_far.earlier s taken)
    ∙ ap (λ c. c ++ (if t then [] else later)) (sym (append_assoc moves (listed s.closing) (listed s.made)))
  where
    l : Content
    l = content_or_empty line

    later : List Move
    later = moves_from (content_or_empty line ∷ so_far.earlier) (map content_or_empty (lines_of next))

refusal_split : (bytes : List ℕ) (m : State) (moves : List Move) (rest line next : List ℕ) (s : Stepped) (t : Bool) (so_far : ReadSoFar bytes m moves rest) → lines_of rest ≡ line ∷ lines_of next →
    line_fault (content_of line) so_far.earlier ≡ None → IsTaken so_far.earlier (content_or_empty line) s → s.ended ≡ t →
    code_refusal_of bytes ≡ (if t then None else refusal_from (content_or_empty line ∷ so_far.earlier) (lines_of next))
refusal_split bytes m moves rest line next s t so_far split fault taken e =
    so_far.is_refusal ∙ ap (refusal_from so_far.earlier) split
    ∙ ap (λ f. or_fault f (length so_far.earlier + 1) (if is_ended (content_or_empty line ∷ so_far.earlier) then None else refusal_from (content_or_empty line ∷ so_far.earlier) (lines_of next))) fault
    ∙ ap (λ b. if b then None else refusal_from (content_or_empty line ∷ so_far.earlier) (lines_of next)) (sym taken.ended ∙ e)

-- the next line ends the program
pub line_ends : (bytes : List ℕ) (m : State) (moves : List Move) (rest line next : List ℕ) (s : Stepped) (so_far : ReadSoFar bytes m moves rest) → lines_of rest ≡ line ∷ lines_of next →
    line_fault (content_of line) so_far.earlier ≡ None → IsTaken so_far.earlier (content_or_empty line) s → s.ended ≡ true →
    (code_refusal_of bytes ≡ None) × (moves ++ listed s.closing ++ listed s.made ≡ moves_of bytes)
line_ends bytes m moves rest line next s so_far split fault taken ended = (
  refusal_split bytes m moves rest line next s true so_far split fault taken ended,
  sym (append-nil (moves ++ listed s.closing ++ listed s.made)) ∙ sym (moves_split bytes m moves rest line next s true so_far split taken ended),
)

-- it doesn't
pub line_on : (bytes : List ℕ) (m n : State) (moves : List Move) (rest line next : List ℕ) (s : Stepped) (so_far : ReadSoFar bytes m moves rest) → lines_of rest ≡ line ∷ lines_of next →
    length next < length rest → line_fault (content_of line) so_far.earlier ≡ None → IsTaken so_far.earlier (content_or_empty line) s → s.ended ≡ false →
    MachineAt (content_or_empty line ∷ so_far.earlier) n → ReadSoFar bytes n (moves ++ listed s.closing ++ listed s.made) next
line_on bytes m n moves rest line next s so_far split shorter fault taken on to = record {
  earlier = content_or_empty line ∷ so_far.earlier;
  at = to;
  are_moves = moves_split bytes m moves rest line next s false so_far split taken on;
  is_refusal = refusal_split bytes m moves rest line next s false so_far split fault taken on;
  few = omega (arith, so_far.few, shorter);
}

pub none_by : (f : Option CodeFault) → ((x : CodeFault) → f ≡ Some x → ⊥) → f ≡ None
none_by None h = refl
none_by (Some x) h = absurd (h x refl)

-- what holds after a call that gave no error
pub after_ok : {A B : Type 0} (r : Result A B) (P : Type 0) → OnOk r P → is_err r ≡ false → P
after_ok (Ok a) P h e = h
after_ok (Err b) P h e = absurd (true≢false e)
