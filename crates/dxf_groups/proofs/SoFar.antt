-- What the bytes so far determine, and one more byte.
use Rattle.std.proofs.Common.{arith, ◌≡◌, ℕ, true, false, List, [], ◌∷◌, ◌++◌, length, inl, inr, refl, sym, ap, ◌∙◌}
use Rattle.std.specs.Prelude.{◌==◌}
use Rattle.std.specs.Str.Lines.{strip_carriage_return}
use Rattle.std.proofs.lemmas.Bool.{cases_Bool, eqb-true, ltb-true, lt-ltb, both_ways, false_from_ne_true}
use Rattle.std.proofs.lemmas.List.{length_push}
use Rattle.nest_base.specs.Lines.{ended_lines, unended}
use Rattle.nest_base.proofs.Lines.{ended_lines-lf, unended-lf, ended_lines-other, unended-other, length-strip}
use Rattle.dxf_groups.specs.Pairs.{is_too_long, is_binary, read_from}
use Rattle.dxf_groups.specs.Steps.{then_line}
use Rattle.dxf_groups.specs.Taking.{reading_so_far, stop_so_far, with_unended, is_open}
use Rattle.dxf_groups.proofs.Head.{is_binary-append, head_by_last}
use Rattle.dxf_groups.proofs.Readings.{read_more, reading_of, then_line-closed, then_line-too_long, too_long_at}
use Rattle.dxf_groups.proofs.State.{ended, overlong, reading_so_far-binary, reading_so_far-text, stop_with-closed, stop_with-short, stop_with-overlong, State, state, open_text}
use Rattle.dxf_groups.proofs.State.State.{binary, closed, too_long, open_line}

-- before the front of a binary drawing is complete, the text stands open
front_is_open : (b : List ℕ) (c : ℕ) → is_binary b ≡ false → is_binary (b ++ c ∷ []) ≡ true → (is_open (ended b).stop ≡ true) × (overlong b ≡ false)
front_is_open b c before now = rw (head_by_last b c before now).0 (refl, refl)

ended-lf : (b : List ℕ) → ended (b ++ 10 ∷ []) ≡ then_line (ended b) (strip_carriage_return (unended b))
ended-lf b = ap (λ lines. read_from 1 lines) (ended_lines-lf b) ∙ read_more 1 (ended_lines b) (strip_carriage_return (unended b))

ended-other : (b : List ℕ) (c : ℕ) → (c == 10) ≡ false → ended (b ++ c ∷ []) ≡ ended b
ended-other b c other = ap (λ lines. read_from 1 lines) (ended_lines-other b c other)

ended-closed : (b : List ℕ) (c : ℕ) → is_open (ended b).stop ≡ false → ended (b ++ c ∷ []) ≡ ended b
ended-closed b c shut = elim (cases_Bool (c == 10)) [
  | inl lf ↦ rw (eqb-true c 10 lf) (ended-lf b ∙ then_line-closed (ended b) (strip_carriage_return (unended b)) shut)
  | inr other ↦ ended-other b c other
]

text_stays : (b : List ℕ) (c : ℕ) → is_binary b ≡ false → ((is_open (ended b).stop ≡ true) × (overlong b ≡ false) → ⊥) → is_binary (b ++ c ∷ []) ≡ false
text_stays b c text not_open = false_from_ne_true (is_binary (b ++ c ∷ [])) (λ now. not_open (front_is_open b c text now))

byte_closed : (b : List ℕ) (c : ℕ) → is_binary b ≡ false → is_open (ended b).stop ≡ false → reading_so_far (b ++ c ∷ []) ≡ ended b
byte_closed b c text shut =
    reading_so_far-text (b ++ c ∷ []) (text_stays b c text (λ h. both_ways (is_open (ended b).stop) shut h.0))
    ∙ ap (λ read. with_unended (unended (b ++ c ∷ [])) read) (ended-closed b c shut)
    ∙ ap (λ s. reading_of (ended b).pairs s) (stop_with-closed (unended (b ++ c ∷ [])) (ended b).stop shut)

-- a line that is too long stays so
stays_long : (line : List ℕ) (c : ℕ) → is_too_long (strip_carriage_return line) ≡ true → is_too_long (strip_carriage_return (line ++ c ∷ [])) ≡ true
stays_long line c long =
    lt-ltb 4096 (length (strip_carriage_return (line ++ c ∷ [])))
    (omega (arith, ltb-true 4096 (length (strip_carriage_return line)) long, length-strip line, length-strip (line ++ c ∷ []), length_push line c))

byte_overlong : (b : List ℕ) (c : ℕ) → is_binary b ≡ false → is_open (ended b).stop ≡ true → overlong b ≡ true →
    reading_so_far (b ++ c ∷ []) ≡ reading_of (ended b).pairs (too_long_at (ended b).stop)
byte_overlong b c text free long = reading_so_far-text (b ++ c ∷ []) (text_stays b c text (λ h. both_ways (overlong b) h.1 long)) ∙ elim (cases_Bool (c == 10)) [
  | inl lf ↦ rw (eqb-true c 10 lf) (ap (λ read. with_unended (unended (b ++ 10 ∷ [])) read) (ended-lf b ∙ then_line-too_long (ended b) (strip_carriage_return (unended b)) free long))
  | inr other ↦
      ap (λ read. with_unended (unended (b ++ c ∷ [])) read) (ended-other b c other)
      ∙ ap (λ s. reading_of (ended b).pairs s) (stop_with-overlong (unended (b ++ c ∷ [])) (ended b).stop free
      (ap (λ line. is_too_long (strip_carriage_return line)) (unended-other b c other) ∙ stays_long (unended b) c long))
]

-- behind `0 EOF` or a refusal a byte changes nothing
pub reading_so_far-closed : (b : List ℕ) (c : ℕ) → is_open (stop_so_far b) ≡ false → reading_so_far (b ++ c ∷ []) ≡ reading_so_far b
reading_so_far-closed b c h = by_state (state b)
  where
    by_state : State b → reading_so_far (b ++ c ∷ []) ≡ reading_so_far b
    by_state (binary begun) = reading_so_far-binary (b ++ c ∷ []) (is_binary-append b (c ∷ []) begun) ∙ sym (reading_so_far-binary b begun)
    by_state (closed text shut so_far) = byte_closed b c text shut ∙ sym so_far
    by_state (too_long text free long so_far) = byte_overlong b c text free long ∙ sym so_far
    by_state (open_line text free short so_far) = absurd (both_ways (is_open (stop_so_far b)) h (ap (λ r. is_open r.stop) so_far ∙ free))

-- an LF gives the line that it ends
pub reading_so_far-lf : (b : List ℕ) → is_open (stop_so_far b) ≡ true → reading_so_far (b ++ 10 ∷ []) ≡ then_line (reading_so_far b) (strip_carriage_return (unended b))
reading_so_far-lf b h =
    let o = open_text b h in
    let line = strip_carriage_return (unended b) in
    reading_so_far-text (b ++ 10 ∷ []) (false_from_ne_true (is_binary (b ++ 10 ∷ [])) (λ now. absurd (omega (arith, (head_by_last b 10 o.text now).1))))
    ∙ ap (λ u. with_unended u (ended (b ++ 10 ∷ []))) (unended-lf b)
    ∙ ap (λ read. with_unended [] read) (ended-lf b)
    ∙ ap (λ s. reading_of (then_line (ended b) line).pairs s) (stop_with-short [] (then_line (ended b) line).stop refl)
    ∙ ap (λ read. then_line read line) (sym o.so_far)

-- any other byte makes the unended line longer
pub reading_so_far-other : (b : List ℕ) (c : ℕ) → is_open (stop_so_far b) ≡ true → (c == 10) ≡ false → is_binary (b ++ c ∷ []) ≡ false →
    reading_so_far (b ++ c ∷ []) ≡ with_unended (unended b ++ c ∷ []) (reading_so_far b)
reading_so_far-other b c h other text =
    let o = open_text b h in
    reading_so_far-text (b ++ c ∷ []) text
    ∙ ap (λ u. with_unended u (ended (b ++ c ∷ []))) (unended-other b c other)
    ∙ ap (λ read. with_unended (unended b ++ c ∷ []) read) (ended-other b c other ∙ sym o.so_far)
