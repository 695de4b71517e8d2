-- What lines give, and then one more.
use Rattle.std.proofs.Common.{arith, ◌≡◌, ℕ, ◌+◌, Bool, true, false, cond, List, [], ◌∷◌, ◌++◌, refl, ap, ◌∙◌, Some, None, ℤ}
use Rattle.std.specs.Prelude.{Option}
use Rattle.std.proofs.lemmas.List.{append-nil}
use Rattle.dxf_groups.specs.declared.answers.GroupError.TheVariants.{LineTooLong}
use Rattle.dxf_groups.specs.declared.answers.Stop.{Stop}
use Rattle.dxf_groups.specs.declared.answers.Stop.TheVariants.{AtEof, AtFault, BeforeCode, BeforeValue}
use Rattle.dxf_groups.specs.Pairs.{Pair, Reading, stopped, put_front, with_value, behind_code, read_from, is_too_long, code_of, is_eof}
use Rattle.dxf_groups.specs.Steps.{line_behind, then_line, number_of}
use Rattle.dxf_groups.specs.Taking.{is_open}

-- a line that is to be a code, where one more line goes on with what it gives
behind_code-then : (line : List ℕ) (t : Bool) (o : Option ℤ) (n : ℕ) (f g : ℤ → Reading) → ((code : ℤ) → g code ≡ then_line (f code) line) →
    cond t (stopped (AtFault (LineTooLong n))) (behind_code n o g) ≡ then_line (cond t (stopped (AtFault (LineTooLong n))) (behind_code n o f)) line
behind_code-then line true o n f g h = refl
behind_code-then line false None n f g h = refl
behind_code-then line false (Some code) n f g h = h code

-- the line of a value, likewise
with_value-then : (line : List ℕ) (t e : Bool) (p : Pair) (before now : Reading) → now ≡ then_line before line →
    cond t (stopped (AtFault (LineTooLong p.line))) (cond e (put_front p (stopped AtEof)) (put_front p now)) ≡
    then_line (cond t (stopped (AtFault (LineTooLong p.line))) (cond e (put_front p (stopped AtEof)) (put_front p before))) line
with_value-then line true e p before now h = refl
with_value-then line false true p before now h = refl
with_value-then line false false p before now h = ap (λ r. put_front p r) h

-- one more line
pub read_more : (n : ℕ) (lines : List (List ℕ)) (line : List ℕ) → read_from n (lines ++ line ∷ []) ≡ then_line (read_from n lines) line
read_more n [] line = refl
read_more n (code ∷ []) line = behind_code-then line (is_too_long code) (code_of code) n
    (λ k. stopped (BeforeValue k (n + 1)))
    (λ k. with_value (record { code = k; value = line; line = n + 1 }) (stopped (BeforeCode (n + 2))))
    (λ k. ap (λ i. with_value (record { code = k; value = line; line = n + 1 }) (stopped (BeforeCode i))) (two_on n))
  where
    two_on : (n : ℕ) → n + 2 ≡ n + 1 + 1
    two_on n = omega arith
read_more n (code ∷ value ∷ lines) line = behind_code-then line (is_too_long code) (code_of code) n
    (λ k. with_value (record { code = k; value = value; line = n + 1 }) (read_from (n + 2) lines))
    (λ k. with_value (record { code = k; value = value; line = n + 1 }) (read_from (n + 2) (lines ++ line ∷ [])))
    (λ k. with_value-then line (is_too_long value) (is_eof (record { code = k; value = value; line = n + 1 })) (record { code = k; value = value; line = n + 1 })
    (read_from (n + 2) lines) (read_from (n + 2) (lines ++ line ∷ [])) (read_more (n + 2) lines line))

abbrev pub reading_of : List Pair → Stop → Reading
reading_of pairs stop = record { pairs = pairs; stop = stop }

closed_at : (pairs : List Pair) (stop : Stop) (line : List ℕ) → is_open stop ≡ false → then_line (reading_of pairs stop) line ≡ reading_of pairs stop
closed_at pairs AtEof line h = ap (λ p. reading_of p AtEof) (append-nil pairs)
closed_at pairs (AtFault e) line h = ap (λ p. reading_of p (AtFault e)) (append-nil pairs)
closed_at pairs (BeforeCode n) line h = absurd (cc)
closed_at pairs (BeforeValue code n) line h = absurd (cc)

-- behind `0 EOF` or a refusal a line changes nothing
pub then_line-closed : (read : Reading) (line : List ℕ) → is_open read.stop ≡ false → then_line read line ≡ read
then_line-closed read line h = closed_at read.pairs read.stop line h

-- where a line is refused that is too long
abbrev pub too_long_at : Stop → Stop
too_long_at stop = AtFault (LineTooLong (number_of stop))

too_long_behind : (stop : Stop) (line : List ℕ) → is_open stop ≡ true → is_too_long line ≡ true → line_behind stop line ≡ stopped (too_long_at stop)
too_long_behind AtEof line h long = absurd (cc)
too_long_behind (AtFault e) line h long = absurd (cc)
too_long_behind (BeforeCode n) line h long = rw long refl
too_long_behind (BeforeValue code n) line h long = rw long refl

-- a line that is too long gives no pair
pub then_line-too_long : (read : Reading) (line : List ℕ) → is_open read.stop ≡ true → is_too_long line ≡ true → then_line read line ≡ reading_of read.pairs (too_long_at read.stop)
then_line-too_long read line h long =
    ap (λ more. reading_of (read.pairs ++ more.pairs) more.stop) (too_long_behind read.stop line h long)
    ∙ ap (λ p. reading_of p (too_long_at read.stop)) (append-nil read.pairs)
