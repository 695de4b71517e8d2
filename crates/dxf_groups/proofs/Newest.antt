-- The pairs that have come, and the newest of them.
use Rattle.std.proofs.Common.{arith, ◌≡◌, ℕ, ◌+◌, ◌-◌, Bool, true, false, cond, List, [], ◌∷◌, ◌++◌, length, inl, inr, refl, ap, ◌∙◌, Some, None, ℤ}
use Rattle.std.specs.Prelude.{Option, not}
use Rattle.std.specs.List.{last_or}
use Rattle.std.proofs.lemmas.Bool.{cases_Bool, lt-ltb, le-ltb}
use Rattle.std.proofs.lemmas.List.{append-nil, length_push, take_at}
use Rattle.std.proofs.lemmas.List.Elements.{filter-append}
use Rattle.dxf_groups.specs.declared.answers.GroupError.TheVariants.{LineTooLong}
use Rattle.dxf_groups.specs.declared.answers.Stop.{Stop}
use Rattle.dxf_groups.specs.declared.answers.Stop.TheVariants.{AtEof, AtFault, BeforeCode, BeforeValue}
use Rattle.dxf_groups.specs.Pairs.{Pair, Reading, stopped, put_front, behind_code, is_too_long, code_of, is_eof, is_comment, without_comments}
use Rattle.dxf_groups.specs.Steps.{line_behind, pair_of}
use Rattle.dxf_groups.specs.Taking.{newest, completed, pairs_so_far}
use Rattle.dxf_groups.specs.Laws.{listed}

last_or-push : (o : Option Pair) (pairs : List Pair) (p : Pair) → last_or o (pairs ++ p ∷ []) ≡ Some p
last_or-push o [] p = refl
last_or-push o (q ∷ pairs) p = last_or-push (Some q) pairs p

-- no pair has come
pub newest-none : (before : List Pair) → newest before [] ≡ None
newest-none before = rw (le-ltb (length before) 0 (omega arith)) refl

pub newest-same : (pairs : List Pair) → newest pairs pairs ≡ None
newest-same pairs = rw (le-ltb (length pairs) (length pairs) (omega arith)) refl

newest-push : (pairs : List Pair) (p : Pair) → newest pairs (pairs ++ p ∷ []) ≡ Some p
newest-push pairs p = rw (lt-ltb (length pairs) (length (pairs ++ p ∷ [])) (omega (arith, length_push pairs p))) (last_or-push None pairs p)

-- one pair has come, or none
pub newest-listed : (pairs : List Pair) (o : Option Pair) → newest pairs (pairs ++ listed o) ≡ o
newest-listed pairs None = ap (λ p. newest pairs p) (append-nil pairs) ∙ newest-same pairs
newest-listed pairs (Some p) = newest-push pairs p

-- a reading without a pair
none_listed : (read : Reading) → read.pairs ≡ [] → without_comments read.pairs ≡ listed (pair_of read)
none_listed read h = rw h refl

-- a reading of one pair
one_listed : (read : Reading) (p : Pair) → read.pairs ≡ p ∷ [] → without_comments read.pairs ≡ listed (pair_of read)
one_listed read p h = elim (cases_Bool (is_comment p)) [ inl e ↦ rw (h, e) refl | inr e ↦ rw (h, e) refl ]

code_gives_none : (t : Bool) (o : Option ℤ) (n : ℕ) → (cond t (stopped (AtFault (LineTooLong n))) (behind_code n o (λ code. stopped (BeforeValue code (n + 1))))).pairs ≡ []
code_gives_none true o n = refl
code_gives_none false None n = refl
code_gives_none false (Some code) n = refl

value_gives : (t e : Bool) (p : Pair) (n : ℕ) →
    (cond t (stopped (AtFault (LineTooLong p.line))) (cond e (put_front p (stopped AtEof)) (put_front p (stopped (BeforeCode n))))).pairs ≡ cond t [] (p ∷ [])
value_gives true e p n = refl
value_gives false true p n = refl
value_gives false false p n = refl

value_listed : (t : Bool) (read : Reading) (p : Pair) → read.pairs ≡ cond t [] (p ∷ []) → without_comments read.pairs ≡ listed (pair_of read)
value_listed true read p h = none_listed read h
value_listed false read p h = one_listed read p h

-- one more line gives one pair at most
line_listed : (stop : Stop) (line : List ℕ) → without_comments ((line_behind stop line).pairs) ≡ listed (pair_of (line_behind stop line))
line_listed AtEof line = none_listed (stopped AtEof) refl
line_listed (AtFault e) line = none_listed (stopped (AtFault e)) refl
line_listed (BeforeCode n) line = none_listed (line_behind (BeforeCode n) line) (code_gives_none (is_too_long line) (code_of line) n)
line_listed (BeforeValue code n) line =
    let p : Pair = record { code = code; value = line; line = n } in
    value_listed (is_too_long line) (line_behind (BeforeValue code n) line) p (value_gives (is_too_long line) (is_eof p) p (n + 1))

pub without_comments-line : (pairs : List Pair) (stop : Stop) (line : List ℕ) →
    without_comments (pairs ++ (line_behind stop line).pairs) ≡ without_comments pairs ++ listed (pair_of (line_behind stop line))
without_comments-line pairs stop line =
    filter-append (λ p. not (is_comment p)) pairs ((line_behind stop line).pairs) ∙ ap (λ later. without_comments pairs ++ later) (line_listed stop line)

-- so that is the newest pair
pub newest-line : (pairs : List Pair) (stop : Stop) (line : List ℕ) →
    newest (without_comments pairs) (without_comments (pairs ++ (line_behind stop line).pairs)) ≡ pair_of (line_behind stop line)
newest-line pairs stop line =
    ap (λ all. newest (without_comments pairs) all) (without_comments-line pairs stop line) ∙ newest-listed (without_comments pairs) (pair_of (line_behind stop line))

-- the pair that the last byte completed
pub completed-push : (b : List ℕ) (c : ℕ) → completed (b ++ c ∷ []) ≡ newest (pairs_so_far b) (pairs_so_far (b ++ c ∷ []))
completed-push b c =
    ap (λ before. newest (pairs_so_far before) (pairs_so_far (b ++ c ∷ []))) (take_at b (c ∷ []) (length (b ++ c ∷ []) - 1) (omega (arith, length_push b c)))
