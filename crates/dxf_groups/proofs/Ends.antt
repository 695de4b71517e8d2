-- What the end of the input changes.
use Rattle.std.proofs.Common.{arith, ◌≡◌, ℕ, ◌<◌, true, false, List, [], length, inl, inr, sym, ap, ◌∙◌, None}
use Rattle.std.specs.Str.Lines.{strip_carriage_return}
use Rattle.std.proofs.lemmas.Bool.{cases_lt, ltb-true, lt-ltb, both_ways}
use Rattle.std.proofs.lemmas.List.{nil_from_length}
use Rattle.nest_base.specs.Lines.{ended_lines, unended}
use Rattle.nest_base.proofs.Lines.{lines_of-bare, lines_of-unended, length-strip}
use Rattle.dxf_groups.specs.Pairs.{is_binary, read_from, read_pairs, without_comments}
use Rattle.dxf_groups.specs.Steps.{line_behind, pair_of, then_line}
use Rattle.dxf_groups.specs.Taking.{reading_so_far, stop_so_far, pairs_so_far, newest, completed_by_end, is_open}
use Rattle.dxf_groups.proofs.Newest.{newest-same, newest-line}
use Rattle.dxf_groups.proofs.Readings.{read_more, reading_of, then_line-closed, then_line-too_long, too_long_at}
use Rattle.dxf_groups.proofs.State.{ended, overlong, reading_so_far-binary, read_pairs-binary, read_pairs-text, State, state, open_text}
use Rattle.dxf_groups.proofs.State.State.{binary, closed, too_long, open_line}

pairs_bare : (b : List ℕ) → is_binary b ≡ false → unended b ≡ [] → read_pairs b ≡ ended b
pairs_bare b text bare = read_pairs-text b text ∙ ap (λ lines. read_from 1 lines) (lines_of-bare b bare)

pairs_with_line : (b : List ℕ) → is_binary b ≡ false → 0 < length (unended b) → read_pairs b ≡ then_line (ended b) (unended b)
pairs_with_line b text some = read_pairs-text b text ∙ ap (λ lines. read_from 1 lines) (lines_of-unended b some) ∙ read_more 1 (ended_lines b) (unended b)

pairs_closed : (b : List ℕ) → is_binary b ≡ false → is_open (ended b).stop ≡ false → read_pairs b ≡ ended b
pairs_closed b text shut = elim (cases_lt 0 (length (unended b))) [
  | inl some ↦ pairs_with_line b text some ∙ then_line-closed (ended b) (unended b) shut
  | inr none ↦ pairs_bare b text (nil_from_length (unended b) (omega arith))
]

pairs_overlong : (b : List ℕ) → is_binary b ≡ false → is_open (ended b).stop ≡ true → overlong b ≡ true → read_pairs b ≡ reading_of (ended b).pairs (too_long_at (ended b).stop)
pairs_overlong b text free long =
    let more : 4096 < length (unended b) = omega (arith, ltb-true 4096 (length (strip_carriage_return (unended b))) long, length-strip (unended b)) in
    pairs_with_line b text (omega arith) ∙ then_line-too_long (ended b) (unended b) free (lt-ltb 4096 (length (unended b)) more)

-- the end of the input changes nothing behind `0 EOF` or a refusal
pub read_pairs-closed : (b : List ℕ) → is_open (stop_so_far b) ≡ false → read_pairs b ≡ reading_so_far b
read_pairs-closed b h = by_state (state b)
  where
    by_state : State b → read_pairs b ≡ reading_so_far b
    by_state (binary begun) = read_pairs-binary b begun ∙ sym (reading_so_far-binary b begun)
    by_state (closed text shut so_far) = pairs_closed b text shut ∙ sym so_far
    by_state (too_long text free long so_far) = pairs_overlong b text free long ∙ sym so_far
    by_state (open_line text free short so_far) = absurd (both_ways (is_open (stop_so_far b)) h (ap (λ r. is_open r.stop) so_far ∙ free))

-- nor where no line is unended
pub read_pairs-bare : (b : List ℕ) → is_open (stop_so_far b) ≡ true → unended b ≡ [] → read_pairs b ≡ reading_so_far b
read_pairs-bare b h bare = let o = open_text b h in pairs_bare b o.text bare ∙ sym o.so_far

-- else it gives the unended line
pub read_pairs-line : (b : List ℕ) → is_open (stop_so_far b) ≡ true → 0 < length (unended b) → read_pairs b ≡ then_line (reading_so_far b) (unended b)
read_pairs-line b h some = let o = open_text b h in pairs_with_line b o.text some ∙ ap (λ read. then_line read (unended b)) (sym o.so_far)

-- behind `0 EOF` or a refusal
pub closed_end : (bytes : List ℕ) → is_open (stop_so_far bytes) ≡ false → (read_pairs bytes).stop ≡ stop_so_far bytes
closed_end bytes h = ap (λ read. read.stop) (read_pairs-closed bytes h)

pub closed_end_completed : (bytes : List ℕ) → is_open (stop_so_far bytes) ≡ false → completed_by_end bytes ≡ None
closed_end_completed bytes h = ap (λ read. newest (pairs_so_far bytes) (without_comments read.pairs)) (read_pairs-closed bytes h) ∙ newest-same (pairs_so_far bytes)

-- with no unended line
pub bare_end : (bytes : List ℕ) → is_open (stop_so_far bytes) ≡ true → unended bytes ≡ [] → (read_pairs bytes).stop ≡ stop_so_far bytes
bare_end bytes h e = ap (λ read. read.stop) (read_pairs-bare bytes h e)

pub bare_end_completed : (bytes : List ℕ) → is_open (stop_so_far bytes) ≡ true → unended bytes ≡ [] → completed_by_end bytes ≡ None
bare_end_completed bytes h e = ap (λ read. newest (pairs_so_far bytes) (without_comments read.pairs)) (read_pairs-bare bytes h e) ∙ newest-same (pairs_so_far bytes)

-- with an unended line, which is a line then
pub line_end : (bytes : List ℕ) → is_open (stop_so_far bytes) ≡ true → 0 < length (unended bytes) →
    (read_pairs bytes).stop ≡ (line_behind (stop_so_far bytes) (unended bytes)).stop
line_end bytes h some = ap (λ read. read.stop) (read_pairs-line bytes h some)

pub line_end_completed : (bytes : List ℕ) → is_open (stop_so_far bytes) ≡ true → 0 < length (unended bytes) →
    completed_by_end bytes ≡ pair_of (line_behind (stop_so_far bytes) (unended bytes))
line_end_completed bytes h some =
    ap (λ read. newest (pairs_so_far bytes) (without_comments read.pairs)) (read_pairs-line bytes h some)
    ∙ newest-line (reading_so_far bytes).pairs (stop_so_far bytes) (unended bytes)
