-- What one more byte changes.
use Rattle.std.proofs.Common.{arith, ◌≡◌, ℕ, ◌+◌, ◌<◌, true, false, List, [], ◌∷◌, ◌++◌, length, refl, ap, ◌∙◌, None}
use Rattle.std.specs.Prelude.{◌==◌, nat_eq, slice_index}
use Rattle.std.specs.List.{common_prefix_len}
use Rattle.std.specs.Str.Lines.{strip_carriage_return}
use Rattle.std.proofs.lemmas.Bool.{false_from_ne_true}
use Rattle.std.proofs.lemmas.List.{length_push}
use Rattle.nest_base.specs.Lines.{unended}
use Rattle.dxf_groups.specs.declared.answers.GroupError.TheVariants.{Binary}
use Rattle.dxf_groups.specs.declared.answers.Stop.TheVariants.{AtFault}
use Rattle.dxf_groups.specs.Pairs.{binary_head, is_binary, stopped, without_comments}
use Rattle.dxf_groups.specs.Steps.{line_behind, pair_of}
use Rattle.dxf_groups.specs.Taking.{reading_so_far, stop_so_far, stop_with, pairs_so_far, newest, completed, is_open}
use Rattle.dxf_groups.proofs.Head.{common_prefix_len-on, common_prefix_len-off, common_prefix_len-whole, head_front, head_by_last}
use Rattle.dxf_groups.proofs.Newest.{completed-push, newest-none, newest-same, newest-line}
use Rattle.dxf_groups.proofs.State.{open_text, reading_so_far-binary}
use Rattle.dxf_groups.proofs.SoFar.{reading_so_far-closed, reading_so_far-lf, reading_so_far-other}

-- how many bytes at the front are those of a binary drawing
abbrev pub matched_of : List ℕ → ℕ
matched_of bytes = common_prefix_len nat_eq bytes binary_head

-- all bytes so far are those of a binary drawing, and this one goes on with them
pub record GoesOn (bytes : List ℕ) (byte : ℕ) : Type 0 where
  pub all : matched_of bytes ≡ length bytes
  pub short : length bytes < 18
  pub next : slice_index binary_head (length bytes) ≡ byte

pub matched_on : (bytes : List ℕ) (byte : ℕ) → GoesOn bytes byte → matched_of (bytes ++ byte ∷ []) ≡ matched_of bytes + 1
matched_on bytes byte on = common_prefix_len-on bytes binary_head byte on.all on.short on.next

pub matched_off : (bytes : List ℕ) (byte : ℕ) → (GoesOn bytes byte → ⊥) → matched_of (bytes ++ byte ∷ []) ≡ matched_of bytes
matched_off bytes byte off = common_prefix_len-off bytes binary_head byte (λ all short next. off (record { all = all; short = short; next = next }))

whole_head : (bytes : List ℕ) (byte : ℕ) → GoesOn bytes byte → length bytes ≡ 17 → bytes ++ byte ∷ [] ≡ binary_head
whole_head bytes byte on h =
    let n : length (bytes ++ byte ∷ []) ≡ 18 = omega (arith, length_push bytes byte) in
    common_prefix_len-whole (bytes ++ byte ∷ []) binary_head (omega (arith, matched_on bytes byte on, on.all)) n

head_so_far : (bytes : List ℕ) (byte : ℕ) → GoesOn bytes byte → length bytes ≡ 17 → reading_so_far (bytes ++ byte ∷ []) ≡ stopped (AtFault Binary)
head_so_far bytes byte on h = reading_so_far-binary (bytes ++ byte ∷ []) (ap is_binary (whole_head bytes byte on h))

-- a byte that doesn't complete it
not_head : (bytes : List ℕ) (byte : ℕ) → is_open (stop_so_far bytes) ≡ true → (GoesOn bytes byte → length bytes ≡ 17 → ⊥) → is_binary (bytes ++ byte ∷ []) ≡ false
not_head bytes byte h off = false_from_ne_true (is_binary (bytes ++ byte ∷ [])) (λ now. completes (head_by_last bytes byte (open_text bytes h).text now))
  where
    completes : (bytes ≡ head_front) × (byte ≡ 70) → ⊥
    completes e = off (rw (e.0, e.1) (record { all = refl; short = omega arith; next = refl })) (ap length e.0)

-- a byte that completes the front of a binary drawing
pub head_stop : (bytes : List ℕ) (byte : ℕ) → GoesOn bytes byte → length bytes ≡ 17 → stop_so_far (bytes ++ byte ∷ []) ≡ AtFault Binary
head_stop bytes byte on h = ap (λ read. read.stop) (head_so_far bytes byte on h)

pub head_completed : (bytes : List ℕ) (byte : ℕ) → GoesOn bytes byte → length bytes ≡ 17 → completed (bytes ++ byte ∷ []) ≡ None
head_completed bytes byte on h =
    completed-push bytes byte ∙ ap (λ read. newest (pairs_so_far bytes) (without_comments read.pairs)) (head_so_far bytes byte on h) ∙ newest-none (pairs_so_far bytes)

-- a byte behind `0 EOF` or a refusal
pub closed_stop : (bytes : List ℕ) (byte : ℕ) → is_open (stop_so_far bytes) ≡ false → stop_so_far (bytes ++ byte ∷ []) ≡ stop_so_far bytes
closed_stop bytes byte h = ap (λ read. read.stop) (reading_so_far-closed bytes byte h)

pub closed_completed : (bytes : List ℕ) (byte : ℕ) → is_open (stop_so_far bytes) ≡ false → completed (bytes ++ byte ∷ []) ≡ None
closed_completed bytes byte h =
    completed-push bytes byte ∙ ap (λ read. newest (pairs_so_far bytes) (without_comments read.pairs)) (reading_so_far-closed bytes byte h) ∙ newest-same (pairs_so_far bytes)

-- an LF, which is no byte of the front of a binary drawing
pub ended_stop : (bytes : List ℕ) → is_open (stop_so_far bytes) ≡ true →
    stop_so_far (bytes ++ 10 ∷ []) ≡ (line_behind (stop_so_far bytes) (strip_carriage_return (unended bytes))).stop
ended_stop bytes h = ap (λ read. read.stop) (reading_so_far-lf bytes h)

pub ended_completed : (bytes : List ℕ) → is_open (stop_so_far bytes) ≡ true →
    completed (bytes ++ 10 ∷ []) ≡ pair_of (line_behind (stop_so_far bytes) (strip_carriage_return (unended bytes)))
ended_completed bytes h =
    completed-push bytes 10 ∙ ap (λ read. newest (pairs_so_far bytes) (without_comments read.pairs)) (reading_so_far-lf bytes h)
    ∙ newest-line (reading_so_far bytes).pairs (stop_so_far bytes) (strip_carriage_return (unended bytes))

-- any other byte that doesn't complete that front
pub unended_stop : (bytes : List ℕ) (byte : ℕ) → is_open (stop_so_far bytes) ≡ true → (byte == 10) ≡ false → (GoesOn bytes byte → length bytes ≡ 17 → ⊥) →
    stop_so_far (bytes ++ byte ∷ []) ≡ stop_with (unended bytes ++ byte ∷ []) (stop_so_far bytes)
unended_stop bytes byte h other off = ap (λ read. read.stop) (reading_so_far-other bytes byte h other (not_head bytes byte h off))

pub unended_completed : (bytes : List ℕ) (byte : ℕ) → is_open (stop_so_far bytes) ≡ true → (byte == 10) ≡ false → (GoesOn bytes byte → length bytes ≡ 17 → ⊥) →
    completed (bytes ++ byte ∷ []) ≡ None
unended_completed bytes byte h other off =
    completed-push bytes byte ∙ ap (λ read. newest (pairs_so_far bytes) (without_comments read.pairs)) (reading_so_far-other bytes byte h other (not_head bytes byte h off))
    ∙ newest-same (pairs_so_far bytes)
