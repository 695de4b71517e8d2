-- How a text stands: open, or closed for good.
use Rattle.std.proofs.Common.{◌≡◌, ℕ, Bool, true, false, List, inl, inr, refl, ap, ◌∙◌}
use Rattle.std.specs.Str.Lines.{strip_carriage_return}
use Rattle.std.proofs.lemmas.Bool.{cases_Bool, both_ways}
use Rattle.nest_base.specs.Lines.{lines_of, ended_lines, unended}
use Rattle.dxf_groups.specs.declared.answers.GroupError.TheVariants.{Binary}
use Rattle.dxf_groups.specs.declared.answers.Stop.{Stop}
use Rattle.dxf_groups.specs.declared.answers.Stop.TheVariants.{AtEof, AtFault, BeforeCode, BeforeValue}
use Rattle.dxf_groups.specs.Pairs.{Reading, stopped, is_too_long, is_binary, read_from, read_pairs}
use Rattle.dxf_groups.specs.Taking.{reading_so_far, stop_so_far, stop_with, with_unended, is_open}
use Rattle.dxf_groups.proofs.Readings.{reading_of, too_long_at}

-- what the ended lines give
abbrev pub ended : List ℕ → Reading
ended b = read_from 1 (ended_lines b)

-- the unended line is too long, whatever follows
abbrev pub overlong : List ℕ → Bool
overlong b = is_too_long (strip_carriage_return (unended b))

-- a binary drawing, and any other text
pub reading_so_far-binary : (b : List ℕ) → is_binary b ≡ true → reading_so_far b ≡ stopped (AtFault Binary)
unfolding reading_so_far
reading_so_far-binary b h = rw h refl

pub reading_so_far-text : (b : List ℕ) → is_binary b ≡ false → reading_so_far b ≡ with_unended (unended b) (ended b)
unfolding reading_so_far
reading_so_far-text b h = rw h refl

pub read_pairs-binary : (b : List ℕ) → is_binary b ≡ true → read_pairs b ≡ stopped (AtFault Binary)
unfolding read_pairs
read_pairs-binary b h = rw h refl

pub read_pairs-text : (b : List ℕ) → is_binary b ≡ false → read_pairs b ≡ read_from 1 (lines_of b)
unfolding read_pairs
read_pairs-text b h = rw h refl

-- an unended line behind a stop
pub stop_with-closed : (line : List ℕ) (stop : Stop) → is_open stop ≡ false → stop_with line stop ≡ stop
stop_with-closed line AtEof h = refl
stop_with-closed line (AtFault e) h = refl
stop_with-closed line (BeforeCode n) h = absurd (cc)
stop_with-closed line (BeforeValue code n) h = absurd (cc)

pub stop_with-short : (line : List ℕ) (stop : Stop) → is_too_long (strip_carriage_return line) ≡ false → stop_with line stop ≡ stop
stop_with-short line AtEof h = refl
stop_with-short line (AtFault e) h = refl
stop_with-short line (BeforeCode n) h = rw h refl
stop_with-short line (BeforeValue code n) h = rw h refl

pub stop_with-overlong : (line : List ℕ) (stop : Stop) → is_open stop ≡ true → is_too_long (strip_carriage_return line) ≡ true → stop_with line stop ≡ too_long_at stop
stop_with-overlong line AtEof h long = absurd (cc)
stop_with-overlong line (AtFault e) h long = absurd (cc)
stop_with-overlong line (BeforeCode n) h long = rw long refl
stop_with-overlong line (BeforeValue code n) h long = rw long refl

-- how a text stands: a binary drawing; closed by one of its ended lines; closed by the unended one; open
pub data State (b : List ℕ) : Type 0 where
  binary : is_binary b ≡ true → State b
  closed : is_binary b ≡ false → is_open (ended b).stop ≡ false → reading_so_far b ≡ ended b → State b
  too_long : is_binary b ≡ false → is_open (ended b).stop ≡ true → overlong b ≡ true → reading_so_far b ≡ reading_of (ended b).pairs (too_long_at (ended b).stop) → State b
  open_line : is_binary b ≡ false → is_open (ended b).stop ≡ true → overlong b ≡ false → reading_so_far b ≡ ended b → State b

pub state : (b : List ℕ) → State b
state b = elim (cases_Bool (is_binary b)) [
  | inl begun ↦ binary begun
  | inr text ↦ elim (cases_Bool (is_open (ended b).stop)) [
    | inr shut ↦ closed text shut (reading_so_far-text b text ∙ ap (λ s. reading_of (ended b).pairs s) (stop_with-closed (unended b) (ended b).stop shut))
    | inl free ↦ elim (cases_Bool (overlong b)) [
      | inl long ↦ too_long text free long (reading_so_far-text b text ∙ ap (λ s. reading_of (ended b).pairs s) (stop_with-overlong (unended b) (ended b).stop free long))
      | inr short ↦ open_line text free short (reading_so_far-text b text ∙ ap (λ s. reading_of (ended b).pairs s) (stop_with-short (unended b) (ended b).stop short))
    ]
  ]
]

-- a text that stands open
pub record IsOpenText (b : List ℕ) : Type 0 where
  pub text : is_binary b ≡ false
  pub free : is_open (ended b).stop ≡ true
  pub short : overlong b ≡ false
  pub so_far : reading_so_far b ≡ ended b

pub open_text : (b : List ℕ) → is_open (stop_so_far b) ≡ true → IsOpenText b
open_text b h = by_state (state b)
  where
    by_state : State b → IsOpenText b
    by_state (binary begun) = absurd (both_ways (is_open (stop_so_far b)) (ap (λ r. is_open r.stop) (reading_so_far-binary b begun)) h)
    by_state (closed text shut so_far) = absurd (both_ways (is_open (stop_so_far b)) (ap (λ r. is_open r.stop) so_far ∙ shut) h)
    by_state (too_long text free long so_far) = absurd (both_ways (is_open (stop_so_far b)) (ap (λ r. is_open r.stop) so_far) h)
    by_state (open_line text free short so_far) = record { text = text; free = free; short = short; so_far = so_far }
