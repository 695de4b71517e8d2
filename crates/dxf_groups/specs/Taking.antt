-- What the bytes so far determine, however they go on: the reader that takes one byte after the other knows this.
use Rattle.std.specs.Prelude.{◌≡◌, ℕ, ◌-◌, Bool, true, false, IsTrue, nat_lt, if◌then◌else◌, List, length, take, Option, Some, None, option_map, nat_eq}
use Rattle.std.specs.List.{common_prefix_len, last_or}
use Rattle.std.specs.Str.Lines.{strip_carriage_return}
use Rattle.nest_base.specs.Lines.{ended_lines, unended}
use Rattle.dxf_groups.specs.declared.answers.GroupError.TheVariants.{Binary, LineTooLong}
use Rattle.dxf_groups.specs.declared.answers.Found.{Found}
use Rattle.dxf_groups.specs.declared.answers.Found.TheVariants.{More, Pair as GivesPair, Done, Refused}
use Rattle.dxf_groups.specs.declared.answers.Stop.{Stop}
use Rattle.dxf_groups.specs.declared.answers.Stop.TheVariants.{AtEof, AtFault, BeforeCode, BeforeValue}
use Rattle.dxf_groups.specs.Pairs.{Pair, Reading, stopped, is_too_long, is_binary, binary_head, read_from, read_pairs, without_comments, pairs_of, at_the_end}

-- where the line with number n, of which these bytes have come, is too long, whatever follows: one CR at its end may still belong to an LF
abbrev pub unless_too_long : ℕ → List ℕ → Stop → Stop
unless_too_long n line stop = if is_too_long (strip_carriage_return line) then AtFault (LineTooLong n) else stop

-- where ended lines stop, and then the bytes of an unended line
abbrev pub stop_with : List ℕ → Stop → Stop
stop_with line (BeforeCode n) = unless_too_long n line (BeforeCode n)
stop_with line (BeforeValue code n) = unless_too_long n line (BeforeValue code n)
stop_with line AtEof = AtEof
stop_with line (AtFault e) = AtFault e

-- what ended lines give, and then the bytes of an unended line
abbrev pub with_unended : List ℕ → Reading → Reading
with_unended line read = record read { stop = stop_with line read.stop }

-- what these bytes determine, however they go on
unfoldable pub reading_so_far : List ℕ → Reading
reading_so_far bytes = if is_binary bytes then stopped (AtFault Binary) else with_unended (unended bytes) (read_from 1 (ended_lines bytes))

-- where they stop
abbrev pub stop_so_far : List ℕ → Stop
stop_so_far bytes = (reading_so_far bytes).stop

-- their pairs, without comments
abbrev pub pairs_so_far : List ℕ → List Pair
pairs_so_far bytes = without_comments ((reading_so_far bytes).pairs)

-- the last of these pairs, where there are more of them than of those before
abbrev pub newest : List Pair → List Pair → Option Pair
newest before pairs = if nat_lt (length before) (length pairs) then last_or None pairs else None

-- the pair that the last of these bytes completed
abbrev pub completed : List ℕ → Option Pair
completed bytes = newest (pairs_so_far (take (length bytes - 1) bytes)) (pairs_so_far bytes)

-- the pair that the end of the input completes
abbrev pub completed_by_end : List ℕ → Option Pair
completed_by_end bytes = newest (pairs_so_far bytes) (pairs_of bytes)

-- a pair, where there is one
abbrev pub pair_or : Option Pair → Found → Found
pair_or (Some p) found = GivesPair p.code p.line
pair_or None found = found

-- what a stop without a new pair tells
abbrev pub found_at_stop : Stop → Found
found_at_stop AtEof = Done
found_at_stop (AtFault e) = Refused
found_at_stop (BeforeCode n) = More
found_at_stop (BeforeValue code n) = More

-- what the last of these bytes tells
abbrev pub found_at : List ℕ → Found
found_at bytes = pair_or (completed bytes) (found_at_stop (stop_so_far bytes))

-- what the end of the input tells, once no pair is left
abbrev pub found_last : List ℕ → Found
found_last bytes = found_at_stop (at_the_end ((read_pairs bytes).stop))

-- what it tells first
abbrev pub found_at_end : List ℕ → Found
found_at_end bytes = pair_or (completed_by_end bytes) (found_last bytes)

-- the value of a pair
abbrev pub value_of : Option Pair → Option (List ℕ)
value_of p = option_map (λ (p : Pair). p.value) p

-- what contracts see of the reader
pub record Progress : Type 0 where
  pub taken : ℕ  -- how many bytes it took
  pub stop : Stop
  pub value : Option (List ℕ)  -- of the pair that the last call gave
  pub answer : Option Found  -- of the last call of `end`, where there was one
  pub matched : ℕ  -- how many bytes at the front are those of a binary drawing
  pub line : List ℕ  -- the bytes of the unended line

-- neither `0 EOF` nor a refusal has come
abbrev pub is_open : Stop → Bool
is_open AtEof = false
is_open (AtFault e) = false
is_open (BeforeCode n) = true
is_open (BeforeValue code n) = true

-- what an open reader knows of the bytes beside
pub record IsOpenAt (g : Progress) (bytes : List ℕ) : Type 0 where
  pub matched : g.matched ≡ common_prefix_len nat_eq bytes binary_head
  pub line : g.line ≡ unended bytes

-- the reader has taken these bytes, and `end` wasn't called
pub record GroupsAt (g : Progress) (bytes : List ℕ) : Type 0 where
  pub taken : g.taken ≡ length bytes
  pub stop : g.stop ≡ stop_so_far bytes
  pub value : g.value ≡ value_of (completed bytes)
  pub answer : g.answer ≡ None
  pub while_open : IsTrue (is_open g.stop) → IsOpenAt g bytes

-- the reader has taken these bytes, and then `end` was called: the last call gave a pair, or each further one tells the same
pub data EndedAt (g : Progress) (bytes : List ℕ) : Type 0 where
  gave_pair : (p : Pair) → completed_by_end bytes ≡ Some p → g.stop ≡ (read_pairs bytes).stop → g.value ≡ Some p.value →
      g.answer ≡ Some (GivesPair p.code p.line) → EndedAt g bytes
  at_the_last : g.stop ≡ at_the_end ((read_pairs bytes).stop) → g.value ≡ None → g.answer ≡ Some (found_last bytes) → EndedAt g bytes
