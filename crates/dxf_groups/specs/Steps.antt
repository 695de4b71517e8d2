-- What one more line gives.
use Rattle.std.specs.Prelude.{◌≡◌, ℕ, ◌+◌, Bool, true, false, ◌&&◌, ◌||◌, nat_eq, nat_lt, if◌then◌else◌, is_some, List, [], ◌∷◌, ◌++◌, length, slice_index, Option, Some, None}
use Rattle.std.specs.List.{common_prefix_len}
use Rattle.nest_base.specs.Lines.{unended}
use Rattle.dxf_groups.specs.declared.answers.Found.{Found}
use Rattle.dxf_groups.specs.declared.answers.Found.TheVariants.{More, Pair as GivesPair, Done, Refused}
use Rattle.dxf_groups.specs.declared.answers.Stop.{Stop}
use Rattle.dxf_groups.specs.declared.answers.Stop.TheVariants.{AtEof, AtFault, BeforeCode, BeforeValue}
use Rattle.dxf_groups.specs.Pairs.{Pair, Reading, stopped, with_value, with_code, without_comments, binary_head, at_the_end}
use Rattle.dxf_groups.specs.Taking.{Progress, stop_so_far}

-- what a line gives behind lines that stopped so
abbrev pub line_behind : Stop → List ℕ → Reading
line_behind AtEof line = stopped AtEof
line_behind (AtFault e) line = stopped (AtFault e)
line_behind (BeforeCode n) line = with_code n line (λ code. stopped (BeforeValue code (n + 1)))
line_behind (BeforeValue code n) line = with_value (record { code = code; value = line; line = n }) (stopped (BeforeCode (n + 1)))

-- what lines give, and then one more
abbrev pub then_line : Reading → List ℕ → Reading
then_line read line = let more = line_behind read.stop line in record { pairs = read.pairs ++ more.pairs; stop = more.stop }

-- the pair of one line, where it completes one that isn't a comment
abbrev pub pair_of : Reading → Option Pair
pair_of read = first (without_comments read.pairs)
  where
    first : List Pair → Option Pair
    first [] = None
    first (p ∷ pairs) = Some p

-- the number of the line that is awaited, or 0
abbrev pub number_of : Stop → ℕ
number_of AtEof = 0
number_of (AtFault e) = 0
number_of (BeforeCode n) = n
number_of (BeforeValue code n) = n

-- an answer that gives a pair
abbrev pub gives_pair : Found → Bool
gives_pair (GivesPair code line) = true
gives_pair More = false
gives_pair Done = false
gives_pair Refused = false

-- the reader takes one more byte, which it has counted already, and stands open behind these
pub record IsReadyAt (g : Progress) (bytes : List ℕ) : Type 0 where
  pub taken : g.taken ≡ length bytes + 1
  pub stop : g.stop ≡ stop_so_far bytes
  pub matched : g.matched ≡ common_prefix_len nat_eq bytes binary_head
  pub line : g.line ≡ unended bytes

-- all bytes before this one are those of a binary drawing, and it goes on with them
abbrev pub goes_on : Progress → ℕ → Bool
goes_on g byte = nat_eq (g.matched + 1) g.taken && nat_lt g.matched 18 && nat_eq (slice_index binary_head g.matched) byte

-- what the unended line gives when `end` is called for the first time; later there is none
abbrev pub last_reading : Progress → Reading
last_reading g = if is_some g.answer || nat_eq (length g.line) 0 then stopped g.stop else line_behind g.stop g.line

-- where the lines stop behind a call of `end`: after a pair it may be called again
abbrev pub stop_of_end : Option Pair → Stop → Stop
stop_of_end (Some p) stop = stop
stop_of_end None stop = at_the_end stop
