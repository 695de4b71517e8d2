-- A drawing as pairs of lines: a group code and a value.
use Rattle.std.specs.Prelude.{ℕ, ◌+◌, Bool, ◌&&◌, not, nat_lt, nat_le, if◌then◌else◌, List, [], ◌∷◌, length, drop, take, filter, ℤ, pos, neg_ℤ, Option, Some, None, option_map, codes, bytes_eq}
use Rattle.std.specs.Char.{is_ascii_digit}
use Rattle.std.specs.List.{list_all}
use Rattle.std.specs.Ordering.{int_eq}
use Rattle.std.specs.Str.Parse.{starts_with_minus, digits_value}
use Rattle.nest_base.specs.Lines.{lines_of, trimmed}
use Rattle.dxf_groups.specs.declared.answers.GroupError.{GroupError}
use Rattle.dxf_groups.specs.declared.answers.GroupError.TheVariants.{Binary, BadCode, LineTooLong, Truncated}
use Rattle.dxf_groups.specs.declared.answers.Stop.{Stop}
use Rattle.dxf_groups.specs.declared.answers.Stop.TheVariants.{AtEof, AtFault, BeforeCode, BeforeValue}

-- a pair, with the number of the line of its value
pub record Pair : Type 0 where
  pub code : ℤ
  pub value : List ℕ
  pub line : ℕ

-- the pairs of some lines, comments among them, and where they stop
pub record Reading : Type 0 where
  pub pairs : List Pair
  pub stop : Stop

-- more than 4,096 bytes
abbrev pub is_too_long : List ℕ → Bool
is_too_long line = nat_lt 4096 (length line)

-- the number that 1 to 4 digits write
abbrev pub code_in : List ℕ → Option ℤ
code_in digits = if nat_lt 0 (length digits) && nat_le (length digits) 4 && list_all is_ascii_digit digits then Some (pos (digits_value 10 digits)) else None

-- the group code that a line is, without blanks and tabs at both ends: an optional `-` and 1 to 4 digits
unfoldable pub code_of : List ℕ → Option ℤ
code_of line = let text = trimmed line in if starts_with_minus text then option_map neg_ℤ (code_in (drop 1 text)) else code_in text

-- the pair has this code
abbrev pub has_code : ℕ → Pair → Bool
has_code n p = int_eq p.code (pos n)

-- the pair has this code, and its value is this name, without blanks and tabs at both ends
abbrev pub is_pair : ℕ → List ℕ → Pair → Bool
is_pair n name p = has_code n p && bytes_eq (trimmed p.value) name

-- the pair that ends a drawing
abbrev pub is_eof : Pair → Bool
is_eof p = is_pair 0 (codes "EOF") p

-- a pair that is dropped
abbrev pub is_comment : Pair → Bool
is_comment p = has_code 999 p

-- no pair
abbrev pub stopped : Stop → Reading
stopped stop = record { pairs = []; stop = stop }

-- a pair, and what comes behind it
abbrev pub put_front : Pair → Reading → Reading
put_front p later = record later { pairs = p ∷ later.pairs }

-- the line of a value, with its code; `later` is what the lines after it give
abbrev pub with_value : Pair → Reading → Reading
with_value p later =
    if is_too_long p.value then stopped (AtFault (LineTooLong p.line)) else
    (if is_eof p then put_front p (stopped AtEof) else put_front p later)

-- a line that is to be a code; `later` is what the lines after it give
abbrev pub behind_code : ℕ → Option ℤ → (ℤ → Reading) → Reading
behind_code n None later = stopped (AtFault (BadCode n))
behind_code n (Some code) later = later code

-- the line with number n, which is to hold a code; `later` is what the lines after it give
abbrev pub with_code : ℕ → List ℕ → (ℤ → Reading) → Reading
with_code n line later = if is_too_long line then stopped (AtFault (LineTooLong n)) else behind_code n (code_of line) later

-- the pairs of these lines, the first of which has number n and is to hold a code
abbrev pub read_from : ℕ → List (List ℕ) → Reading
read_from n [] = stopped (BeforeCode n)
read_from n (line ∷ []) = with_code n line (λ code. stopped (BeforeValue code (n + 1)))
read_from n (line ∷ value ∷ lines) = with_code n line (λ code. with_value (record { code = code; value = value; line = n + 1 }) (read_from (n + 2) lines))

-- the bytes with which a binary drawing begins
abbrev pub binary_head : List ℕ
binary_head = codes "AutoCAD Binary DXF"

-- the text begins with these
abbrev pub is_binary : List ℕ → Bool
is_binary bytes = bytes_eq (take 18 bytes) binary_head

-- the pairs of a text, comments among them, and where they stop
unfoldable pub read_pairs : List ℕ → Reading
read_pairs bytes = if is_binary bytes then stopped (AtFault Binary) else read_from 1 (lines_of bytes)

-- without comments
abbrev pub without_comments : List Pair → List Pair
without_comments pairs = filter (λ p. not (is_comment p)) pairs

-- the pairs of a text, up to and with the pair `0 EOF`, or those before the line that is refused or isn't there
abbrev pub pairs_of : List ℕ → List Pair
pairs_of bytes = without_comments ((read_pairs bytes).pairs)

-- where the lines of a text stop, after the text has ended
abbrev pub at_the_end : Stop → Stop
at_the_end (BeforeCode n) = AtFault (Truncated n)
at_the_end (BeforeValue code n) = AtFault (Truncated n)
at_the_end AtEof = AtEof
at_the_end (AtFault e) = AtFault e

-- why a stop is a refusal
abbrev pub fault_of : Stop → Option GroupError
fault_of (AtFault e) = Some e
fault_of AtEof = None
fault_of (BeforeCode n) = None
fault_of (BeforeValue code n) = None

-- why the lines of a text aren't pairs up to `0 EOF`
abbrev pub group_refusal_of : List ℕ → Option GroupError
group_refusal_of bytes = fault_of (at_the_end ((read_pairs bytes).stop))
