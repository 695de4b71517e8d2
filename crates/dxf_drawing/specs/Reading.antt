-- What the reader knows of the bytes so far.
use Rattle.std.specs.Prelude.{◌≡◌, ◌≤◌, ℕ, false, List, length, Option, Some, None}
use Rattle.nest_base.specs.Drawing.{Lists}
use Rattle.nest_base.specs.Limits.{most_segments, most_names}
use Rattle.dxf_groups.specs.declared.answers.Found.{Found}
use Rattle.dxf_groups.specs.declared.answers.Found.TheVariants.{Pair as GivesPair}
use Rattle.dxf_groups.specs.Pairs.{Pair, read_pairs, pairs_of, at_the_end}
use Rattle.dxf_groups.specs.Steps.{gives_pair}
use Rattle.dxf_drawing.specs.Drawings.{segments_of, names_of, read_refusal_of}
use Rattle.dxf_groups.specs.Taking.{GroupsAt, pairs_so_far}
use Rattle.dxf_drawing.specs.declared.reader.Reader.{Reader}
use Rattle.dxf_drawing.specs.EntityReader.{EntityReaderAt}

-- the pair that an answer gives, with this value
abbrev pub IsFound : Found → Option (List ℕ) → Option Pair → Type 0
IsFound found value None = gives_pair found ≡ false
IsFound found value (Some p) = (found ≡ GivesPair p.code p.line) × (value ≡ Some p.value)

-- the drawing that a file is which isn't refused
pub record IsRead (bytes : List ℕ) (drawing : Lists) : Type 0 where
  pub accepted : read_refusal_of bytes ≡ None
  pub segments : drawing.segments ≡ segments_of bytes
  pub names : drawing.names ≡ names_of bytes
  pub most_segments : length drawing.segments ≤ most_segments
  pub most_names : length drawing.names ≤ most_names

-- the reader has taken these bytes, and their end wasn't told
pub record ReaderAt (r : Reader) (bytes : List ℕ) : Type 0 where
  pub groups : GroupsAt r.groups bytes
  pub entities : EntityReaderAt r.entities (pairs_so_far bytes)

-- the reader has taken all bytes of a drawing, and their end
pub record IsAtTheEnd (r : Reader) (bytes : List ℕ) : Type 0 where
  pub stop : r.groups.stop ≡ at_the_end ((read_pairs bytes).stop)
  pub entities : EntityReaderAt r.entities (pairs_of bytes)
