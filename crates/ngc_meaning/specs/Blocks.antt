-- What the words of a line say together.
use Rattle.std.specs.Prelude.{◌≡◌, ℕ, Bool, true, false, ◌&&◌, ◌||◌, not, List, [], ◌∷◌, ◌++◌, find, Option, Some, None, option_map, is_some}
use Rattle.std.specs.Option.{option_or}
use Rattle.std.specs.List.{list_all, list_any}
use Rattle.micron_decimals.specs.Decimals.{micron_of}
use Rattle.code_moves.specs.Words.{Word, has_letter, is_g, is_m, is_motion, is_dwell, is_unit, is_distance, is_torch, is_end, once_a_line, is_known, is_short, is_negative, is_amount, is_label}
use Rattle.ngc_meaning.specs.declared.number.Coordinate.{Coordinate}
use Rattle.ngc_meaning.specs.declared.block.Block.{Block}
use Rattle.ngc_meaning.specs.Numbers.{is_among, coordinate_of}

-- no word has come
abbrev pub is_empty : List Word → Bool
is_empty [] = true
is_empty (w ∷ ws) = false

-- the word may stand behind these: none of a kind that comes once a line is there twice, a label is short and comes first, an amount isn't negative
abbrev pub fits_behind : List Word → Word → Bool
fits_behind before w =
    list_all (λ (is_kind : Word → Bool). not (is_kind w && list_any is_kind before)) once_a_line
    && (not (is_label w) || (is_empty before && is_short w)) && (not (is_amount w) || not (is_negative w))

-- each of the words may stand behind those before it
abbrev pub are_consistent : List Word → List Word → Bool
are_consistent before [] = true
are_consistent before (w ∷ ws) = fits_behind before w && are_consistent (before ++ w ∷ []) ws

-- the coordinate of a word
abbrev pub coordinate_in : Word → Coordinate
coordinate_in w = coordinate_of (micron_of w.number)

-- the fields of a block are what these words say
pub record Says (ws : List Word) (b : Block) : Type 0 where
  pub empty : b.is_empty ≡ is_empty ws
  pub motion : b.motion ≡ list_any is_motion ws
  pub dwell : b.dwell ≡ list_any is_dwell ws
  pub unit : b.unit ≡ list_any is_unit ws
  pub distance : b.absolute ≡ option_map (is_g (90 ∷ [])) (find is_distance ws)
  pub torch : b.lit ≡ option_map (is_m (3 ∷ [])) (find is_torch ws)
  pub ending : b.ending ≡ list_any is_end ws
  pub feed : b.feed ≡ list_any (has_letter 70) ws
  pub speed : b.speed ≡ list_any (has_letter 83) ws
  pub time : b.time ≡ list_any (has_letter 80) ws
  pub x : b.x ≡ option_map coordinate_in (find (has_letter 88) ws)
  pub y : b.y ≡ option_map coordinate_in (find (has_letter 89) ws)
  pub unknown : b.unknown ≡ not (list_all is_known ws)

-- the first of these where the test holds
abbrev pub some_if : {X : Type 0} → Bool → X → Option X
some_if true x = Some x
some_if false x = None

-- one more G with this number may stand behind a block's words
abbrev pub fits_g : Block → Option ℕ → Bool
fits_g b n =
    not (is_among (0 ∷ 1 ∷ []) n && b.motion) && not (is_among (4 ∷ []) n && b.dwell) && not (is_among (21 ∷ []) n && b.unit)
    && not (is_among (90 ∷ 91 ∷ []) n && is_some b.absolute)

-- the block with it
abbrev pub with_g : Block → Option ℕ → Block
with_g b n = record b {
  motion = b.motion || is_among (0 ∷ 1 ∷ []) n;
  dwell = b.dwell || is_among (4 ∷ []) n;
  unit = b.unit || is_among (21 ∷ []) n;
  absolute = option_or b.absolute (some_if (is_among (90 ∷ 91 ∷ []) n) (is_among (90 ∷ []) n));
  unknown = b.unknown || not (is_among (0 ∷ 1 ∷ 4 ∷ 21 ∷ 90 ∷ 91 ∷ 17 ∷ 40 ∷ 49 ∷ 94 ∷ []) n);
}

-- one more M with this number may stand behind a block's words
abbrev pub fits_m : Block → Option ℕ → Bool
fits_m b n = not (is_among (3 ∷ 5 ∷ []) n && is_some b.lit) && not (is_among (2 ∷ 30 ∷ []) n && b.ending)

-- the block with it
abbrev pub with_m : Block → Option ℕ → Block
with_m b n = record b {
  lit = option_or b.lit (some_if (is_among (3 ∷ 5 ∷ []) n) (is_among (3 ∷ []) n));
  ending = b.ending || is_among (2 ∷ 30 ∷ []) n;
  unknown = b.unknown || not (is_among (3 ∷ 5 ∷ 2 ∷ 30 ∷ []) n);
}

-- one more word may stand behind a block's words
abbrev pub fits_in : Block → Word → Bool
fits_in b w =
    not (is_motion w && b.motion) && not (is_dwell w && b.dwell) && not (is_unit w && b.unit) && not (is_distance w && is_some b.absolute)
    && not (is_torch w && is_some b.lit) && not (is_end w && b.ending)
    && not (has_letter 70 w && b.feed) && not (has_letter 83 w && b.speed) && not (has_letter 80 w && b.time)
    && not (has_letter 88 w && is_some b.x) && not (has_letter 89 w && is_some b.y)
    && (not (is_label w) || (b.is_empty && is_short w)) && (not (is_amount w) || not (is_negative w))

-- the block with it
abbrev pub with_word : Block → Word → Block
with_word b w = record {
  is_empty = false;
  motion = b.motion || is_motion w;
  dwell = b.dwell || is_dwell w;
  unit = b.unit || is_unit w;
  absolute = option_or b.absolute (some_if (is_distance w) (is_g (90 ∷ []) w));
  lit = option_or b.lit (some_if (is_torch w) (is_m (3 ∷ []) w));
  ending = b.ending || is_end w;
  feed = b.feed || has_letter 70 w;
  speed = b.speed || has_letter 83 w;
  time = b.time || has_letter 80 w;
  x = option_or b.x (some_if (has_letter 88 w) (coordinate_in w));
  y = option_or b.y (some_if (has_letter 89 w) (coordinate_in w));
  unknown = b.unknown || not (is_known w);
}
