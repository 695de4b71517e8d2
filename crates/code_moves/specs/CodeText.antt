-- The code that is written for the chains of a plan.
use Rattle.std.specs.Prelude.{ℕ, List, [], ◌∷◌, ◌++◌, flat_map, codes}
use Rattle.nest_base.specs.declared.places.Point.{Point}
use Rattle.micron_decimals.specs.Decimals.{micron_text}

-- millimetres, absolute places; the feed, and the torch's power
abbrev pub head_text : List ℕ
head_text = codes "G21 G90\nF1000 S1\n"

-- a line that goes to p
abbrev pub motion_text : List ℕ → Point → List ℕ
motion_text word p = word ++ codes " X" ++ micron_text p.x ++ codes " Y" ++ micron_text p.y ++ codes "\n"

-- unlit to the first place, the torch is lit, it burns from place to place, and it's put out
abbrev pub chain_text : List Point → List ℕ
chain_text [] = []
chain_text (p ∷ places) = motion_text (codes "G0") p ++ codes "M3\n" ++ flat_map (motion_text (codes "G1")) places ++ codes "M5\n"

abbrev pub tail_text : List ℕ
tail_text = codes "M2\n"

-- a whole code
abbrev pub code_text : List (List Point) → List ℕ
code_text chains = head_text ++ flat_map chain_text chains ++ tail_text
