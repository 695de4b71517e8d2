-- What holds of the nearest micrometre, and of what is written.
use Rattle.std.specs.Prelude.{◌≡◌, ℕ, ◌^◌, ◌<◌, List, ℤ, Some, unsigned_abs}
use Rattle.micron_decimals.specs.Decimals.{IsMicron, micron_of, micron_text}

-- a text has one nearest micrometre, and it's the one that is computed
abbrev pub NearestMicronIsOne : Type 0
NearestMicronIsOne = (text : List ℕ) (n : ℤ) → IsMicron text n → micron_of text ≡ Some n

-- the micrometre that is computed is the nearest
abbrev pub ComputedMicronIsNearest : Type 0
ComputedMicronIsNearest = (text : List ℕ) (n : ℤ) → micron_of text ≡ Some n → IsMicron text n

-- what is written for a number is read as this number
abbrev pub WrittenMicronIsRead : Type 0
WrittenMicronIsRead = (n : ℤ) → unsigned_abs n < 2 ^ 64 → micron_of (micron_text n) ≡ Some n
