-- One more word in a block, by its letter.
use Rattle.std.proofs.Common.{arith, ◌≡◌, ◌≢◌, ℕ, ◌≤◌, Bool, true, false, List, [], ◌∷◌, Option, Some, None, inl, inr, refl}
use Rattle.std.specs.Prelude.{◌&&◌, ◌||◌, not, ◌==◌, nat_eq, nat_lt, length, is_some, if◌then◌else◌}
use Rattle.std.specs.List.{list_all, list_any}
use Rattle.std.specs.Option.{option_or, option_map_or}
use Rattle.std.specs.Str.Parse.{digits_value}
use Rattle.std.proofs.Math.Bool.{and-true, or-true, or-false, or_assoc, or_comm}
use Rattle.std.proofs.lemmas.Bool.{and_parts, or_from, ltb-true, lt-ltb, le-ltb, ne_eqb, cases_lt}
use Rattle.micron_decimals.specs.Decimals.{are_digits, micron_of}
use Rattle.code_moves.specs.Words.{Word, is_short, is_negative}
use Rattle.ngc_meaning.specs.declared.block.Block.{Block}
use Rattle.ngc_meaning.specs.Numbers.{small_number, is_among, coordinate_of}
use Rattle.ngc_meaning.specs.Blocks.{fits_g, with_g, fits_m, with_m, fits_in, with_word}

-- a word with this letter
abbrev pub word : ℕ → List ℕ → Word
word letter text = record { letter = letter; number = text }

abbrev are_small : List ℕ → Bool
are_small numbers = list_all (λ k. nat_lt k 100) numbers

-- a number from 100 on is none of those below
large_is_none : (v : ℕ) (numbers : List ℕ) → 100 ≤ v → are_small numbers ≡ true → list_any (nat_eq v) numbers ≡ false
large_is_none v [] h k = refl
large_is_none v (n ∷ numbers) h k =
    let parts = and_parts (nat_lt n 100) (are_small numbers) k in
    or_from (nat_eq v n) (list_any (nat_eq v) numbers) (ne_eqb v n (λ e. omega (arith, ltb-true n 100 parts.0))) (large_is_none v numbers h parts.1)

-- numbers below 100 are looked for among numbers below 100
among : (numbers text : List ℕ) → are_small numbers ≡ true →
    option_map_or (λ n. list_any (nat_eq n) numbers) (if nat_lt 0 (length text) && are_digits text then Some (digits_value 10 text) else None) false ≡ is_among numbers (small_number text)
among numbers text h = by (nat_lt 0 (length text) && are_digits text) (digits_value 10 text)
  where
    by : (digits : Bool) (v : ℕ) →
        option_map_or (λ n. list_any (nat_eq n) numbers) (if digits then Some v else None) false ≡ is_among numbers (if digits && nat_lt v 100 then Some v else None)
    by false v = refl
    by true v = elim (cases_lt v 100) [
      | inl less ↦ rw (lt-ltb v 100 less) refl
      | inr least ↦ rw (le-ltb v 100 least) (large_is_none v numbers least h)
    ]

or_none : {X : Type 0} (o : Option X) → option_or o None ≡ o
or_none None = refl
or_none (Some x) = refl

pub g_fits : (b : Block) (text : List ℕ) → fits_in b (word 71 text) ≡ fits_g b (small_number text)
g_fits b text = rw (among (0 ∷ 1 ∷ []) text refl, among (4 ∷ []) text refl, among (21 ∷ []) text refl, among (90 ∷ 91 ∷ []) text refl) (simp and-true)

pub m_fits : (b : Block) (text : List ℕ) → fits_in b (word 77 text) ≡ fits_m b (small_number text)
m_fits b text = rw (among (3 ∷ 5 ∷ []) text refl, among (2 ∷ 30 ∷ []) text refl) (simp and-true)

-- the numbers that have a meaning behind G, and behind M
known_g : (n : Option ℕ) →
    is_among (0 ∷ 1 ∷ 4 ∷ 21 ∷ 90 ∷ 91 ∷ 17 ∷ 40 ∷ 49 ∷ 94 ∷ []) n
    ≡ (is_among (17 ∷ 40 ∷ 49 ∷ 94 ∷ []) n || (is_among (0 ∷ 1 ∷ []) n || (is_among (4 ∷ []) n || (is_among (21 ∷ []) n || (is_among (90 ∷ 91 ∷ []) n || false)))))
known_g None = refl
known_g (Some k) = rw (or_comm (is_among (17 ∷ 40 ∷ 49 ∷ 94 ∷ []) (Some k))) (simp (or_assoc, or-false))

known_m : (n : Option ℕ) → is_among (3 ∷ 5 ∷ 2 ∷ 30 ∷ []) n ≡ (is_among (3 ∷ 5 ∷ []) n || (is_among (2 ∷ 30 ∷ []) n || false))
known_m None = refl
known_m (Some k) = simp (or_assoc, or-false)

pub g_put : (b : Block) (text : List ℕ) → with_g (record b { is_empty = false }) (small_number text) ≡ with_word b (word 71 text)
g_put b text =
    rw (known_g (small_number text), among (0 ∷ 1 ∷ []) text refl, among (4 ∷ []) text refl, among (21 ∷ []) text refl, among (90 ∷ 91 ∷ []) text refl, among (90 ∷ []) text refl, among (17 ∷ 40 ∷ 49 ∷ 94 ∷ []) text refl)
    (simp (or-false, or_none))

pub m_put : (b : Block) (text : List ℕ) → with_m (record b { is_empty = false }) (small_number text) ≡ with_word b (word 77 text)
m_put b text =
    rw (known_m (small_number text), among (3 ∷ 5 ∷ []) text refl, among (2 ∷ 30 ∷ []) text refl, among (3 ∷ []) text refl)
    (simp (or-false, or_none))

-- the other letters
pub label_fits : (b : Block) (text : List ℕ) → (b.is_empty && is_short (word 78 text)) ≡ fits_in b (word 78 text)
label_fits b text = simp and-true

pub label_put : (b : Block) (text : List ℕ) → record b { is_empty = false } ≡ with_word b (word 78 text)
label_put b text = simp (or-false, or_none)

pub feed_fits : (b : Block) (text : List ℕ) → (not b.feed && not (is_negative (word 70 text))) ≡ fits_in b (word 70 text)
feed_fits b text = simp and-true

pub feed_put : (b : Block) (text : List ℕ) → b.feed ≡ false → record b { is_empty = false; feed = true } ≡ with_word b (word 70 text)
feed_put b text h = simp (h, or-false, or_none)

pub speed_fits : (b : Block) (text : List ℕ) → (not b.speed && not (is_negative (word 83 text))) ≡ fits_in b (word 83 text)
speed_fits b text = simp and-true

pub speed_put : (b : Block) (text : List ℕ) → b.speed ≡ false → record b { is_empty = false; speed = true } ≡ with_word b (word 83 text)
speed_put b text h = simp (h, or-false, or_none)

pub time_fits : (b : Block) (text : List ℕ) → (not b.time && not (is_negative (word 80 text))) ≡ fits_in b (word 80 text)
time_fits b text = simp and-true

pub time_put : (b : Block) (text : List ℕ) → b.time ≡ false → record b { is_empty = false; time = true } ≡ with_word b (word 80 text)
time_put b text h = simp (h, or-false, or_none)

pub x_fits : (b : Block) (text : List ℕ) → not (is_some b.x) ≡ fits_in b (word 88 text)
x_fits b text = simp and-true

pub x_put : (b : Block) (text : List ℕ) → b.x ≡ None → record b { is_empty = false; x = Some (coordinate_of (micron_of text)) } ≡ with_word b (word 88 text)
x_put b text h = simp (h, or-false, or_none)

pub y_fits : (b : Block) (text : List ℕ) → not (is_some b.y) ≡ fits_in b (word 89 text)
y_fits b text = simp and-true

pub y_put : (b : Block) (text : List ℕ) → b.y ≡ None → record b { is_empty = false; y = Some (coordinate_of (micron_of text)) } ≡ with_word b (word 89 text)
y_put b text h = simp (h, or-false, or_none)

-- a letter without a meaning
pub record HasNoMeaning (letter : ℕ) : Type 0 where
  pub g : (letter == 71) ≡ false
  pub m : (letter == 77) ≡ false
  pub label : (letter == 78) ≡ false
  pub feed : (letter == 70) ≡ false
  pub speed : (letter == 83) ≡ false
  pub time : (letter == 80) ≡ false
  pub x : (letter == 88) ≡ false
  pub y : (letter == 89) ≡ false

pub no_meaning : (letter : ℕ) → letter ≢ 71 → letter ≢ 77 → letter ≢ 78 → letter ≢ 70 → letter ≢ 83 → letter ≢ 80 → letter ≢ 88 → letter ≢ 89 → HasNoMeaning letter
no_meaning l g m n f s p x y = record {
  g = ne_eqb l 71 g;
  m = ne_eqb l 77 m;
  label = ne_eqb l 78 n;
  feed = ne_eqb l 70 f;
  speed = ne_eqb l 83 s;
  time = ne_eqb l 80 p;
  x = ne_eqb l 88 x;
  y = ne_eqb l 89 y;
}

pub other_fits : (b : Block) (letter : ℕ) (text : List ℕ) → HasNoMeaning letter → true ≡ fits_in b (word letter text)
other_fits b letter text h = simp (h.g, h.m, h.label, h.feed, h.speed, h.time, h.x, h.y)

pub other_put : (b : Block) (letter : ℕ) (text : List ℕ) → HasNoMeaning letter → record b { is_empty = false; unknown = true } ≡ with_word b (word letter text)
other_put b letter text h = simp (h.g, h.m, h.label, h.feed, h.speed, h.time, h.x, h.y, or-true, or-false, or_none)
