-- What a block tells of the words of its line.
use Rattle.std.proofs.Common.{◌≡◌, ℕ, Bool, true, false, List, [], ◌∷◌, Some, None, refl, sym, ap, subst, ◌∙◌}
use Rattle.std.specs.Prelude.{ℤ, Option, not, ◌||◌, is_some, find, option_map, option_and_then, if◌then◌else◌}
use Rattle.micron_decimals.specs.Decimals.{plain_of, micron_of}
use Rattle.std.specs.List.{list_all, list_any}
use Rattle.std.proofs.lemmas.Bool.{and_parts}
use Rattle.ngc_meaning.proofs.Lawful.{lawful_is, dwells_are_paired}
use Rattle.ngc_meaning.proofs.PlainNumbers.{plain_is_read}
use Rattle.code_moves.specs.Words.{Word, has_letter, are_lawful, is_axis, is_known, axis_in}
use Rattle.code_moves.specs.Meaning.{is_near}
use Rattle.ngc_meaning.specs.declared.number.Coordinate.{Coordinate}
use Rattle.ngc_meaning.specs.declared.number.Coordinate.TheVariants.{At, TooFar}
use Rattle.ngc_meaning.specs.declared.block.Block.{Block}
use Rattle.ngc_meaning.specs.Blocks.{coordinate_in}
use Rattle.ngc_meaning.specs.Contents.{IsBlockOf, are_plain}
use Rattle.ngc_meaning.specs.Machines.{agree}

-- a coordinate is that of a number, or of none
abbrev pub IsCoordinateOf : Option ℤ → Option Coordinate → Type 0
IsCoordinateOf a None = a ≡ None
IsCoordinateOf a (Some (At n)) = (a ≡ Some n) × (is_near n ≡ true)
IsCoordinateOf a (Some TooFar) = (n : ℤ) × (a ≡ Some n) × (is_near n ≡ false)

pub record BlockFacts (ws : List Word) (b : Block) : Type 0 where
  pub lawful : are_lawful ws ≡ agree b.dwell b.time
  pub axis : list_any is_axis ws ≡ (is_some b.x || is_some b.y)
  pub known : list_all is_known ws ≡ not b.unknown
  pub x : IsCoordinateOf (axis_in 88 ws) b.x
  pub y : IsCoordinateOf (axis_in 89 ws) b.y

-- some word passes where one is found
pub found_any : (p : Word → Bool) (ws : List Word) → is_some (find p ws) ≡ list_any p ws
found_any p [] = refl
found_any p (w ∷ ws) = by (p w) (found_any p ws)
  where
    by : (t : Bool) → is_some (find p ws) ≡ list_any p ws → is_some (if t then Some w else find p ws) ≡ (t || list_any p ws)
    by true h = refl
    by false h = h

pub some_map : {X Y : Type 0} (f : X → Y) (o : Option X) → is_some (option_map f o) ≡ is_some o
some_map f None = refl
some_map f (Some x) = refl

-- a word passes the one test or the other
any_of_two : (p q : Word → Bool) (ws : List Word) → list_any (λ w. p w || q w) ws ≡ (list_any p ws || list_any q ws)
any_of_two p q [] = refl
any_of_two p q (w ∷ ws) = ap (λ t. (p w || q w) || t) (any_of_two p q ws) ∙ by (p w) (q w) (list_any p ws) (list_any q ws)
  where
    by : (a b c d : Bool) → ((a || b) || (c || d)) ≡ ((a || c) || (b || d))
    by true b c d = refl
    by false true true d = refl
    by false true false d = refl
    by false false c d = refl

not_not : (t u : Bool) → t ≡ not u → u ≡ not t
not_not true true e = e
not_not true false e = refl
not_not false true e = refl
not_not false false e = e

-- the word that is found has a plain number
found_plain : (p : Word → Bool) (ws : List Word) (w : Word) → are_plain ws ≡ true → find p ws ≡ Some w → is_some (plain_of w.number) ≡ true
found_plain p [] w h e = absurd (cc)
found_plain p (v ∷ ws) w h e = by (p v) (and_parts (is_some (plain_of v.number)) (are_plain ws) h) (found_plain p ws w) e
  where
    by : (t : Bool) → (is_some (plain_of v.number) ≡ true) × (are_plain ws ≡ true) → (are_plain ws ≡ true → find p ws ≡ Some w → is_some (plain_of w.number) ≡ true) →
        (if t then Some v else find p ws) ≡ Some w → is_some (plain_of w.number) ≡ true
    by true plain more f = let same : v ≡ w = cc in subst (λ (u : Word). is_some (plain_of u.number) ≡ true) same plain.0
    by false plain more f = more plain.1 f

-- the coordinate that is told for a letter
coordinate_is : (letter : ℕ) (ws : List Word) → are_plain ws ≡ true → IsCoordinateOf (axis_in letter ws) (option_map coordinate_in (find (has_letter letter) ws))
coordinate_is letter ws plain = by (find (has_letter letter) ws) refl
  where
    told : (n : ℤ) (t : Bool) → is_near n ≡ t → IsCoordinateOf (Some n) (Some (if t then At n else TooFar))
    told n true e = (refl, e)
    told n false e = (n, refl, e)

    by : (o : Option Word) → find (has_letter letter) ws ≡ o → IsCoordinateOf (option_and_then (λ (w : Word). micron_of w.number) o) (option_map coordinate_in o)
    by None e = refl
    by (Some w) e = let read = plain_is_read w.number (found_plain (has_letter letter) ws w plain e) in rw read.1 (told read.0 (is_near read.0) refl)

pub block_facts : (ws : List Word) (b : Block) → IsBlockOf ws b → BlockFacts ws b
block_facts ws b h = record {
  lawful = lawful_is ws ∙ rw h.consistent (dwells_are_paired ws h.consistent ∙ ap (λ t. agree t (list_any (has_letter 80) ws)) (sym h.says.dwell) ∙ ap (agree b.dwell) (sym h.says.time));
  axis = any_of_two (has_letter 88) (has_letter 89) ws ∙ ap (λ t. t || list_any (has_letter 89) ws) (told 88 b.x h.says.x) ∙ ap (λ t. is_some b.x || t) (told 89 b.y h.says.y);
  known = not_not b.unknown (list_all is_known ws) h.says.unknown;
  x = rw h.says.x (coordinate_is 88 ws h.plain);
  y = rw h.says.y (coordinate_is 89 ws h.plain);
}
  where
    told : (letter : ℕ) (c : Option Coordinate) → c ≡ option_map coordinate_in (find (has_letter letter) ws) → list_any (has_letter letter) ws ≡ is_some c
    told letter c e = sym (found_any (has_letter letter) ws) ∙ sym (some_map coordinate_in (find (has_letter letter) ws)) ∙ ap is_some (sym e)
