-- A block with one more word says what the longer list says.
use Rattle.std.proofs.Common.{◌≡◌, Bool, true, false, List, [], ◌∷◌, ◌++◌, Some, None, refl, sym, ap, ◌∙◌}
use Rattle.std.specs.Prelude.{◌&&◌, ◌||◌, not, Option, find, option_map, is_some, if◌then◌else◌}
use Rattle.std.specs.Option.{option_or}
use Rattle.std.specs.List.{list_all, list_any}
use Rattle.std.proofs.lemmas.Bool.{false≢true}
use Rattle.std.proofs.lemmas.List.Folds.{list_any-append, list_all-append, find-append}
use Rattle.code_moves.specs.Words.{Word, has_letter, is_g, is_m, is_motion, is_dwell, is_unit, is_distance, is_torch, is_end, is_known, is_short, is_negative, is_amount, is_label}
use Rattle.ngc_meaning.specs.declared.block.Block.{Block}
use Rattle.ngc_meaning.specs.Blocks.{Says, is_empty, fits_behind, fits_in, with_word, some_if, coordinate_in}
use Rattle.ngc_meaning.proofs.BlockFacts.{found_any, some_map}

or_false : (t : Bool) → (t || false) ≡ t
or_false true = refl
or_false false = refl

any_more : (p : Word → Bool) (ws : List Word) (w : Word) → (list_any p ws || p w) ≡ list_any p (ws ++ w ∷ [])
any_more p ws w = ap (λ t. list_any p ws || t) (sym (or_false (p w))) ∙ sym (list_any-append p ws (w ∷ []))

found_more : {X : Type 0} (f : Word → X) (p : Word → Bool) (ws : List Word) (w : Word) →
    option_or (option_map f (find p ws)) (some_if (p w) (f w)) ≡ option_map f (find p (ws ++ w ∷ []))
found_more f p ws w = by (find p ws) (p w) ∙ ap (option_map f) (sym (find-append p ws (w ∷ [])))
  where
    by : (o : Option Word) (t : Bool) → option_or (option_map f o) (some_if t (f w)) ≡ option_map f (option_or o (if t then Some w else None))
    by None true = refl
    by None false = refl
    by (Some v) t = refl

unknown_more : (ws : List Word) (w : Word) → (not (list_all is_known ws) || not (is_known w)) ≡ not (list_all is_known (ws ++ w ∷ []))
unknown_more ws w = by (list_all is_known ws) (is_known w) ∙ ap not (sym (list_all-append is_known ws (w ∷ [])))
  where
    by : (s t : Bool) → (not s || not t) ≡ not (s && (t && true))
    by true true = refl
    by true false = refl
    by false t = refl

not_empty : (ws : List Word) (w : Word) → false ≡ is_empty (ws ++ w ∷ [])
not_empty [] w = refl
not_empty (v ∷ ws) w = refl

pub says_more : (ws : List Word) (b : Block) (w : Word) → Says ws b → Says (ws ++ w ∷ []) (with_word b w)
says_more ws b w h = record {
  empty = not_empty ws w;
  motion = ap (λ t. t || is_motion w) h.motion ∙ any_more is_motion ws w;
  dwell = ap (λ t. t || is_dwell w) h.dwell ∙ any_more is_dwell ws w;
  unit = ap (λ t. t || is_unit w) h.unit ∙ any_more is_unit ws w;
  distance = ap (λ o. option_or o (some_if (is_distance w) (is_g (90 ∷ []) w))) h.distance ∙ found_more (is_g (90 ∷ [])) is_distance ws w;
  torch = ap (λ o. option_or o (some_if (is_torch w) (is_m (3 ∷ []) w))) h.torch ∙ found_more (is_m (3 ∷ [])) is_torch ws w;
  ending = ap (λ t. t || is_end w) h.ending ∙ any_more is_end ws w;
  feed = ap (λ t. t || has_letter 70 w) h.feed ∙ any_more (has_letter 70) ws w;
  speed = ap (λ t. t || has_letter 83 w) h.speed ∙ any_more (has_letter 83) ws w;
  time = ap (λ t. t || has_letter 80 w) h.time ∙ any_more (has_letter 80) ws w;
  x = ap (λ o. option_or o (some_if (has_letter 88 w) (coordinate_in w))) h.x ∙ found_more coordinate_in (has_letter 88) ws w;
  y = ap (λ o. option_or o (some_if (has_letter 89 w) (coordinate_in w))) h.y ∙ found_more coordinate_in (has_letter 89) ws w;
  unknown = ap (λ t. t || not (is_known w)) h.unknown ∙ unknown_more ws w;
}

-- eleven kinds once a line, the label n apart: where the last condition on labels holds, there is no second one
fits_by : (a b c d e f g h i j k n l m : Bool) → (l ≡ true → n ≡ true) →
    (a && b && c && d && e && f && g && h && i && j && k && l && m)
    ≡ ((a && (b && (c && (d && (e && (f && (n && (g && (h && (i && (j && (k && true)))))))))))) && l && m)
fits_by true true true true true true true true true true true true l m imp = refl
fits_by true true true true true true true true true true false true l m imp = refl
fits_by true true true true true true true true true false k true l m imp = refl
fits_by true true true true true true true true false j k true l m imp = refl
fits_by true true true true true true true false i j k true l m imp = refl
fits_by true true true true true true false h i j k true l m imp = refl
fits_by true true true true true true true true true true true false true m imp = absurd (false≢true (imp refl))
fits_by true true true true true true true true true true true false false m imp = refl
fits_by true true true true true true true true true true false false l m imp = refl
fits_by true true true true true true true true true false k false l m imp = refl
fits_by true true true true true true true true false j k false l m imp = refl
fits_by true true true true true true true false i j k false l m imp = refl
fits_by true true true true true true false h i j k false l m imp = refl
fits_by true true true true true false g h i j k n l m imp = refl
fits_by true true true true false f g h i j k n l m imp = refl
fits_by true true true false e f g h i j k n l m imp = refl
fits_by true true false d e f g h i j k n l m imp = refl
fits_by true false c d e f g h i j k n l m imp = refl
fits_by false b c d e f g h i j k n l m imp = refl

one_label : (ws : List Word) (t s : Bool) → (not t || (is_empty ws && s)) ≡ true → not (t && list_any (has_letter 78) ws) ≡ true
one_label [] true s h = refl
one_label [] false s h = refl
one_label (v ∷ ws) true s h = absurd (false≢true h)
one_label (v ∷ ws) false s h = refl

told : {X : Type 0} (f : Word → X) (p : Word → Bool) (ws : List Word) (o : Option X) → o ≡ option_map f (find p ws) → is_some o ≡ list_any p ws
told f p ws o e = ap is_some e ∙ some_map f (find p ws) ∙ found_any p ws

-- whether a word fits is seen at the block
pub fits_is : (ws : List Word) (b : Block) (w : Word) → Says ws b → fits_in b w ≡ fits_behind ws w
fits_is ws b w h =
    rw (
      h.motion,
      h.dwell,
      h.unit,
      told (is_g (90 ∷ [])) is_distance ws b.absolute h.distance,
      told (is_m (3 ∷ [])) is_torch ws b.lit h.torch,
      h.ending,
      h.feed,
      h.speed,
      h.time,
      told coordinate_in (has_letter 88) ws b.x h.x,
      told coordinate_in (has_letter 89) ws b.y h.y,
      h.empty,
    )
    (fits_by (once is_motion) (once is_dwell) (once is_unit) (once is_distance) (once is_torch) (once is_end) (once (has_letter 70)) (once (has_letter 83)) (once (has_letter 80)) (once (has_letter 88)) (once (has_letter 89))
    (once (has_letter 78)) (not (is_label w) || (is_empty ws && is_short w)) (not (is_amount w) || not (is_negative w)) (one_label ws (has_letter 78 w) (is_short w)))
  where
    once : (Word → Bool) → Bool
    once p = not (p w && list_any p ws)
