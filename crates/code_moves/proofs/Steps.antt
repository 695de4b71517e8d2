-- What single lines of written code do.
use Rattle.std.proofs.Common.{◌≡◌, ℕ, ◌+◌, Bool, true, false, cond, List, [], ◌∷◌, ◌++◌, length, map, ℤ, Option, Some, None, refl, ap, ◌∙◌}
use Rattle.std.specs.Prelude.{◌&&◌, ◌||◌, not}
use Rattle.std.specs.Option.{option_map_or}
use Rattle.std.proofs.lemmas.Bool.{and_from}
use Rattle.nest_base.specs.declared.places.Point.{Point}
use Rattle.nest_base.specs.Order.{is_place}
use Rattle.nest_base.specs.Plane.{HalfEdge}
use Rattle.nest_base.proofs.Points.{Decides-is_place}
use Rattle.micron_decimals.specs.Decimals.{micron_of, micron_text}
use Rattle.code_moves.specs.declared.moves.Move.{Move}
use Rattle.code_moves.specs.declared.faults.CodeFault.TheVariants.{TooFar}
use Rattle.code_moves.specs.Words.{Content, Words}
use Rattle.code_moves.specs.History.{is_lit, is_absolute, axis_after, place_after, has_burnt, is_ended, is_moving}
use Rattle.code_moves.specs.Meaning.{is_near, is_within, one_if, closing_move, closing_by_m5, made, moves_at, moves_from, line_fault, or_fault}
use Rattle.code_moves.specs.Moves.{way, lit_moves}
use Rattle.code_moves.proofs.CodeLines.{travel, burn, torch_words}
use Rattle.code_moves.proofs.Pieces.{Torch, unlit, burning, StandsBehind, one_line_leads, Done, Does, refusal_in}

-- the moves of a line that ends no program, by what it changes
moves_by : (was_lit lit was_burnt moving : Bool) (p q : Point) (n : ℕ) → List Move
moves_by was_lit lit was_burnt moving p q n =
    one_if (was_lit && not lit && not was_burnt) (closing_move p n)
    ++ one_if moving (record { from = p; to = q; lit = lit; fresh = lit && not was_burnt; line = n })
    ++ []

-- a line ends no program, and leads the torch from one state to the other
record Changes (l : Content) (earlier : List Content) (was_lit lit was_burnt moving : Bool) (p q : Point) : Type 0 where
  goes_on : is_ended (l ∷ earlier) ≡ false
  was_lit_is : is_lit earlier ≡ was_lit
  lit_is : is_lit (l ∷ earlier) ≡ lit
  was_burnt_is : has_burnt earlier ≡ was_burnt
  moving_is : is_moving (l ∷ earlier) ≡ moving
  from_is : place_after earlier ≡ p
  to_is : place_after (l ∷ earlier) ≡ q

-- they depend on these states alone
same_moves : (a b c d a' b' c' d' : Bool) (p q p' q' : Point) (n : ℕ) → a ≡ a' → b ≡ b' → c ≡ c' → d ≡ d' → p ≡ p' → q ≡ q' → moves_by a b c d p q n ≡ moves_by a' b' c' d' p' q' n
same_moves a b c d a' b' c' d' p q p' q' n e f g h i j = cc

moves_at_is : (l : Content) (earlier : List Content) → is_ended (l ∷ earlier) ≡ false →
    moves_at l earlier ≡ moves_by (is_lit earlier) (is_lit (l ∷ earlier)) (has_burnt earlier) (is_moving (l ∷ earlier)) (place_after earlier) (place_after (l ∷ earlier)) (length earlier + 1)
unfolding moves_by
moves_at_is l earlier e = ap (λ t. closing_by_m5 l earlier ++ made l earlier ++ one_if (t && is_lit (l ∷ earlier) && not (has_burnt (l ∷ earlier))) (closing_move (place_after (l ∷ earlier)) (length earlier + 1))) e

moves_at_by : (l : Content) (earlier : List Content) (was_lit lit was_burnt moving : Bool) (p q : Point) → Changes l earlier was_lit lit was_burnt moving p q →
    moves_at l earlier ≡ moves_by was_lit lit was_burnt moving p q (length earlier + 1)
moves_at_by l earlier was_lit lit was_burnt moving p q h = moves_at_is l earlier h.goes_on
    ∙ same_moves (is_lit earlier) (is_lit (l ∷ earlier)) (has_burnt earlier) (is_moving (l ∷ earlier)) was_lit lit was_burnt moving
    (place_after earlier) (place_after (l ∷ earlier)) p q (length earlier + 1) h.was_lit_is h.lit_is h.was_burnt_is h.moving_is h.from_is h.to_is

-- what each kind of line burns
travel_burns_nothing : (moving : Bool) (p q : Point) (n : ℕ) → lit_moves (moves_by false false false moving p q n) ≡ []
unfolding moves_by
travel_burns_nothing true p q n = refl
travel_burns_nothing false p q n = refl

lighting_burns_nothing : (p q : Point) (n : ℕ) → lit_moves (moves_by false true false false p q n) ≡ []
unfolding moves_by
lighting_burns_nothing p q n = refl

putting_out_burns_nothing : (p q : Point) (n : ℕ) → lit_moves (moves_by true false true false p q n) ≡ []
unfolding moves_by
putting_out_burns_nothing p q n = refl

burns_one : (was_burnt : Bool) (p q : Point) (n : ℕ) → lit_moves (moves_by true true was_burnt true p q n) ≡ record { from = p; to = q; lit = true; fresh = not was_burnt; line = n } ∷ []
unfolding moves_by
burns_one was_burnt p q n = refl

staying_burns_nothing : (was_burnt : Bool) (p q : Point) (n : ℕ) → lit_moves (moves_by true true was_burnt false p q n) ≡ []
unfolding moves_by
staying_burns_nothing was_burnt p q n = refl

spot_burns_one : (p q : Point) (n : ℕ) → lit_moves (moves_by true false false false p q n) ≡ closing_move p n ∷ []
unfolding moves_by
spot_burns_one p q n = refl

-- what a line does that changes the torch so
does_line : (l : Content) (earlier : List Content) (was_lit lit was_burnt moving : Bool) (p q : Point) (ways : List HalfEdge) (fresh : List Bool) (burns : List Move) →
    is_absolute (l ∷ earlier) ≡ true → line_fault (Some l) earlier ≡ None → Changes l earlier was_lit lit was_burnt moving p q →
    lit_moves (moves_by was_lit lit was_burnt moving p q (length earlier + 1)) ≡ burns → map way burns ≡ ways → map (λ (m : Move). m.fresh) burns ≡ fresh →
    Done earlier (l ∷ []) ways fresh (record { lit = lit; burnt = lit && (moving || was_burnt); place = q })
does_line l earlier was_lit lit was_burnt moving p q ways fresh burns a f h b w r = record {
  later = l ∷ earlier;
  burns = burns;
  leads = one_line_leads l earlier burns f h.goes_on (ap lit_moves (moves_at_by l earlier was_lit lit was_burnt moving p q h) ∙ b);
  stands = record { absolute = a; lit = h.lit_is; burnt = burnt (is_lit (l ∷ earlier)) (is_moving (l ∷ earlier)) (has_burnt earlier) h.lit_is h.moving_is h.was_burnt_is; place = h.to_is };
  ways_are = w;
  fresh_are = r;
}
  where
    burnt : (x y z : Bool) → x ≡ lit → y ≡ moving → z ≡ was_burnt → (x && (y || z)) ≡ (lit && (moving || was_burnt))
    burnt x y z e g k = cc

-- a place of code: both numbers are within the range, and read as they are written
pub record IsCodePlace (q : Point) : Type 0 where
  pub near_x : is_near q.x ≡ true
  pub near_y : is_near q.y ≡ true
  pub read_x : micron_of (micron_text q.x) ≡ Some q.x
  pub read_y : micron_of (micron_text q.y) ≡ Some q.y

-- in absolute places, numbers that are read as those of q lead to q
place_read : (absolute : Bool) (old q : Point) (x y : Option ℤ) → absolute ≡ true → x ≡ Some q.x → y ≡ Some q.y → record { x = axis_after absolute old.x x; y = axis_after absolute old.y y } ≡ q
place_read absolute old q x y a b c = rw (a, b, c) refl

-- such a line isn't too far
within_range : (q place : Point) (x y : Option ℤ) → IsCodePlace q → place ≡ q → x ≡ Some q.x → y ≡ Some q.y →
    (option_map_or is_near x true && option_map_or is_near y true && is_near place.x && is_near place.y) ≡ true
within_range q place x y h a b c = rw (a, b, c) (and_from (is_near q.x && is_near q.y && is_near q.x) (is_near q.y) (and_from (is_near q.x && is_near q.y) (is_near q.x) (and_from (is_near q.x) (is_near q.y) h.near_x h.near_y) h.near_x) h.near_y)

no_fault : (within : Bool) → within ≡ true → cond (not within) (Some TooFar) None ≡ None
no_fault within a = rw a refl

-- unlit to q by G0
pub does_travel : (p q : Point) → IsCodePlace q → Does (unlit p) (travel q ∷ []) [] [] (unlit q)
does_travel p q h earlier s =
    let l = Words (travel q) in
    let place = place_read (is_absolute earlier) (place_after earlier) q (micron_of (micron_text q.x)) (micron_of (micron_text q.y)) s.absolute h.read_x h.read_y in
    let within = within_range q (place_after (l ∷ earlier)) (micron_of (micron_text q.x)) (micron_of (micron_text q.y)) h place h.read_x h.read_y in
    does_line l earlier false false false (is_moving (l ∷ earlier)) p q [] [] [] s.absolute (no_fault (is_within l earlier) within)
    (record { goes_on = refl; was_lit_is = s.lit; lit_is = s.lit; was_burnt_is = s.burnt; moving_is = refl; from_is = s.place; to_is = place })
    (travel_burns_nothing (is_moving (l ∷ earlier)) p q (length earlier + 1)) refl refl

-- nor is a line without a place
torch_within : (p place : Point) → IsCodePlace p → place ≡ p → (is_near place.x && is_near place.y) ≡ true
torch_within p place h e = rw e (and_from (is_near p.x) (is_near p.y) h.near_x h.near_y)

-- it makes no move
no_move : (earlier : List Content) → not (is_place (place_after earlier) (place_after earlier)) ≡ false
no_move earlier = ap not ((Decides-is_place (place_after earlier) (place_after earlier)).1 refl)

-- lit by M3
pub does_light : (p : Point) → IsCodePlace p → Does (unlit p) (torch_words 51 ∷ []) [] [] (burning false p)
does_light p h earlier s =
    let l = Words (torch_words 51) in
    does_line l earlier false true false false p p [] [] [] s.absolute (no_fault (is_within l earlier) (torch_within p (place_after earlier) h s.place))
    (record { goes_on = refl; was_lit_is = s.lit; lit_is = refl; was_burnt_is = s.burnt; moving_is = no_move earlier; from_is = s.place; to_is = s.place })
    (lighting_burns_nothing p p (length earlier + 1)) refl refl

-- what G1 to q does while the torch is lit at p, by whether that is one place
does_motion : (was_burnt moving : Bool) (p q : Point) → not (is_place q p) ≡ moving → IsCodePlace q → (ways : List HalfEdge) (fresh : List Bool) (burns : ℕ → List Move) →
    ((n : ℕ) → (lit_moves (moves_by true true was_burnt moving p q n) ≡ burns n) × (map way (burns n) ≡ ways) × (map (λ (m : Move). m.fresh) (burns n) ≡ fresh)) →
    Does (burning was_burnt p) (burn q ∷ []) ways fresh (burning (moving || was_burnt) q)
does_motion was_burnt moving p q moves h ways fresh burns are earlier s =
    let l = Words (burn q) in
    let place = place_read (is_absolute earlier) (place_after earlier) q (micron_of (micron_text q.x)) (micron_of (micron_text q.y)) s.absolute h.read_x h.read_y in
    let within = within_range q (place_after (l ∷ earlier)) (micron_of (micron_text q.x)) (micron_of (micron_text q.y)) h place h.read_x h.read_y in
    let here = are (length earlier + 1) in
    does_line l earlier true true was_burnt moving p q ways fresh (burns (length earlier + 1)) s.absolute (no_fault (is_within l earlier) within)
    (record { goes_on = refl; was_lit_is = s.lit; lit_is = s.lit; was_burnt_is = s.burnt; moving_is = same (place_after earlier) (place_after (l ∷ earlier)) s.place place; from_is = s.place; to_is = place })
    here.0 here.1 here.2
  where
    same : (from to : Point) → from ≡ p → to ≡ q → not (is_place to from) ≡ moving
    same from to e k = rw (e, k) moves

-- burning to q by G1; the move is fresh where none was made since the torch was lit
pub does_burn : (was_burnt : Bool) (p q : Point) → is_place q p ≡ false → IsCodePlace q → Does (burning was_burnt p) (burn q ∷ []) (record { from = p; to = q } ∷ []) (not was_burnt ∷ []) (burning true q)
does_burn was_burnt p q other h = does_motion was_burnt true p q (ap not other) h (record { from = p; to = q } ∷ []) (not was_burnt ∷ [])
    (λ n. record { from = p; to = q; lit = true; fresh = not was_burnt; line = n } ∷ []) (λ n. (burns_one was_burnt p q n, refl, refl))

-- G1 to the place where the torch is burns nothing
pub does_stay : (was_burnt : Bool) (p q : Point) → is_place q p ≡ true → IsCodePlace q → Does (burning was_burnt p) (burn q ∷ []) [] [] (burning was_burnt q)
does_stay was_burnt p q one h = does_motion was_burnt false p q (ap not one) h [] [] (λ n. []) (λ n. (staying_burns_nothing was_burnt p q n, refl, refl))

-- put out by M5, after a move
pub does_put_out : (p : Point) → IsCodePlace p → Does (burning true p) (torch_words 53 ∷ []) [] [] (unlit p)
does_put_out p h earlier s =
    let l = Words (torch_words 53) in
    does_line l earlier true false true false p p [] [] [] s.absolute (no_fault (is_within l earlier) (torch_within p (place_after earlier) h s.place))
    (record { goes_on = refl; was_lit_is = s.lit; lit_is = refl; was_burnt_is = s.burnt; moving_is = no_move earlier; from_is = s.place; to_is = s.place })
    (putting_out_burns_nothing p p (length earlier + 1)) refl refl

-- put out by M5 where no move was made since the torch was lit: this burns the spot
pub does_put_out_on_spot : (p : Point) → IsCodePlace p → Does (burning false p) (torch_words 53 ∷ []) (record { from = p; to = p } ∷ []) (true ∷ []) (unlit p)
does_put_out_on_spot p h earlier s =
    let l = Words (torch_words 53) in
    does_line l earlier true false false false p p (record { from = p; to = p } ∷ []) (true ∷ []) (closing_move p (length earlier + 1) ∷ []) s.absolute (no_fault (is_within l earlier) (torch_within p (place_after earlier) h s.place))
    (record { goes_on = refl; was_lit_is = s.lit; lit_is = refl; was_burnt_is = s.burnt; moving_is = no_move earlier; from_is = s.place; to_is = s.place })
    (spot_burns_one p p (length earlier + 1)) refl refl

-- the program ends by M2 while the torch is out
pub record Ends (earlier : List Content) : Type 0 where
  pub accepted : refusal_in earlier (Words (torch_words 50) ∷ []) ≡ None
  pub burns_nothing : lit_moves (moves_from earlier (Words (torch_words 50) ∷ [])) ≡ []

pub ends : (p : Point) (earlier : List Content) → IsCodePlace p → StandsBehind earlier (unlit p) → Ends earlier
ends p earlier h s =
    let l = Words (torch_words 50) in
    record {
      accepted = ap (λ f. or_fault f (length earlier + 1) None) (no_fault (is_within l earlier) (torch_within p (place_after earlier) h s.place));
      burns_nothing = silent (is_lit earlier) (is_moving (l ∷ earlier)) (has_burnt earlier) (place_after earlier) (length earlier + 1) s.lit (no_move earlier);
    }
  where
    silent : (lit moving burnt : Bool) (p : Point) (n : ℕ) → lit ≡ false → moving ≡ false → lit_moves (one_if (lit && not lit && not burnt) (closing_move p n)
        ++ one_if moving (record { from = p; to = p; lit = lit; fresh = lit && not burnt; line = n })
        ++ one_if (true && lit && not (lit && (moving || burnt))) (closing_move p n) ++ []) ≡ []
    silent lit moving burnt p n a b = rw (a, b) refl

-- nothing is done by no line
pub does_nothing : (torch : Torch) → Does torch [] [] [] torch
does_nothing torch earlier s = record {
  later = earlier;
  burns = [];
  leads = record { accepted = λ rest. refl; burnt = λ rest. refl };
  stands = s;
  ways_are = refl;
  fresh_are = refl;
}
