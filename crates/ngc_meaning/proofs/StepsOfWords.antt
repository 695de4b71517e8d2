-- A line of words, behind the earlier lines.
use Rattle.std.proofs.Common.{arith, ◌≡◌, ℕ, suc, ◌+◌, Bool, true, false, List, [], ◌∷◌, ◌++◌, length, Some, None, refl, sym, ap, subst, inl, inr, ◌∙◌}
use Rattle.std.specs.Prelude.{ℤ, pos, negsuc, ◌⊎◌, Option, not, ◌&&◌, ◌||◌, is_some, find, option_map, option_and_then, unwrap_or, if◌then◌else◌}
use Rattle.std.specs.List.{list_all, list_any}
use Rattle.std.specs.Option.{option_map_or}
use Rattle.std.proofs.lemmas.Bool.{and_left, and_right, true≢false, le-leb}
use Rattle.std.proofs.lemmas.Grind.{common_steps}
use Rattle.std.proofs.lemmas.Int.{ints}
use Rattle.nest_base.specs.declared.places.Point.{Point}
use Rattle.nest_base.specs.Range.{IsWithin, IsNear}
use Rattle.code_moves.specs.declared.faults.CodeFault.TheVariants.{BadLine, UnknownWord, TooFar as TooFarFault}
use Rattle.code_moves.specs.Words.{Word, Content, Mark, Words, are_lawful, is_axis, is_known, axis_in, is_motion, is_distance, is_torch, is_g, is_m}
use Rattle.code_moves.specs.History.{has_begun, is_marked, has_motion, is_lit, is_absolute, axis_after, target, place_after, is_ended, is_empty}
use Rattle.code_moves.specs.Meaning.{is_near, code_range, is_within, is_lawful, line_fault, made, closing_by_m5, closing_by_end}
use Rattle.ngc_meaning.specs.declared.number.Coordinate.{Coordinate}
use Rattle.ngc_meaning.specs.declared.number.Coordinate.TheVariants.{At, TooFar}
use Rattle.ngc_meaning.specs.declared.block.Block.{Block}
use Rattle.ngc_meaning.specs.Blocks.{Says, is_empty as no_word}
use Rattle.ngc_meaning.specs.Contents.{IsBlockOf, IsRead}
use Rattle.ngc_meaning.specs.Machines.{State, MachineAt, IsStep, listed, reached, target_of, state_behind, lawful_in, moved, closed}
use Rattle.ngc_meaning.specs.declared.machine.Stepped.{Stepped}
use Rattle.code_moves.specs.declared.faults.CodeFault.{CodeFault}
use Rattle.ngc_meaning.proofs.BlockFacts.{IsCoordinateOf, block_facts}
use Rattle.ngc_meaning.proofs.Lawful.{inconsistent}

-- an option's answer, or what stands for none
map_or : {X Y : Type 0} (f : X → Y) (o : Option X) (d : Y) → unwrap_or (option_map f o) d ≡ option_map_or f o d
map_or f None d = refl
map_or f (Some x) d = refl

-- where places are told: in absolute or relative ones
pub absolute_is : (earlier : List Content) (ws : List Word) (m : State) (b : Block) → MachineAt earlier m → Says ws b →
    unwrap_or b.absolute m.is_absolute ≡ is_absolute (Words ws ∷ earlier)
absolute_is earlier ws m b at says = ap (λ o. unwrap_or o m.is_absolute) says.distance ∙ ap (λ d. unwrap_or (option_map (is_g (90 ∷ [])) (find is_distance ws)) d) at.absolute ∙ map_or (is_g (90 ∷ [])) (find is_distance ws) (is_absolute earlier)

pub lit_is : (earlier : List Content) (ws : List Word) (m : State) (b : Block) → MachineAt earlier m → Says ws b →
    unwrap_or b.lit m.is_lit ≡ is_lit (Words ws ∷ earlier)
lit_is earlier ws m b at says = ap (λ o. unwrap_or o m.is_lit) says.torch ∙ ap (λ d. unwrap_or (option_map (is_m (3 ∷ [])) (find is_torch ws)) d) at.lit ∙ map_or (is_m (3 ∷ [])) (find is_torch ws) (is_lit earlier)

-- one coordinate, or the place that it leads to, lies beyond the range
abbrev IsBeyond : Bool → ℤ → Option ℤ → Type 0
IsBeyond absolute old a = (option_map_or is_near a true && is_near (axis_after absolute old a)) ≡ false

record IsReached (absolute : Bool) (old : ℤ) (a : Option ℤ) (z : ℤ) : Type 0 where
  is : z ≡ axis_after absolute old a
  told : option_map_or is_near a true ≡ true

abbrev Outcome : Bool → ℤ → Option ℤ → Option ℤ → Type 0
Outcome absolute old a None = IsBeyond absolute old a
Outcome absolute old a (Some z) = IsReached absolute old a z

outcome : (absolute : Bool) (old : ℤ) (a : Option ℤ) (c : Option Coordinate) → IsCoordinateOf a c → Outcome absolute old a (reached absolute old c)
outcome absolute old a None e = rw e (record { is = refl; told = refl })
outcome absolute old a (Some TooFar) e = rw e.1 (and_left (is_near e.0) (is_near (axis_after absolute old (Some e.0))) e.2)
outcome absolute old a (Some (At n)) e = rw e.0 (by (is_near (axis_after absolute old (Some n))) refl)
  where
    by : (t : Bool) → is_near (axis_after absolute old (Some n)) ≡ t → Outcome absolute old (Some n) (if t then Some (axis_after absolute old (Some n)) else None)
    by true f = record { is = refl; told = e.1 }
    by false f = and_right (is_near n) (is_near (axis_after absolute old (Some n))) f

-- both coordinates
abbrev WordOutcome : Bool → List Word → Point → Option Point → Type 0
WordOutcome absolute ws p None = IsBeyond absolute p.x (axis_in 88 ws) ⊎ IsBeyond absolute p.y (axis_in 89 ws)
WordOutcome absolute ws p (Some q) = (q ≡ target absolute ws p) × (option_map_or is_near (axis_in 88 ws) true ≡ true) × (option_map_or is_near (axis_in 89 ws) true ≡ true)

both : (absolute : Bool) (ws : List Word) (p : Point) (x y : Option ℤ) → Outcome absolute p.x (axis_in 88 ws) x → Outcome absolute p.y (axis_in 89 ws) y →
    WordOutcome absolute ws p (option_and_then (λ x. option_map (λ y. record { x = x; y = y }) y) x)
both absolute ws p None y h k = inl h
both absolute ws p (Some x) None h k = inr k
both absolute ws p (Some x) (Some y) h k = (rw (h.is, k.is) refl, h.told, k.told)

-- where the words of a line lead, or that they lead beyond the range
pub leads : (earlier : List Content) (ws : List Word) (m : State) (b : Block) → MachineAt earlier m → IsBlockOf ws b →
    WordOutcome (is_absolute (Words ws ∷ earlier)) ws (place_after earlier) (target_of m b)
leads earlier ws m b at of =
    let facts = block_facts ws b of in
    subst (λ a. WordOutcome a ws (place_after earlier) (target_of m b)) (absolute_is earlier ws m b at of.says)
    (subst (λ p. WordOutcome (unwrap_or b.absolute m.is_absolute) ws p (target_of m b)) at.place
    (both (unwrap_or b.absolute m.is_absolute) ws m.place (reached (unwrap_or b.absolute m.is_absolute) m.place.x b.x) (reached (unwrap_or b.absolute m.is_absolute) m.place.y b.y)
    (outcome (unwrap_or b.absolute m.is_absolute) m.place.x (axis_in 88 ws) b.x facts.x) (outcome (unwrap_or b.absolute m.is_absolute) m.place.y (axis_in 89 ws) b.y facts.y)))

beyond_x : (x y nx ny : Bool) → (x && nx) ≡ false → (x && y && nx && ny) ≡ false
beyond_x true y true ny h = absurd (true≢false h)
beyond_x true true false ny h = refl
beyond_x true false false ny h = refl
beyond_x false y nx ny h = refl

beyond_y : (x y nx ny : Bool) → (y && ny) ≡ false → (x && y && nx && ny) ≡ false
beyond_y true true true ny h = h
beyond_y true true false ny h = refl
beyond_y true false nx ny h = refl
beyond_y false y nx ny h = refl

-- beyond the range: the words aren't within it
pub not_within : (earlier : List Content) (ws : List Word) (m : State) (b : Block) → MachineAt earlier m → IsBlockOf ws b → target_of m b ≡ None →
    is_within (Words ws) earlier ≡ false
not_within earlier ws m b at of none = elim (subst (λ t. WordOutcome (is_absolute (Words ws ∷ earlier)) ws (place_after earlier) t) none (leads earlier ws m b at of)) [
  | inl h ↦ beyond_x near_x near_y (is_near (place_after (Words ws ∷ earlier)).x) (is_near (place_after (Words ws ∷ earlier)).y) h
  | inr h ↦ beyond_y near_x near_y (is_near (place_after (Words ws ∷ earlier)).x) (is_near (place_after (Words ws ∷ earlier)).y) h
]
  where
    near_x : Bool
    near_x = option_map_or is_near (axis_in 88 ws) true

    near_y : Bool
    near_y = option_map_or is_near (axis_in 89 ws) true

four : (x y nx ny : Bool) → x ≡ true → y ≡ true → nx ≡ true → ny ≡ true → (x && y && nx && ny) ≡ true
four x y nx ny e f g h = rw (e, f, g, h) refl

near_is : (z : ℤ) → IsNear code_range z → is_near z ≡ true
near_is (pos k) h = le-leb k code_range (omega (arith, ints, h.1))
near_is (negsuc k) h = le-leb (suc k) code_range (omega (arith, ints, h.0))

pub within : (earlier : List Content) (ws : List Word) (m : State) (b : Block) (q : Point) → MachineAt earlier m → IsBlockOf ws b → target_of m b ≡ Some q → IsWithin code_range q →
    (is_within (Words ws) earlier ≡ true) × (q ≡ place_after (Words ws ∷ earlier))
within earlier ws m b q at of some near =
    let led = subst (λ t. WordOutcome (is_absolute (Words ws ∷ earlier)) ws (place_after earlier) t) some (leads earlier ws m b at of) in (
      four (option_map_or is_near (axis_in 88 ws) true) (option_map_or is_near (axis_in 89 ws) true) (is_near (place_after (Words ws ∷ earlier)).x) (is_near (place_after (Words ws ∷ earlier)).y)
          led.1 led.2 (ap (λ p. is_near p.x) (sym led.0) ∙ near_is q.x near.x) (ap (λ p. is_near p.y) (sym led.0) ∙ near_is q.y near.y),
      led.0,
    )

-- the faults of a line of words, in their order
pub bad_line : (earlier : List Content) (ws : List Word) → is_lawful (Words ws) earlier ≡ false → line_fault (Some (Words ws)) earlier ≡ Some BadLine
bad_line earlier ws e = rw e refl

pub unknown_word : (earlier : List Content) (ws : List Word) → is_lawful (Words ws) earlier ≡ true → list_all is_known ws ≡ false → line_fault (Some (Words ws)) earlier ≡ Some UnknownWord
unknown_word earlier ws e f = rw (e, f) refl

pub too_far : (earlier : List Content) (ws : List Word) → is_lawful (Words ws) earlier ≡ true → list_all is_known ws ≡ true → is_within (Words ws) earlier ≡ false →
    line_fault (Some (Words ws)) earlier ≡ Some TooFarFault
too_far earlier ws e f g = rw (e, f, g) refl

pub no_fault : (earlier : List Content) (ws : List Word) → is_lawful (Words ws) earlier ≡ true → list_all is_known ws ≡ true → is_within (Words ws) earlier ≡ true →
    line_fault (Some (Words ws)) earlier ≡ None
no_fault earlier ws e f g = rw (e, f, g) refl

swap : (x y : Bool) → (x || y) ≡ (y || x)
swap true true = refl
swap true false = refl
swap false true = refl
swap false false = refl

-- whether a line of words is lawful
pub lawful_by : (earlier : List Content) (ws : List Word) (m : State) (b : Block) → MachineAt earlier m → IsBlockOf ws b → lawful_in m b ≡ is_lawful (Words ws) earlier
lawful_by earlier ws m b at of =
    let facts = block_facts ws b of in
    ap (λ t. t && (not (is_some b.x || is_some b.y) || (m.has_motion || b.motion))) (sym facts.lawful)
    ∙ ap (λ t. are_lawful ws && (not t || (m.has_motion || b.motion))) (sym facts.axis)
    ∙ ap (λ t. are_lawful ws && (not (list_any is_axis ws) || (t || b.motion))) at.motion
    ∙ ap (λ t. are_lawful ws && (not (list_any is_axis ws) || (has_motion earlier || t))) of.says.motion
    ∙ ap (λ t. are_lawful ws && (not (list_any is_axis ws) || t)) (swap (has_motion earlier) (list_any is_motion ws))

-- whether the words of a line have a meaning
pub known_by : (ws : List Word) (b : Block) (t : Bool) → IsBlockOf ws b → b.unknown ≡ t → list_all is_known ws ≡ not t
known_by ws b t of e = (block_facts ws b of).known ∙ ap not e

-- no line has come but empty ones: none was `%`
unmarked : (earlier : List Content) → has_begun earlier ≡ false → is_marked earlier ≡ false
unmarked [] h = refl
unmarked (Mark ∷ earlier) h = absurd (true≢false h)
unmarked (Words [] ∷ earlier) h = rw h refl
unmarked (Words (w ∷ ws) ∷ earlier) h = absurd (true≢false h)

same_if : (begun marked : Bool) → (begun ≡ false → marked ≡ false) → marked ≡ (if begun then marked else false)
same_if true marked h = refl
same_if false marked h = h refl

same_empty : (ws : List Word) → no_word ws ≡ is_empty (Words ws)
same_empty [] = refl
same_empty (w ∷ ws) = refl

one_more : (n : ℕ) → n + 1 ≡ suc n
one_more n = omega arith

-- the state behind the words
pub behind : (earlier : List Content) (ws : List Word) (m : State) (b : Block) (q : Point) → MachineAt earlier m → Says ws b → q ≡ place_after (Words ws ∷ earlier) →
    MachineAt (Words ws ∷ earlier) (state_behind m b q)
behind earlier ws m b q at says e = record {
  place = e;
  lit = lit_is earlier ws m b at says;
  motion = rw (at.motion, says.motion) (swap (has_motion earlier) (list_any is_motion ws));
  absolute = absolute_is earlier ws m b at says;
  burnt = rw (lit_is earlier ws m b at says, e, at.place, at.burnt) refl;
  begun = rw at.begun (ap (λ t. has_begun earlier || not t) (says.empty ∙ same_empty ws) ∙ swap (has_begun earlier) (not (is_empty (Words ws))));
  marked = at.marked ∙ same_if (has_begun earlier) (is_marked earlier) (unmarked earlier);
  taken = ap (λ n. n + 1) at.taken ∙ one_more (length earlier);
}

-- the moves between two states are those of the line between them
pub made_is : (l : Content) (earlier : List Content) (m n : State) → MachineAt earlier m → MachineAt (l ∷ earlier) n → moved m n ≡ made l earlier
made_is l earlier m n at to = rw (at.place, at.burnt, at.taken, to.place, to.lit) refl

pub closed_is : (l : Content) (earlier : List Content) (m n : State) (ends : Bool) → MachineAt earlier m → MachineAt (l ∷ earlier) n → ends ≡ is_ended (l ∷ earlier) →
    closed m n ends ≡ closing_by_m5 l earlier ++ closing_by_end l earlier
closed_is l earlier m n ends at to e = rw (e, at.place, at.lit, at.burnt, at.taken, to.place, to.lit, to.burnt) refl

-- a refused line leaves the machine as it was
pub refused_step : (earlier : List Content) (content : Option Content) (m : State) (f : CodeFault) (s : Stepped) → s ≡ record { made = None; closing = None; ended = false; fault = Some f } →
    line_fault content earlier ≡ Some f → IsStep earlier content s m
refused_step earlier content m f s e h = rw e (record { fault = sym h; taken = λ none. absurd (some_is_none none); next = λ none. absurd (some_is_none none) })
  where
    some_is_none : Some f ≡ None → ⊥
    some_is_none k = grind (arith, common_steps, k)

-- any other line takes it on
pub taken_step : (earlier : List Content) (ws : List Word) (m n : State) (b : Block) (q : Point) (s : Stepped) → MachineAt earlier m → IsBlockOf ws b →
    line_fault (Some (Words ws)) earlier ≡ None → q ≡ place_after (Words ws ∷ earlier) → n ≡ state_behind m b q →
    listed s.made ≡ moved m n → listed s.closing ≡ closed m n b.ending → s.ended ≡ b.ending → s.fault ≡ None → IsStep earlier (Some (Words ws)) s n
taken_step earlier ws m n b q s at of fine led state made_as closing_as ended_as fault_as =
    let to : MachineAt (Words ws ∷ earlier) n = subst (λ k. MachineAt (Words ws ∷ earlier) k) (sym state) (behind earlier ws m b q at of.says led) in
    record {
      fault = fault_as ∙ sym fine;
      taken = λ none. record {
        made = made_as ∙ made_is (Words ws) earlier m n at to;
        closing = closing_as ∙ closed_is (Words ws) earlier m n b.ending at to of.says.ending;
        ended = ended_as ∙ of.says.ending;
      };
      next = λ none. to;
    }

-- what isn't read is refused
pub unread : (earlier : List Content) (content : Option Content) → IsRead content None → line_fault content earlier ≡ Some BadLine
unread earlier content (inl none) = rw none refl
unread earlier content (inr read) = rw read.1 (by (inconsistent read.0 read.2))
  where
    by : are_lawful read.0 ≡ false → line_fault (Some (Words read.0)) earlier ≡ Some BadLine
    by h = bad_line earlier read.0 (rw h refl)
