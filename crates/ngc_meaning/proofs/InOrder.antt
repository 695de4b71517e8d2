-- Each move of a code can follow the one before it.
use Rattle.std.proofs.Common.{◌≡◌, ℕ, ◌+◌, ◌≤◌, inl, inr, Bool, true, false, cond, List, [], ◌∷◌, ◌++◌, length, map, refl, sym, ◌∙◌, arith, append_assoc}
use Rattle.std.specs.Prelude.{◌&&◌, ◌||◌, not, IsTrue}
use Rattle.std.proofs.lemmas.Bool.{and_parts, not-true, not-false, both_ways}
use Rattle.nest_base.specs.declared.places.Point.{Point}
use Rattle.nest_base.specs.Order.{is_place}
use Rattle.nest_base.specs.Lines.{lines_of}
use Rattle.nest_base.proofs.Points.{Decides-is_place}
use Rattle.code_moves.specs.declared.moves.Move.{Move}
use Rattle.code_moves.specs.Words.{Content}
use Rattle.code_moves.specs.History.{is_lit, is_moving, has_burnt, is_ended, place_after}
use Rattle.code_moves.specs.Meaning.{one_if, closing_move, closing_by_m5, made, closing_by_end, moves_at, moves_from, moves_of, content_or_empty}
use Rattle.ngc_meaning.specs.CodeMoves.{IsSpot, Follows, EachFollows, before_the_code}

-- m was the last move of a torch that stands at p, and where its run of lit lines made a move, m was one
record Stands (m : Move) (p : Point) (burnt : Bool) : Type 0 where
  at : m.to ≡ p
  lit : IsTrue burnt → IsTrue m.lit
  way : IsTrue burnt → IsSpot m → ⊥

-- the move that a line makes from p to q
abbrev line_move : Point → Point → Bool → Bool → ℕ → Move
line_move p q lit was_burnt n = record { from = p; to = q; lit = lit; fresh = lit && not was_burnt; line = n }

closing_follows : (m : Move) (p : Point) (n : ℕ) → m.to ≡ p → m.line ≤ n → Follows m (closing_move p n)
closing_follows m p n at later = record {
  joined = sym at;
  line = later;
  one_a_line = λ _. inr refl;
  burns_on = λ _ stale. absurd (stale refl);
  from_a_way = λ _ stale _. stale refl;
}

line_move_follows : (m : Move) (p q : Point) (lit was_burnt : Bool) (n : ℕ) → Stands m p (lit && was_burnt) → m.line ≤ n → (m.line ≡ n → IsSpot m) → Follows m (line_move p q lit was_burnt n)
line_move_follows m p q lit was_burnt n h later spot = record {
  joined = sym h.at;
  line = later;
  one_a_line = λ same. inl (spot same);
  burns_on = λ burns stale. h.lit (goes_on lit was_burnt burns stale);
  from_a_way = λ burns stale. h.way (goes_on lit was_burnt burns stale);
}
  where
    goes_on : (lit was_burnt : Bool) → IsTrue lit → (IsTrue (lit && not was_burnt) → ⊥) → IsTrue (lit && was_burnt)
    goes_on true true burns stale = refl
    goes_on true false burns stale = absurd (stale refl)
    goes_on false was_burnt burns stale = burns

-- these moves can follow whatever the last move of such a torch was, if it was made up to line n
abbrev CanFollow : List Move → Point → Bool → ℕ → Type 0
CanFollow moves p burnt n = (m : Move) → Stands m p burnt → m.line ≤ n → EachFollows m moves

-- the same where in line n itself it stood on the spot
abbrev CanFollowSpot : List Move → Point → Bool → ℕ → Type 0
CanFollowSpot moves p burnt n = (m : Move) → Stands m p burnt → m.line ≤ n → (m.line ≡ n → IsSpot m) → EachFollows m moves

-- what can follow a line still can where the line ends a run without a move by ending the program
closing_last : (ends burnt : Bool) (q : Point) (n : ℕ) (rest : List Move) → (ends ≡ true → burnt ≡ false) → CanFollow rest q burnt n →
    CanFollow (one_if ends (closing_move q n) ++ rest) q burnt n
closing_last false burnt q n rest unburnt k m h later = k m h later
closing_last true burnt q n rest unburnt k m h later =
    (closing_follows m q n h.at later, k (closing_move q n) (record { at = refl; lit = λ _. refl; way = λ burns. absurd (both_ways burnt (unburnt refl) burns) }) (omega arith))

-- what can follow at q can follow at p behind the way there
moved : (moving lit was_burnt : Bool) (p q : Point) (n : ℕ) (rest : List Move) → (moving ≡ true → p ≡ q → ⊥) → (moving ≡ false → q ≡ p) →
    CanFollow rest q (lit && (moving || was_burnt)) n → CanFollowSpot (one_if moving (line_move p q lit was_burnt n) ++ rest) p (lit && was_burnt) n
moved true lit was_burnt p q n rest away stays k m h later spot =
    let stands : Stands (line_move p q lit was_burnt n) q (lit && true) = record { at = refl; lit = λ burns. (and_parts lit true burns).0; way = λ _. away refl } in
    (line_move_follows m p q lit was_burnt n h later spot, k (line_move p q lit was_burnt n) stands (omega arith))
moved false lit was_burnt p q n rest away stays k m h later spot = k m (record { at = h.at ∙ sym (stays refl); lit = h.lit; way = h.way }) later

-- and what can follow in a line still can where the line first ends a run without a move by M5
closing_first : (ends lit was_burnt : Bool) (p : Point) (n : ℕ) (rest : List Move) → (ends ≡ true → lit ≡ false) → CanFollowSpot rest p (lit && was_burnt) (n + 1) →
    CanFollow (one_if ends (closing_move p (n + 1)) ++ rest) p was_burnt n
closing_first true lit was_burnt p n rest out k m h later =
    let stands : Stands (closing_move p (n + 1)) p (lit && was_burnt) = record { at = refl; lit = λ _. refl; way = λ burns. absurd (both_ways lit (out refl) (and_parts lit was_burnt burns).0) } in
    (closing_follows m p (n + 1) h.at (omega (arith, later)), k (closing_move p (n + 1)) stands (omega arith) (λ _. refl))
closing_first false lit was_burnt p n rest out k m h later =
    k m (record { at = h.at; lit = λ burns. h.lit (and_parts lit was_burnt burns).1; way = λ burns. h.way (and_parts lit was_burnt burns).1 }) (omega (arith, later)) (λ same. absurd (omega (arith, later, same)))

-- all moves of one line
line_follows : (l : Content) (earlier : List Content) (rest : List Move) → CanFollow rest (place_after (l ∷ earlier)) (has_burnt (l ∷ earlier)) (length earlier + 1) →
    CanFollow (moves_at l earlier ++ rest) (place_after earlier) (has_burnt earlier) (length earlier)
line_follows l earlier rest k m h later =
    let p = place_after earlier in
    let q = place_after (l ∷ earlier) in
    let n = length earlier in
    let lit = is_lit (l ∷ earlier) in
    let last = closing_by_end l earlier ++ rest in
    let ends = closing_last (is_ended (l ∷ earlier) && lit && not (has_burnt (l ∷ earlier))) (has_burnt (l ∷ earlier)) q (n + 1) rest
    (λ e. not-true _ (and_parts (is_ended (l ∷ earlier) && lit) (not (has_burnt (l ∷ earlier))) e).1) k in
    let moves = moved (is_moving (l ∷ earlier)) lit (has_burnt earlier) p q (n + 1) last (away p q) (stays p q) ends in
    let puts_out = is_lit earlier && not lit && not (has_burnt earlier) in
    let out = λ (e : puts_out ≡ true). not-true lit (and_parts (is_lit earlier) (not lit) (and_parts (is_lit earlier && not lit) (not (has_burnt earlier)) e).0).1 in
    one_by_one (EachFollows m) (closing_by_m5 l earlier) (made l earlier) (closing_by_end l earlier) rest
    (closing_first puts_out lit (has_burnt earlier) p n (made l earlier ++ last) out moves m h later)
  where
    away : (p q : Point) → not (is_place q p) ≡ true → p ≡ q → ⊥
    away p q moves e = both_ways (is_place q p) (not-true (is_place q p) moves) ((Decides-is_place q p).1 (sym e))

    stays : (p q : Point) → not (is_place q p) ≡ false → q ≡ p
    stays p q e = (Decides-is_place q p).0 (not-false (is_place q p) e)

    one_by_one : (P : List Move → Type 0) (a b c d : List Move) → P (a ++ (b ++ (c ++ d))) → P (a ++ b ++ c ++ d)
    one_by_one P a b c d h = simp append_assoc h

-- nothing follows the end of the program
unless_ended : (ended : Bool) (m : Move) (moves : List Move) → EachFollows m moves → EachFollows m (cond ended [] moves)
unless_ended true m moves h = tt
unless_ended false m moves h = h

follows_from : (earlier lines : List Content) → CanFollow (moves_from earlier lines) (place_after earlier) (has_burnt earlier) (length earlier)
follows_from earlier [] m h later = tt
follows_from earlier (l ∷ lines) m h later =
    let rest = moves_from (l ∷ earlier) lines in
    line_follows l earlier (cond (is_ended (l ∷ earlier)) [] rest)
    (λ x stands behind. unless_ended (is_ended (l ∷ earlier)) x rest (follows_from (l ∷ earlier) lines x stands (omega (arith, behind)))) m h later

pub in_order : (bytes : List ℕ) → EachFollows before_the_code (moves_of bytes)
unfolding moves_of
in_order bytes = follows_from [] (map content_or_empty (lines_of bytes)) before_the_code (record { at = refl; lit = λ burns. burns; way = λ burns. absurd (cc burns) }) (omega arith)
