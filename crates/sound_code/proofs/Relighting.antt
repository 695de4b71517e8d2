-- In the moves of a code, a lit move directly behind an unlit one is fresh.
use Rattle.std.proofs.Common.{◌≡◌, ℕ, Bool, true, false, cond, List, [], ◌∷◌, ◌++◌, append_assoc, map, refl, sym, ap, subst}
use Rattle.std.specs.Prelude.{⊤, IsTrue, ◌&&◌, ◌||◌, not}
use Rattle.nest_base.specs.Lines.{lines_of}
use Rattle.code_moves.specs.declared.moves.Move.{Move}
use Rattle.code_moves.specs.Words.{Content}
use Rattle.code_moves.specs.History.{is_moving, has_burnt, is_lit, is_ended}
use Rattle.code_moves.specs.Meaning.{one_if, closing_by_m5, made, closing_by_end, moves_from, content_or_empty, moves_of}
use Rattle.code_moves.specs.Moves.{lit_moves}
use Rattle.sound_code.proofs.MovesAlong.{lit_of}

-- the first of these moves is fresh if it is lit
abbrev BeginsFresh : List Move → Type 0
BeginsFresh [] = ⊤
BeginsFresh (m ∷ moves) = IsTrue m.lit → IsTrue m.fresh

-- behind each unlit move they begin so
abbrev pub IsRelit : List Move → Type 0
IsRelit [] = ⊤
IsRelit (m ∷ moves) = (m.lit ≡ false → BeginsFresh moves) × IsRelit moves

one_begins : (test : Bool) (m : Move) (rest : List Move) → (IsTrue m.lit → IsTrue m.fresh) → (test ≡ false → BeginsFresh rest) → BeginsFresh (one_if test m ++ rest)
one_begins true m rest fresh more = fresh
one_begins false m rest fresh more = more refl

one_relit : (test : Bool) (m : Move) (rest : List Move) → (m.lit ≡ false → BeginsFresh rest) → IsRelit rest → IsRelit (one_if test m ++ rest)
one_relit true m rest begins relit = (begins, relit)
one_relit false m rest begins relit = relit

-- the moves of a line and those behind it, one group after the other
grouped : (a b c rest : List Move) → (a ++ b ++ c) ++ rest ≡ a ++ (b ++ (c ++ rest))
grouped a b c rest = simp append_assoc

not_burnt_unlit : (l : Content) (earlier : List Content) → is_lit (l ∷ earlier) ≡ false → has_burnt (l ∷ earlier) ≡ false
not_burnt_unlit l earlier unlit = ap (λ lit. lit && (is_moving (l ∷ earlier) || has_burnt earlier)) unlit

not_burnt_still : (lit moving burnt : Bool) → moving ≡ false → burnt ≡ false → (lit && (moving || burnt)) ≡ false
not_burnt_still true moving burnt still none = rw (still, none) refl
not_burnt_still false moving burnt still none = refl

fresh_if_lit : (lit burnt : Bool) → burnt ≡ false → lit ≡ true → (lit && not burnt) ≡ true
fresh_if_lit lit burnt none is_lit = rw (none, is_lit) refl

up_to_end : (ended : Bool) (rest : List Move) → BeginsFresh rest → BeginsFresh (cond ended [] rest)
up_to_end true rest begins = tt
up_to_end false rest begins = begins

relit_up_to_end : (ended : Bool) (rest : List Move) → IsRelit rest → IsRelit (cond ended [] rest)
relit_up_to_end true rest relit = tt
relit_up_to_end false rest relit = relit

-- where the run of lit lines up to now has burnt nothing, the next move is fresh if it is lit
begins_fresh : (earlier lines : List Content) → has_burnt earlier ≡ false → BeginsFresh (moves_from earlier lines)
begins_fresh earlier [] none = tt
begins_fresh earlier (l ∷ lines) none =
    let rest = cond (is_ended (l ∷ earlier)) [] (moves_from (l ∷ earlier) lines) in
    subst BeginsFresh (sym (grouped (closing_by_m5 l earlier) (made l earlier) (closing_by_end l earlier) rest))
    (one_begins _ _ (made l earlier ++ (closing_by_end l earlier ++ rest)) (λ _. refl) (λ _.
    one_begins (is_moving (l ∷ earlier)) _ (closing_by_end l earlier ++ rest) (fresh_if_lit (is_lit (l ∷ earlier)) (has_burnt earlier) none) (λ still.
    one_begins _ _ rest (λ _. refl) (λ _.
    up_to_end (is_ended (l ∷ earlier)) (moves_from (l ∷ earlier) lines)
    (begins_fresh (l ∷ earlier) lines (not_burnt_still (is_lit (l ∷ earlier)) (is_moving (l ∷ earlier)) (has_burnt earlier) still none))))))

lit_is_not : true ≡ false → (rest : List Move) → BeginsFresh rest
lit_is_not e rest = absurd (cc)

are_relit : (earlier lines : List Content) → IsRelit (moves_from earlier lines)
are_relit earlier [] = tt
are_relit earlier (l ∷ lines) =
    let rest = cond (is_ended (l ∷ earlier)) [] (moves_from (l ∷ earlier) lines) in
    subst IsRelit (sym (grouped (closing_by_m5 l earlier) (made l earlier) (closing_by_end l earlier) rest))
    (one_relit _ _ (made l earlier ++ (closing_by_end l earlier ++ rest)) (λ e. lit_is_not e (made l earlier ++ (closing_by_end l earlier ++ rest)))
    (one_relit (is_moving (l ∷ earlier)) _ (closing_by_end l earlier ++ rest)
    (λ unlit. one_begins _ _ rest (λ _. refl) (λ _.
    up_to_end (is_ended (l ∷ earlier)) (moves_from (l ∷ earlier) lines) (begins_fresh (l ∷ earlier) lines (not_burnt_unlit l earlier unlit))))
    (one_relit _ _ rest (λ e. lit_is_not e rest) (relit_up_to_end (is_ended (l ∷ earlier)) (moves_from (l ∷ earlier) lines) (are_relit (l ∷ earlier) lines)))))

pub moves_are_relit : (bytes : List ℕ) → IsRelit (moves_of bytes)
unfolding moves_of
moves_are_relit bytes = are_relit [] (map content_or_empty (lines_of bytes))

-- so are those behind any of them
pub relit_after : (before : List Move) (m : Move) (after : List Move) → IsRelit (before ++ m ∷ after) → IsRelit after
relit_after [] m after relit = relit.1
relit_after (n ∷ before) m after relit = relit_after before m after relit.1

same_first : (m n : Move) (moves others : List Move) → m ∷ moves ≡ n ∷ others → m ≡ n
same_first m n moves others e = cc

first_lit_is_fresh : (moves : List Move) (next : Move) (rest : List Move) → BeginsFresh moves → IsRelit moves → lit_moves moves ≡ next ∷ rest → IsTrue next.fresh
first_lit_is_fresh [] next rest begins relit are = absurd (cc)
first_lit_is_fresh (m ∷ moves) next rest begins relit are = by_lit m.lit refl are (first_lit_is_fresh moves next rest)
  where
    by_lit : (lit : Bool) → m.lit ≡ lit → lit_of lit m moves ≡ next ∷ rest →
        (BeginsFresh moves → IsRelit moves → lit_moves moves ≡ next ∷ rest → IsTrue next.fresh) → IsTrue next.fresh
    by_lit true is are more = subst (λ (n : Move). IsTrue n.fresh) (same_first m next (lit_moves moves) rest are) (begins is)
    by_lit false is are more = more (relit.0 is) relit.1 are

-- the next lit move follows at once, if it isn't fresh
pub next_follows : (moves : List Move) (next : Move) (rest : List Move) → IsRelit moves → lit_moves moves ≡ next ∷ rest → (IsTrue next.fresh → ⊥) →
    (later : List Move) × (moves ≡ next ∷ later)
next_follows [] next rest relit are not_fresh = absurd (cc)
next_follows (m ∷ moves) next rest relit are not_fresh = by_lit m.lit refl are
  where
    by_lit : (lit : Bool) → m.lit ≡ lit → lit_of lit m moves ≡ next ∷ rest → (later : List Move) × (m ∷ moves ≡ next ∷ later)
    by_lit true is are = (moves, ap (λ (n : Move). n ∷ moves) (same_first m next (lit_moves moves) rest are))
    by_lit false is are = absurd (not_fresh (first_lit_is_fresh moves next rest (relit.0 is) relit.1 are))
