-- Code without a fault has as many lightings as fresh moves.
use Rattle.std.proofs.Common.{arith, ◌≡◌, ℕ, ◌+◌, Bool, true, false, cond, List, [], ◌∷◌, length, refl, subst, ◌∙◌}
use Rattle.std.specs.Prelude.{IsTrue, All}
use Rattle.std.proofs.lemmas.Bool.{both_ways}
use Rattle.std.proofs.lemmas.List.Elements.{All-head, All-tail}
use Rattle.nest_base.specs.Selection.{Selects, none, taken, passed, HasCount}
use Rattle.code_moves.specs.declared.moves.Move.{Move}
use Rattle.code_moves.specs.Moves.{lit_moves}
use Rattle.ngc_meaning.specs.CodeMoves.{Follows, EachFollows, before_the_code}
use Rattle.sound_code.specs.Lightings.{put_before, cut_before_fresh}
use Rattle.sound_code.proofs.MovesAlong.{lit_of}

abbrev IsFresh : Move → Type 0
IsFresh m = IsTrue m.fresh

abbrev OnlyLit : Move → Type 0
OnlyLit m = IsFresh m → IsTrue m.lit

-- where only lit moves are fresh, the fresh moves are those of the lit ones
lit_step : (m : Move) (moves fresh : List Move) (lit : Bool) → m.lit ≡ lit → OnlyLit m → Selects IsFresh (m ∷ moves) fresh →
    ((some : List Move) → Selects IsFresh moves some → Selects IsFresh (lit_moves moves) some) → Selects IsFresh (lit_of lit m moves) fresh
lit_step m moves fresh true is only (taken {ys} p h) more = taken p (more ys h)
lit_step m moves fresh true is only (passed p h) more = passed p (more fresh h)
lit_step m moves fresh false is only (taken p h) more = absurd (both_ways m.lit is (only p))
lit_step m moves fresh false is only (passed p h) more = more fresh h

among_lit : (moves fresh : List Move) → All OnlyLit moves → Selects IsFresh moves fresh → Selects IsFresh (lit_moves moves) fresh
among_lit [] fresh are selected = selected
among_lit (m ∷ moves) fresh are selected =
    lit_step m moves fresh m.lit refl (All-head OnlyLit m moves are) selected (λ some h. among_lit moves some (All-tail OnlyLit m moves are) h)

-- the first lit move is fresh where the torch wasn't lit before
fresh_behind : (before m : Move) (fresh : Bool) → m.fresh ≡ fresh → before.lit ≡ false → Follows before m → m.lit ≡ true → IsFresh m
fresh_behind before m true is unlit follows lit = is
fresh_behind before m false is unlit follows lit = absurd (both_ways before.lit unlit (follows.burns_on lit (both_ways m.fresh is)))

first_is_fresh : (before : Move) (moves : List Move) (first : Move) (rest : List Move) → before.lit ≡ false → EachFollows before moves →
    lit_moves moves ≡ first ∷ rest → IsFresh first
first_is_fresh before [] first rest unlit each are = absurd (cc)
first_is_fresh before (m ∷ moves) first rest unlit each are = by_lit m.lit refl are (λ out. first_is_fresh m moves first rest out each.1)
  where
    by_lit : (lit : Bool) → m.lit ≡ lit → lit_of lit m moves ≡ first ∷ rest → (m.lit ≡ false → lit_moves moves ≡ first ∷ rest → IsFresh first) → IsFresh first
    by_lit true is are more =
        let same : m ≡ first = cc in
        subst IsFresh same (fresh_behind before m m.fresh refl unlit each.0 is)
    by_lit false is are more = more is are

-- a list that is cut begins with its first move
begins_with : (m : Move) (parts : List (List Move)) → (part : List Move) × (more : List (List Move)) × (put_before m parts ≡ (m ∷ part) ∷ more)
begins_with m [] = ([], [], refl)
begins_with m ([] ∷ parts) = ([], parts, refl)
begins_with m ((n ∷ part) ∷ parts) = by_fresh n.fresh
  where
    by_fresh : (fresh : Bool) → (own : List Move) × (more : List (List Move)) ×
        (cond fresh ((m ∷ []) ∷ (n ∷ part) ∷ parts) ((m ∷ n ∷ part) ∷ parts) ≡ (m ∷ own) ∷ more)
    by_fresh true = ([], (n ∷ part) ∷ parts, refl)
    by_fresh false = (n ∷ part, parts, refl)

-- one more part before a fresh move, and no more before another
cut_before : (m n : Move) (part : List Move) (more : List (List Move)) (fresh : Bool) → n.fresh ≡ fresh →
    length (put_before m ((n ∷ part) ∷ more)) ≡ cond fresh 1 0 + length ((n ∷ part) ∷ more)
cut_before m n part more true is = rw is (omega arith)
cut_before m n part more false is = rw is (omega arith)

one_cut_more : (m n : Move) (parts : List (List Move)) (fresh : Bool) → n.fresh ≡ fresh →
    length (put_before m (put_before n parts)) ≡ cond fresh 1 0 + length (put_before n parts)
one_cut_more m n parts fresh is =
    let (part, more, begins) = begins_with n parts in
    rw begins (cut_before m n part more fresh is)

not_fresh : (n : Move) (fresh : Bool) → n.fresh ≡ fresh → (IsFresh n → ⊥) → n.fresh ≡ false
not_fresh n true is stale = absurd (stale is)
not_fresh n false is stale = is

-- as many parts as fresh moves behind the first move, and one more
parts_counted : (m : Move) (moves fresh : List Move) → Selects IsFresh moves fresh → length (cut_before_fresh (m ∷ moves)) ≡ length fresh + 1
parts_counted m [] fresh none = refl
parts_counted m (n ∷ moves) fresh (taken {ys} p h) = omega (arith, one_cut_more m n (cut_before_fresh moves) true p, parts_counted n moves ys h)
parts_counted m (n ∷ moves) fresh (passed p h) =
    omega (arith, one_cut_more m n (cut_before_fresh moves) false (not_fresh n n.fresh refl p), parts_counted n moves fresh h)

all_parts_counted : (moves lit fresh : List Move) → EachFollows before_the_code moves → lit_moves moves ≡ lit → Selects IsFresh lit fresh →
    length (cut_before_fresh lit) ≡ length fresh
all_parts_counted moves [] fresh each is none = refl
all_parts_counted moves (m ∷ lit) fresh each is (taken {ys} p h) = omega (arith, parts_counted m lit ys h)
all_parts_counted moves (m ∷ lit) fresh each is (passed p h) = absurd (p (first_is_fresh before_the_code moves m lit refl each is))

-- so the lit moves are cut into as many parts as moves are fresh
pub parts_are_fresh : (moves : List Move) (pierces : ℕ) → EachFollows before_the_code moves → All (λ (m : Move). IsTrue m.fresh → IsTrue m.lit) moves →
    HasCount (λ (m : Move). IsTrue m.fresh) moves pierces → length (cut_before_fresh (lit_moves moves)) ≡ pierces
parts_are_fresh moves pierces each are (fresh, selected, count) =
    all_parts_counted moves (lit_moves moves) fresh each refl (among_lit moves fresh are selected) ∙ count
