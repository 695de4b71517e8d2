-- Lit moves and the edges that they go along.
use Rattle.std.proofs.Common.{◌≡◌, ℕ, Bool, true, false, cond, List, [], ◌∷◌, length, map, refl, ap, sym, ◌∙◌}
use Rattle.std.specs.Prelude.{IsTrue}
use Rattle.std.specs.List.{AllByRecursion}
use Rattle.std.proofs.lemmas.Bool.{both_ways}
use Rattle.std.proofs.lemmas.List.{length-map}
use Rattle.std.proofs.lemmas.List.Elements.{filter_passes, recursion_from_All}
use Rattle.nest_base.specs.declared.places.Edge.{Edge}
use Rattle.nest_base.specs.Plane.{HalfEdge}
use Rattle.nest_base.specs.Selection.{Selects, HasCount}
use Rattle.nest_base.specs.Selection.Selects.{none, taken, passed}
use Rattle.plate_sides.specs.HalfEdges.{IsHalfEdge, IsHalfEdgeOf}
use Rattle.code_moves.specs.declared.moves.Move.{Move}
use Rattle.code_moves.specs.Moves.{way, lit_moves}
use Rattle.sound_code.specs.Sound.{IsMoveAlong, AreBurns}

-- what is lit of the move m and the moves behind it
abbrev pub lit_of : Bool → Move → List Move → List Move
lit_of lit m moves = cond lit (m ∷ lit_moves moves) (lit_moves moves)

abbrev pub IsLit : Move → Type 0
IsLit m = IsTrue m.lit

pub lit_moves_are_lit : (moves : List Move) → AllByRecursion IsLit (lit_moves moves)
lit_moves_are_lit moves = recursion_from_All IsLit (lit_moves moves) (filter_passes (λ (m : Move). m.lit) moves)

-- what only lit moves have is selected from all moves as from the lit ones
module _ (P : Move → Type 0) (only_lit : (m : Move) → P m → IsLit m) where
  lit_step : (m : Move) (moves some : List Move) (lit : Bool) → m.lit ≡ lit → Selects P (lit_of lit m moves) some →
      ((some : List Move) → Selects P (lit_moves moves) some → Selects P moves some) → Selects P (m ∷ moves) some
  lit_step m moves some false is h more = passed (λ p. both_ways m.lit is (only_lit m p)) (more some h)
  lit_step m moves some true is (taken {ys} p h) more = taken p (more ys h)
  lit_step m moves some true is (passed not_p h) more = passed not_p (more some h)

  pub from_lit : (moves some : List Move) → Selects P (lit_moves moves) some → Selects P moves some
  from_lit [] some h = h
  from_lit (m ∷ moves) some h = lit_step m moves some m.lit refl h (from_lit moves)

-- the lit moves whose ways are selected
by_ways : (P : HalfEdge → Type 0) (lit : List Move) (ways : List HalfEdge) → AllByRecursion IsLit lit → Selects P (map way lit) ways →
    (some : List Move) × Selects (λ (m : Move). IsLit m × P (way m)) lit some × (ways ≡ map way some)
by_ways P [] [] are none = ([], none, refl)
by_ways P [] (h ∷ ways) are selected = elim selected [ ]
by_ways P (m ∷ lit) ways are (taken {ys} p h) = let rest = by_ways P lit ys are.1 h in (m ∷ rest.0, taken (are.0, p) rest.1, ap (λ k. way m ∷ k) rest.2)
by_ways P (m ∷ lit) ways are (passed not_p h) = let rest = by_ways P lit ways are.1 h in (rest.0, passed (λ p. not_p p.1) rest.1, rest.2)

-- the moves whose ways are selected from those of the lit moves
selected : (P : HalfEdge → Type 0) (moves : List Move) (ways : List HalfEdge) → Selects P (map way (lit_moves moves)) ways →
    (some : List Move) × Selects (λ (m : Move). IsLit m × P (way m)) moves some × (ways ≡ map way some)
selected P moves ways h =
    let found = by_ways P (lit_moves moves) ways (lit_moves_are_lit moves) h in
    (found.0, from_lit (λ (m : Move). IsLit m × P (way m)) (λ m both. both.0) moves found.0 found.1, found.2)

-- the half-edges among the ways of the lit moves are what the edge moves burn
pub burns_are : (edges : List Edge) (moves : List Move) (burns : List HalfEdge) → Selects (IsHalfEdge edges) (map way (lit_moves moves)) burns → AreBurns edges moves burns
burns_are edges moves burns h = selected (IsHalfEdge edges) moves burns h

-- as many moves go along e as half-edges of e are among these ways
pub count_along : (e : Edge) (moves : List Move) (n : ℕ) → HasCount (IsHalfEdgeOf e) (map way (lit_moves moves)) n → HasCount (IsMoveAlong e) moves n
count_along e moves n (burns, h, are) =
    let found = selected (IsHalfEdgeOf e) moves burns h in (found.0, found.1, sym (length-map found.0 way) ∙ sym (ap length found.2) ∙ are)

-- what is selected among selected things is selected among all, where it is part of what they have
pub selects_through : {X : Type 0} (P Q : X → Type 0) → ((x : X) → P x → Q x) → {xs ys zs : List X} → Selects Q xs ys → Selects P ys zs → Selects P xs zs
selects_through P Q part none none = none
selects_through P Q part (taken q h) (taken p k) = taken p (selects_through P Q part h k)
selects_through P Q part (taken q h) (passed not_p k) = passed not_p (selects_through P Q part h k)
selects_through P Q part (passed {x} not_q h) k = passed (λ p. not_q (part x p)) (selects_through P Q part h k)
