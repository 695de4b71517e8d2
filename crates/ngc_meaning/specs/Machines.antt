-- What a machine knows behind lines of code, and what a line makes of it.
use Rattle.std.specs.Prelude.{◌≡◌, ℕ, ◌+◌, Bool, false, ◌&&◌, not, if◌then◌else◌, List, [], ◌∷◌, ◌++◌, length, ℤ, Option, Some, None, option_map, option_and_then, unwrap_or, is_some, ◌||◌}
use Rattle.nest_base.specs.declared.places.Point.{Point}
use Rattle.nest_base.specs.Order.{is_place}
use Rattle.code_moves.specs.declared.moves.Move.{Move}
use Rattle.code_moves.specs.Words.{Content, Words}
use Rattle.code_moves.specs.History.{has_begun, is_marked, has_motion, is_lit, is_absolute, axis_after, place_after, has_burnt, is_ended}
use Rattle.code_moves.specs.Meaning.{one_if, closing_move, made, closing_by_m5, closing_by_end, is_near, line_fault}
use Rattle.ngc_meaning.specs.declared.number.Coordinate.{Coordinate}
use Rattle.ngc_meaning.specs.declared.number.Coordinate.TheVariants.{At, TooFar}
use Rattle.ngc_meaning.specs.declared.block.Block.{Block}
use Rattle.ngc_meaning.specs.declared.machine.Stepped.{Stepped}

-- the fields of a machine
pub record State : Type 0 where
  pub place : Point
  pub is_lit : Bool
  pub has_motion : Bool
  pub is_absolute : Bool
  pub has_burnt : Bool
  pub has_begun : Bool
  pub is_marked : Bool
  pub lines : ℕ

-- they are what the lines so far mean, the latest first
pub record MachineAt (lines : List Content) (m : State) : Type 0 where
  pub place : m.place ≡ place_after lines
  pub lit : m.is_lit ≡ is_lit lines
  pub motion : m.has_motion ≡ has_motion lines
  pub absolute : m.is_absolute ≡ is_absolute lines
  pub burnt : m.has_burnt ≡ has_burnt lines
  pub begun : m.has_begun ≡ has_begun lines
  pub marked : m.is_marked ≡ is_marked lines
  pub taken : m.lines ≡ length lines

-- a list of one thing or none
abbrev pub listed : {X : Type 0} → Option X → List X
listed None = []
listed (Some x) = x ∷ []

-- the move between two states, on the line behind the first
abbrev pub moved : State → State → List Move
moved old new = one_if (not (is_place new.place old.place)) (record { from = old.place; to = new.place; lit = new.is_lit; fresh = new.is_lit && not old.has_burnt; line = old.lines + 1 })

-- the closing move between two states: the torch went out before it burnt, by M5 or by the end of the program
abbrev pub closed : State → State → Bool → List Move
closed old new ends =
    one_if (old.is_lit && not new.is_lit && not old.has_burnt) (closing_move old.place (old.lines + 1))
    ++ one_if (ends && new.is_lit && not new.has_burnt) (closing_move new.place (old.lines + 1))

-- where a coordinate leads from an old one, in absolute or relative places; none beyond the range of places in code
abbrev pub reached : Bool → ℤ → Option Coordinate → Option ℤ
reached absolute old None = Some old
reached absolute old (Some TooFar) = None
reached absolute old (Some (At n)) = let z = axis_after absolute old (Some n) in if is_near z then Some z else None

-- two tests agree
abbrev pub agree : Bool → Bool → Bool
agree x y = if x then y else not y

-- words that don't contradict one another are lawful behind this state: a dwell has its time, nothing else has one, and X and Y have a G0 or G1 before them
abbrev pub lawful_in : State → Block → Bool
lawful_in m b = agree b.dwell b.time && (not (is_some b.x || is_some b.y) || (m.has_motion || b.motion))

-- where the words of a block lead
abbrev pub target_of : State → Block → Option Point
target_of m b =
    let absolute = unwrap_or b.absolute m.is_absolute in
    option_and_then (λ x. option_map (λ y. record { x = x; y = y }) (reached absolute m.place.y b.y)) (reached absolute m.place.x b.x)

-- the state behind a block whose words lead to this place
abbrev pub state_behind : State → Block → Point → State
state_behind m b place =
    let lit = unwrap_or b.lit m.is_lit in
    record {
      place = place;
      is_lit = lit;
      has_motion = m.has_motion || b.motion;
      is_absolute = unwrap_or b.absolute m.is_absolute;
      has_burnt = lit && (not (is_place place m.place) || m.has_burnt);
      has_begun = m.has_begun || not b.is_empty;
      is_marked = m.is_marked;
      lines = m.lines + 1;
    }

-- a line without a fault is taken: what it makes, what it closes, and whether it ends the program
pub record IsTaken (earlier : List Content) (l : Content) (s : Stepped) : Type 0 where
  pub made : listed s.made ≡ made l earlier
  pub closing : listed s.closing ≡ closing_by_m5 l earlier ++ closing_by_end l earlier
  pub ended : s.ended ≡ is_ended (l ∷ earlier)

-- a line, behind the earlier ones, takes a machine to this state, unless it's refused
pub record IsStep (earlier : List Content) (content : Option Content) (s : Stepped) (new : State) : Type 0 where
  pub fault : s.fault ≡ line_fault content earlier
  pub taken : s.fault ≡ None → IsTaken earlier (unwrap_or content (Words [])) s
  pub next : s.fault ≡ None → MachineAt (unwrap_or content (Words []) ∷ earlier) new

-- a refused line does nothing
pub record DoesNothing (s : Stepped) : Type 0 where
  pub none_made : s.made ≡ None
  pub none_closing : s.closing ≡ None
  pub no_end : s.ended ≡ false
