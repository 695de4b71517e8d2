-- Code that burns the chains of a plan.
use Rattle.std.specs.Prelude.{◌≡◌, ◌≢◌, ℕ, Bool, true, false, not, if◌then◌else◌, List, [], ◌∷◌, ◌++◌, map, filter, flat_map, None, All}
use Rattle.nest_base.specs.declared.places.Point.{Point}
use Rattle.nest_base.specs.Order.{is_place}
use Rattle.nest_base.specs.Plane.{HalfEdge}
use Rattle.nest_base.specs.Range.{IsWithin}
use Rattle.nest_base.specs.Routes.{legs}
use Rattle.code_moves.specs.declared.moves.Move.{Move}
use Rattle.code_moves.specs.Moves.{way, lit_moves}
use Rattle.code_moves.specs.Meaning.{code_range, code_refusal_of, moves_of}
use Rattle.code_moves.specs.CodeText.{code_text}

-- a chain can be written where all its places lie within the range of places in code; neighbours among them may be one place
abbrev pub CanBeWritten : List Point → Type 0
CanBeWritten places = All (IsWithin code_range) places

-- a leg leads to another place
abbrev pub leads_on : HalfEdge → Bool
leads_on h = not (is_place h.to h.from)

-- these legs, or where there is none the spot p
abbrev pub or_spot : Point → List HalfEdge → List HalfEdge
or_spot p [] = record { from = p; to = p } ∷ []
or_spot p (h ∷ rest) = h ∷ rest

-- what a chain burns: its legs that lead to another place, or the spot where it stands if there is no such leg
abbrev pub burnt_legs : List Point → List HalfEdge
burnt_legs [] = []
burnt_legs (p ∷ places) = or_spot p (filter leads_on (legs (p ∷ places)))

-- which legs of a chain begin a lighting: the first, and no other
abbrev pub begins_lighting : List HalfEdge → List Bool
begins_lighting [] = []
begins_lighting (h ∷ rest) = true ∷ map (λ _. false) rest

-- the code has no fault, its lit moves are what the chains burn, in order, and the first one of each chain is fresh, and no other
pub record BurnsChains (chains : List (List Point)) (bytes : List ℕ) : Type 0 where
  pub accepted : code_refusal_of bytes ≡ None
  pub ways : map way (lit_moves (moves_of bytes)) ≡ flat_map burnt_legs chains
  pub lightings : map (λ (m : Move). m.fresh) (lit_moves (moves_of bytes)) ≡ flat_map (λ places. begins_lighting (burnt_legs places)) chains

-- what is written for chains burns them
abbrev pub WrittenCodeBurnsItsChains : Type 0
WrittenCodeBurnsItsChains = (chains : List (List Point)) → All CanBeWritten chains → BurnsChains chains (code_text chains)

-- a chain whose legs all lead to another place burns them
abbrev pub LegsAreBurnt : Type 0
LegsAreBurnt = (p q : Point) (places : List Point) → All (λ (h : HalfEdge). h.from ≢ h.to) (legs (p ∷ q ∷ places)) → burnt_legs (p ∷ q ∷ places) ≡ legs (p ∷ q ∷ places)

-- the way from the start of a lead-in to the first vertex of a chain, where that is another place
abbrev pub lead_leg : Point → Point → List HalfEdge
lead_leg start first = if is_place first start then [] else record { from = start; to = first } ∷ []

-- behind a lead-in it burns this way before them; nothing stands for a lead-in that begins at the first vertex
abbrev pub LeadInsAreBurnt : Type 0
LeadInsAreBurnt =
    (start p q : Point) (places : List Point) → All (λ (h : HalfEdge). h.from ≢ h.to) (legs (p ∷ q ∷ places)) →
    burnt_legs (start ∷ p ∷ q ∷ places) ≡ lead_leg start p ++ legs (p ∷ q ∷ places)
