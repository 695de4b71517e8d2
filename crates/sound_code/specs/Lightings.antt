-- Lightings: what is burnt between one piercing of the plate and the next.
use Rattle.std.specs.Prelude.{ℕ, if◌then◌else◌, List, [], ◌∷◌, map, Option, Some, None}
use Rattle.std.specs.List.{AllZip}
use Rattle.nest_base.specs.declared.places.Point.{Point}
use Rattle.nest_base.specs.declared.places.Edge.{Edge}
use Rattle.nest_base.specs.Plane.{HalfEdge}
use Rattle.plate_sides.specs.Cover.{IsTrail, HasTrailsIn}
use Rattle.plate_parts.specs.LeadIns.{AreFirstLeadIns}
use Rattle.code_moves.specs.declared.moves.Move.{Move}
use Rattle.code_moves.specs.Moves.{way, lit_moves}
use Rattle.sound_code.specs.Sound.{IsLitOffEdges}

-- m before the parts: at the front of the first one, or a part of its own where that one begins with a fresh move
abbrev pub put_before : Move → List (List Move) → List (List Move)
put_before m [] = (m ∷ []) ∷ []
put_before m ([] ∷ parts) = (m ∷ []) ∷ parts
put_before m ((n ∷ part) ∷ parts) = if n.fresh then ((m ∷ []) ∷ (n ∷ part) ∷ parts) else ((m ∷ n ∷ part) ∷ parts)

-- the list, cut before each fresh move
abbrev pub cut_before_fresh : List Move → List (List Move)
cut_before_fresh [] = []
cut_before_fresh (m ∷ moves) = put_before m (cut_before_fresh moves)

-- the start of a lead-in, or none, and a trail
pub record Lighting : Type 0 where
  pub start : Option Point
  pub trail : List HalfEdge

-- where the lead-ins of lightings start
abbrev pub starts_of : List Lighting → List (Option Point)
starts_of lightings = map (λ (l : Lighting). l.start) lightings

abbrev pub lighting_trails : List Lighting → List (List HalfEdge)
lighting_trails lightings = map (λ (l : Lighting). l.trail) lightings

-- the lit moves from one piercing on, as a lighting: a trail of edges, behind a lead-in where the first move goes along no edge
pub data IsLighting (edges : List Edge) : List Move → Lighting → Type 0 where
  on_line : {moves : List Move} → IsTrail edges (map way moves) → IsLighting edges moves (record { start = None; trail = map way moves })
  led_in : {m : Move} {moves : List Move} → IsLitOffEdges edges m → IsTrail edges (map way moves) →
      IsLighting edges (m ∷ moves) (record { start = Some m.from; trail = map way moves })

-- the lightings of these moves, in order: the lit moves, cut before each fresh one
abbrev pub AreLightings : List Edge → List Move → List Lighting → Type 0
AreLightings edges moves lightings = AllZip (IsLighting edges) (cut_before_fresh (lit_moves moves)) lightings

-- n lightings have their trail in the component with this mark vertex
abbrev pub HasPierces : List Edge → List Lighting → Point → ℕ → Type 0
HasPierces edges lightings mark n = HasTrailsIn edges mark (lighting_trails lightings) n

-- the half-edge with which each trail begins
abbrev pub first_sides : List (List HalfEdge) → List HalfEdge
first_sides [] = []
first_sides ([] ∷ trails) = first_sides trails
first_sides ((s ∷ rest) ∷ trails) = s ∷ first_sides trails

-- the lead-in of each lighting is the first try that is free, with all earlier lead-ins: it pierces on the line only where no try is
abbrev pub HaveFirstLeadIns : List Edge → List Point → List Lighting → Type 0
HaveFirstLeadIns edges names lightings = AreFirstLeadIns edges names [] (first_sides (lighting_trails lightings)) (starts_of lightings)
