-- What a scan round a vertex asks of each half-edge.
use Rattle.std.specs.Prelude.{ℕ, ◌==◌, List, [], ◌∷◌, Bool, true, false, cond, Option, None, Some}
use Rattle.nest_base.specs.declared.numbers.Side.{Side}
use Rattle.rotation_systems.specs.Twins.{twin_number}
use Rattle.rotation_systems.specs.RotationSystem.{RotationSystem, mirrored}
use Rattle.half_edges.specs.Graph.{Graph}
use Rattle.component_route.specs.declared.scan.Turn.{Turn}
use Rattle.component_route.specs.declared.scan.Turn.TheVariants.{Ccw, Cw}

-- whether the edge of s is among these
abbrev pub has_edge : List ℕ → ℕ → Bool
has_edge [] s = false
has_edge (a ∷ l) s = cond (a == s) true (cond (twin_number a == s) true (has_edge l s))

-- which edges of a graph are burnt
abbrev pub burnt_in : Graph → ℕ → Bool
burnt_in x s = has_edge x.burnt s

-- the half-edge to be avoided, of so many; where there is none, a number that is none of theirs
abbrev pub avoided_of : ℕ → Option Side → ℕ
avoided_of sides None = sides
avoided_of sides (Some a) = a.0

-- its twin, which was moved last
abbrev pub moved_last : RotationSystem → Option Side → ℕ
moved_last g avoid = twin_number (avoided_of g.sides avoid)

-- the rotation system as it's seen when one goes round a vertex this way: the next half-edge is the next one counterclockwise
abbrev pub seen : Turn → RotationSystem → RotationSystem
seen Ccw g = g
seen Cw g = mirrored g
