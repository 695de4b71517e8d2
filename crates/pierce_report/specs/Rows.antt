-- The report by numbers: rows, and the chains of a plan.
use Rattle.std.specs.Prelude.{ℕ, Bool, true, false, List, [], ◌∷◌, ◌++◌, map, slice_index, codes, decimal}
use Rattle.nest_base.specs.declared.places.Point.{Point}
use Rattle.nest_base.specs.declared.places.Edge.{Edge}
use Rattle.nest_base.specs.Selection.{HasCount}
use Rattle.plate_sides.specs.HalfEdges.{forth}
use Rattle.plate_sides.specs.Components.{IsIn}
use Rattle.half_edges.specs.Graph.{Graph, component_of, origin_of}
use Rattle.pierce_report.specs.declared.rows.Numbers.{Numbers}
use Rattle.pierce_report.specs.Report.{Row}

-- the row with these numbers
abbrev pub row_of : Numbers → Row
row_of n = record { edges = n.edges; odd = n.odd; bound = n.bound; limit = n.limit; pierces = n.pierces }

abbrev pub rows_of : List Numbers → List Row
rows_of numbers = map row_of numbers

-- the component with this mark vertex has n edges
abbrev pub HasEdgeCount : List Edge → Point → ℕ → Type 0
HasEdgeCount edges mark n = HasCount (λ (e : Edge). IsIn edges mark (forth e)) edges n

-- the component of the vertex at which a chain begins
abbrev pub chain_component : Graph → List ℕ → ℕ
chain_component graph chain = component_of graph (origin_of graph (slice_index chain 0))

-- the line of these totals
abbrev pub totals_text : ℕ → ℕ → List ℕ
totals_text pierces bound = codes "total pierces " ++ decimal pierces ++ codes " bound " ++ decimal bound ++ 10 ∷ []

-- the last line
abbrev pub verdict_text : Bool → List ℕ
verdict_text true = codes "fewest\n"
verdict_text false = codes "not shown fewest\n"
