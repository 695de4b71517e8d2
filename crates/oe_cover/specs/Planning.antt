-- What stands while components are covered one after another. `o` is the graph as it was before, and x as it is.
use Rattle.std.specs.Prelude.{◌≡◌, ◌<◌, ◌↔◌, ◌⊎◌, ℕ, Bool, List, [], ◌++◌, All, Contains, length}
use Rattle.nest_base.specs.Plane.{HalfEdge}
use Rattle.plate_plans.specs.Plans.{AreComponentCovers, all_trails}
use Rattle.half_edges.specs.Graph.{Graph, rotations_of, component_of, origin_of}
use Rattle.half_edges.specs.Burns.{IsBurnt, with_burnt}
use Rattle.half_edges.specs.PlaneGraphs.{IsPlaneGraph}
use Rattle.nest_base.specs.NumberLists.{side_numbers}
use Rattle.cover_walks.specs.Orders.{Has, Once}
use Rattle.cover_walks.specs.Covers.{IsCoverOrder}
use Rattle.oe_cover.specs.declared.planner.Planner.{Planner}
use Rattle.oe_cover.specs.Trails.{trails_by}
use Rattle.oe_cover.specs.Cuts.{chains_by}
use Rattle.oe_cover.specs.Ends.{EndAtFirstStarts}
use Rattle.oe_cover.specs.Pieces.{AreEnds}
use Rattle.oe_cover.specs.Drafts.{IsDraft, chains_in}

-- the half-edges of the plan so far, in burning order
abbrev pub planned : Planner → List ℕ
planned p = side_numbers p.draft.sides.items

-- each of its chains ends where the next one begins, and the last one with the plan
abbrev pub HasEnds : Planner → Type 0
HasEnds p = AreEnds 0 p.draft.ends.items (length p.draft.sides.items)

-- the edges of the plan have been burnt since, each once, and no others; and the next component can be covered
pub record IsPlanning (o x : Graph) (p : Planner) : Type 0 where
  pub plane : IsPlaneGraph o
  pub graph : x ≡ with_burnt o x.burnt
  pub burnt : (s : ℕ) → IsBurnt x s ↔ (IsBurnt o s ⊎ Has (rotations_of o) (planned p) s)
  pub within : All (λ s. s < (rotations_of o).sides) (planned p)
  pub once : Once (rotations_of o) (planned p)
  pub draft : IsDraft (length o.edges) p.draft
  pub route : p.route ≡ record { done = []; stack = []; room = length o.edges }

-- nothing is planned yet
pub record NothingPlanned (p : Planner) : Type 0 where
  pub sides : planned p ≡ []
  pub chains : chains_in p.draft ≡ []

-- the component of start is covered: its order is appended, and its chains, by each rule by which the test answers
pub record HasAppended (o : Graph) (start : ℕ) (answers_by : (ℕ → ℕ → Bool) → Type 0) (before after : Planner) : Type 0 where
  pub order : List ℕ
  pub covers : IsCoverOrder (rotations_of o) (component_of o) start order
  pub sides : planned after ≡ planned before ++ order
  pub chains : (rule : ℕ → ℕ → Bool) → answers_by rule → chains_in after.draft ≡ chains_in before.draft ++ chains_by rule (rotations_of o) order

-- the components with these numbers are planned, and no others: the plan is their covers, one behind the other
pub record HasPlanned (o : Graph) (components : List ℕ) (p : Planner) : Type 0 where
  pub component_covers : List (List (List HalfEdge))
  pub are_component_covers : AreComponentCovers o.edges o.marks components component_covers
  pub trails : trails_by o.edges (chains_in p.draft) ≡ all_trails component_covers
  pub ends : EndAtFirstStarts o.edges o.marks components component_covers
  pub inside : (s : ℕ) → Has (rotations_of o) (planned p) s → Contains components (component_of o (origin_of o s))
  pub whole : (s : ℕ) → s < (rotations_of o).sides → Contains components (component_of o (origin_of o s)) → Has (rotations_of o) (planned p) s
