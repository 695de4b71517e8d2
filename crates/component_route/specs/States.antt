-- What stands while a component is covered. `o` is the graph as it was before, `x` the graph as it is, and r what is laid of the
-- order. By numbers both graphs have one rotation system. The root is the vertex that `start` leaves.
use Rattle.std.specs.Prelude.{◌≡◌, ◌≢◌, ◌↔◌, ℕ, ◌+◌, ◌<◌, ◌≤◌, ◌%◌, List, [], ◌∷◌, ◌++◌, length, take, Option, None, IfSome}
use Rattle.nest_base.specs.declared.numbers.Side.{Side}
use Rattle.rotation_systems.specs.RotationSystem.{RotationSystem, IsRotationSystem, Divides, to}
use Rattle.half_edges.specs.Graph.{Graph, rotations_of, component_of, origin_of}
use Rattle.half_edges.specs.Burns.{IsBurnt, with_burnt}
use Rattle.cover_walks.specs.Orders.{Has, Once}
use Rattle.cover_walks.specs.Walks.{Walking, Exhausting, Ready, IsExhausted, IsCounted, CanFollow, TopLeaves, breaks, breaks_after, ends, odd_count}
use Rattle.component_route.specs.Scans.{moved_last}
use Rattle.component_route.specs.Courses.{Course, order_of}

-- the component of start
abbrev pub component_from : Graph → ℕ → ℕ
component_from o start = component_of o (origin_of o start)

-- no edge of the component of start is burnt
abbrev pub IsUnburnt : Graph → ℕ → Type 0
IsUnburnt o start =
    (s : ℕ) → s < (rotations_of o).sides → component_of o (origin_of o s) ≡ component_from o start → IsBurnt o s → ⊥

-- the component of start can be covered
pub record IsFresh (o : Graph) (start : ℕ) : Type 0 where
  pub rotation : IsRotationSystem (rotations_of o)
  pub divides : Divides (rotations_of o) (component_of o)
  pub outer : start < (rotations_of o).sides
  pub unburnt : IsUnburnt o start

-- the edges of the order have been burnt since, and no others
pub record IsBurntBy (o x : Graph) (order : List ℕ) : Type 0 where
  pub laid : List ℕ
  pub graph : x ≡ with_burnt o (o.burnt ++ laid)
  pub edges : (s : ℕ) → Has (rotations_of o) laid s ↔ Has (rotations_of o) order s

-- a walk from the vertex v that stands at z, on the stack `base`
pub record WalkHead (o : Graph) (start : ℕ) (avoid : Option Side) (v z : ℕ) (base : List ℕ) (x : Graph) (r : Course) : Type 0 where
  pub fresh : IsFresh o start
  pub burnt : IsBurntBy o x (order_of r)
  pub walking : Walking (rotations_of o) (component_of o) (component_from o start) start (moved_last (rotations_of o) avoid) v z r.done base r.stack
  pub avoided : IfSome avoid (λ a. Has (rotations_of o) (order_of r) a.0)
  pub room : (rotations_of o).sides ≤ r.room + r.room

-- no walk is under way
pub record MainHead (o : Graph) (start : ℕ) (x : Graph) (r : Course) : Type 0 where
  pub fresh : IsFresh o start
  pub burnt : IsBurntBy o x (order_of r)
  pub ready : Ready (rotations_of o) (component_of o) (component_from o start) start r.done r.stack
  pub some : 0 < length (order_of r)
  pub room : (rotations_of o).sides ≤ r.room + r.room

-- the half-edge f was just moved, and walks from the vertex to which it leads may begin
pub record JustMoved (o : Graph) (start f : ℕ) (x : Graph) (r : Course) : Type 0 where
  pub fresh : IsFresh o start
  pub burnt : IsBurntBy o x (order_of r)
  pub exhausting : Exhausting (rotations_of o) (component_of o) (component_from o start) start f (to (rotations_of o) f) r.done r.stack
  -- the vertex is the root, or exhausted, or the top of the stack leaves it
  pub follow : CanFollow (rotations_of o) (order_of r) (origin_of o start) (origin_of o start) (to (rotations_of o) f) r.stack
  pub before : List ℕ
  pub moved : r.done ≡ before ++ f ∷ []
  pub room : (rotations_of o).sides ≤ r.room + r.room

-- breaks and odd vertices together are at most `most`, while no walk is under way
abbrev pub CountsWithin : Graph → ℕ → ℕ → ℕ → Course → Type 0
CountsWithin o start vertices most r =
    breaks (rotations_of o) (order_of r) + odd_count (rotations_of o) (component_of o) (component_from o start) vertices (order_of r) ≤ most

-- and while v is being exhausted, as `IsCounted` says it
abbrev pub CountsWithinAt : Graph → ℕ → ℕ → ℕ → ℕ → Course → Type 0
CountsWithinAt o start vertices most v r = IsCounted (rotations_of o) (component_of o) (component_from o start) vertices most v r.done r.stack

-- every walk so far was closed; v is being exhausted, and `moved`, which leads to v, was moved last
pub record IsUnbrokenAt (g : RotationSystem) (moved v : ℕ) (r : Course) : Type 0 where
  pub ends_at : to g moved ≡ v
  pub done_breaks : breaks g r.done ≡ 0
  pub breaks : breaks_after g v r.stack ≡ 0
  pub even : (u : ℕ) → ends g (order_of r) u % 2 ≡ 0

-- and while no walk is under way
pub record IsUnbroken (g : RotationSystem) (r : Course) : Type 0 where
  pub breaks : breaks g (order_of r) ≡ 0
  pub even : (u : ℕ) → ends g (order_of r) u % 2 ≡ 0

-- the first open walk has just ended: it led from v to the vertex that `last` leaves
pub record Opened (o : Graph) (start : ℕ) (avoid : Option Side) (v : ℕ) (x : Graph) (r : Course) : Type 0 where
  pub last : ℕ
  pub base : List ℕ
  pub last_in : last < (rotations_of o).sides
  pub before : Exhausting (rotations_of o) (component_of o) (component_from o start) start (moved_last (rotations_of o) avoid) v r.done base
  pub walk : WalkHead o start avoid v (origin_of o last) base x r
  pub exhausted : IsExhausted (rotations_of o) (order_of r) (origin_of o last)
  pub unbroken : breaks_after (rotations_of o) v base ≡ 0
  pub even : (u : ℕ) → ends (rotations_of o) (r.done ++ base) u % 2 ≡ 0
  pub open_walk : v ≢ origin_of o last

-- the same, from whatever vertex
pub record HasOpened (o : Graph) (start : ℕ) (x : Graph) (r : Course) : Type 0 where
  pub avoid : Option Side
  pub vertex : ℕ
  pub opened : Opened o start avoid vertex x r

-- nothing is done, and a walk from the root may begin
pub record FromRoot (o : Graph) (start : ℕ) (x : Graph) (r : Course) : Type 0 where
  pub head : WalkHead o start None (origin_of o start) (origin_of o start) r.stack x r
  pub done : r.done ≡ []

-- a walk from the root, with nothing done, has come to an exhausted vertex
pub record RootWalk (o : Graph) (start last : ℕ) (base stack : List ℕ) : Type 0 where
  pub walking : Walking (rotations_of o) (component_of o) (component_from o start) start (moved_last (rotations_of o) None) (origin_of o start) (origin_of o last) [] base stack
  pub leaves : TopLeaves (rotations_of o) (origin_of o last) stack
  pub exhausted : IsExhausted (rotations_of o) stack (origin_of o last)

-- the edges of the stack can be burnt after the first `checkpoint` of those that are burnt
pub record CanReburn (x : Graph) (checkpoint : ℕ) (stack : List ℕ) : Type 0 where
  pub rotation : IsRotationSystem (rotations_of x)
  pub checkpoint_in : checkpoint ≤ length x.burnt
  pub within : (s : ℕ) → Has (rotations_of x) stack s → s < (rotations_of x).sides
  pub once : Once (rotations_of x) stack
  pub unburnt : (s : ℕ) → Has (rotations_of x) stack s → IsBurnt (with_burnt x (take checkpoint x.burnt)) s → ⊥
