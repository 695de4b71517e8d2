-- Chains along edges that can be cut, as chains that can be written.
use Rattle.std.proofs.Common.{arith, ℤ, ℕ, ◌≤◌, ⊎_elim, List, [], ◌∷◌, get_or, map, None, Some, sym, subst}
use Rattle.std.specs.Prelude.{All, Option, IfSome}
use Rattle.std.specs.List.{AllByRecursion}
use Rattle.std.proofs.lemmas.Int.{ints}
use Rattle.std.proofs.lemmas.List.Elements.{All-contains, All-from_recursion, All-weaker, recursion_from_All}
use Rattle.nest_base.specs.declared.places.Point.{Point}
use Rattle.nest_base.specs.declared.places.Edge.{Edge}
use Rattle.nest_base.specs.Order.{IsBefore}
use Rattle.nest_base.specs.Plane.{HalfEdge}
use Rattle.nest_base.specs.Range.{IsNear, IsWithin, IsEdgeWithin}
use Rattle.plate_sides.specs.HalfEdges.{IsHalfEdge, IsHalfEdgeOf}
use Rattle.plate_sides.proofs.HalfEdges.{ends_differ}
use Rattle.plate_sides.specs.Cover.{IsTrail}
use Rattle.plate_sides.specs.Paths.{path_of, path_from, paths_of}
use Rattle.code_moves.specs.BurntChains.{CanBeWritten}
use Rattle.code_moves.specs.Meaning.{code_range}
use Rattle.code_moves.proofs.BurntLegs.{IsMoving}
use Rattle.sound_code.specs.Plans.{CanBeCut, ChainsCanBeWritten}
use Rattle.sound_code.proofs.Trails.{trail_sides}

-- edges within a smaller range, as a drawing has them, can be cut
pub cut_within : (n : ℕ) (edges : List Edge) → n ≤ code_range → All (λ (e : Edge). IsBefore e.low e.high) edges → All (IsEdgeWithin n) edges → CanBeCut edges
cut_within n edges small ends_in_order within = record { ends_in_order = ends_in_order; within = λ k d l. wider (get_or edges k d) (within k d l) }
  where
    near : (z : ℤ) → IsNear n z → IsNear code_range z
    near z h = (omega (arith, ints, small, h.0), omega (arith, ints, small, h.1))

    place : (p : Point) → IsWithin n p → IsWithin code_range p
    place p h = record { x = near p.x h.x; y = near p.y h.y }

    wider : (e : Edge) → IsEdgeWithin n e → IsEdgeWithin code_range e
    wider e h = record { low = place e.low h.low; high = place e.high h.high }

-- both ends of a half-edge lie so near to the origin
abbrev IsLegWithin : ℕ → HalfEdge → Type 0
IsLegWithin n h = IsWithin n h.from × IsWithin n h.to

leg_of_edge_is_within : (n : ℕ) (e : Edge) (h : HalfEdge) → IsEdgeWithin n e → IsHalfEdgeOf e h → IsLegWithin n h
leg_of_edge_is_within n e h within of_e = ⊎_elim
    (λ forth. subst (IsLegWithin n) (sym forth) (within.low, within.high))
    (λ back. subst (IsLegWithin n) (sym back) (within.high, within.low)) of_e

pub leg_is_within : (n : ℕ) (edges : List Edge) → All (IsEdgeWithin n) edges → (h : HalfEdge) → IsHalfEdge edges h → IsLegWithin n h
leg_is_within n edges within h (e, stands, of_e) = leg_of_edge_is_within n e h (All-contains (IsEdgeWithin n) edges e within stands) of_e

-- the ends of a half-edge differ
pub leg_is_moving : (edges : List Edge) → CanBeCut edges → (h : HalfEdge) → IsHalfEdge edges h → IsMoving h
leg_is_moving edges cut h (e, stands, of_e) still =
    ends_differ e h (All-contains (λ (f : Edge). IsBefore f.low f.high) edges e cut.ends_in_order stands) of_e (sym still)

-- what follows for each leg
pub each_leg : (P Q : HalfEdge → Type 0) → ((h : HalfEdge) → P h → Q h) → (hs : List HalfEdge) → AllByRecursion P hs → AllByRecursion Q hs
each_leg P Q f hs h = recursion_from_All Q hs (All-weaker P Q f hs (All-from_recursion P hs h))

-- where each leg lies within the range, so does each place to which one leads
ends_within : (hs : List HalfEdge) → AllByRecursion (IsLegWithin code_range) hs → AllByRecursion (IsWithin code_range) (map (λ (h : HalfEdge). h.to) hs)
ends_within [] are = tt
ends_within (h ∷ hs) are = (are.0.1, ends_within hs are.1)

path_within : (trail : List HalfEdge) → AllByRecursion (IsLegWithin code_range) trail → AllByRecursion (IsWithin code_range) (path_of trail)
path_within [] are = tt
path_within (s ∷ rest) are = (are.0.0, ends_within (s ∷ rest) are)

-- a lead-in, if there is one, starts within the range
abbrev pub StartsWithin : Option Point → Type 0
StartsWithin lead = IfSome lead (IsWithin code_range)

chain_within : (lead : Option Point) (trail : List HalfEdge) → StartsWithin lead → AllByRecursion (IsWithin code_range) (path_of trail) →
    AllByRecursion (IsWithin code_range) (path_from lead trail)
chain_within None trail start path = path
chain_within (Some q) trail start path = (start, path)

trail_is_chain : (edges : List Edge) (lead : Option Point) (trail : List HalfEdge) → CanBeCut edges → IsTrail edges trail → StartsWithin lead → CanBeWritten (path_from lead trail)
trail_is_chain edges lead trail cut is start =
    let near = each_leg (IsHalfEdge edges) (IsLegWithin code_range) (leg_is_within code_range edges cut.within) trail (trail_sides edges trail is) in
    All-from_recursion (IsWithin code_range) (path_from lead trail) (chain_within lead trail start (path_within trail near))

trails_are_chains : (edges : List Edge) (trails : List (List HalfEdge)) (leads : List (Option Point)) → CanBeCut edges → AllByRecursion (IsTrail edges) trails →
    AllByRecursion StartsWithin leads → AllByRecursion CanBeWritten (paths_of leads trails)
trails_are_chains edges trails [] cut are starts = tt
trails_are_chains edges [] (lead ∷ leads) cut are starts = tt
trails_are_chains edges (trail ∷ trails) (lead ∷ leads) cut are starts =
    (trail_is_chain edges lead trail cut are.0 starts.0, trails_are_chains edges trails leads cut are.1 starts.1)

-- trails of edges that can be cut can be written, behind lead-ins that start within the range
pub chains_can_be_written : ChainsCanBeWritten
chains_can_be_written edges trails leads cut are starts =
    All-from_recursion CanBeWritten (paths_of leads trails)
    (trails_are_chains edges trails leads cut (recursion_from_All (IsTrail edges) trails are) (recursion_from_All StartsWithin leads starts))
