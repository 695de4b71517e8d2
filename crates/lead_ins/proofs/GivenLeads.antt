-- The lead-ins of one chain more.
use Rattle.std.proofs.Common.{arith, ◌≡◌, ◌<◌, ◌+◌, ℕ, zero, suc, List, [], ◌∷◌, ◌++◌, length, map, take, refl, ap, ◌∙◌}
use Rattle.std.specs.Prelude.{All, IfSome, Option, Some, None, slice_get}
use Rattle.std.proofs.lemmas.List.Elements.{All-push, All-weaker}
use Rattle.std.proofs.lemmas.Option.{none-some, same_Some}
use Rattle.nest_base.specs.declared.numbers.Side.{Side}
use Rattle.nest_base.specs.declared.places.Point.{Point}
use Rattle.nest_base.specs.declared.places.Edge.{Edge}
use Rattle.nest_base.specs.NumberLists.{side_numbers}
use Rattle.nest_base.proofs.ListReads.{All-read, read-map}
use Rattle.nest_base.specs.Plane.{HalfEdge}
use Rattle.nest_base.specs.Range.{IsWithin, IsEdgeWithin, range, widest}
use Rattle.plate_parts.specs.declared.leads.Lead.{Lead}
use Rattle.plate_parts.specs.LeadIns.{IsFirstLeadIn, AreFirstLeadIns, none, next, with_lead}
use Rattle.half_edges.specs.Numbers.{half_edges_of}
use Rattle.half_edges.specs.Graph.{Graph}
use Rattle.cover_plan.specs.Trails.{half_edge_of}
use Rattle.oe_cover.specs.Trails.{trails_by}
use Rattle.lead_ins.specs.Corners.{IsLeadWithin}
use Rattle.sound_code.specs.Lightings.{first_sides}
use Rattle.lead_ins.specs.Tries.{lead_range, lead_reach}
use Rattle.lead_ins.proofs.EdgeReads.{beginning_within}
use Rattle.code_moves.specs.Meaning.{code_range}
use Rattle.lead_ins.proofs.FirstFits.{some_weaker}
use Rattle.lead_ins.proofs.Tried.{wider}

-- the lead-ins that chains have beside those before them
abbrev pub given : List Lead → List HalfEdge → List (Option Point) → List Lead
given earlier [] leads = earlier
given earlier (s ∷ firsts) [] = earlier
given earlier (s ∷ firsts) (lead ∷ leads) = given (with_lead s lead earlier) firsts leads

pub given_more : (earlier : List Lead) (firsts : List HalfEdge) (leads : List (Option Point)) (s : HalfEdge) (lead : Option Point) → length leads ≡ length firsts →
    given earlier (firsts ++ s ∷ []) (leads ++ lead ∷ []) ≡ with_lead s lead (given earlier firsts leads)
given_more earlier [] [] s lead long = refl
given_more earlier [] (l ∷ leads) s lead long = absurd (omega arith)
given_more earlier (t ∷ firsts) [] s lead long = absurd (omega arith)
given_more earlier (t ∷ firsts) (l ∷ leads) s lead long = given_more (with_lead t l earlier) firsts leads s lead (omega arith)

pub first_leads_more : (edges : List Edge) (places : List Point) (earlier : List Lead) (firsts : List HalfEdge) (leads : List (Option Point)) (s : HalfEdge) (lead : Option Point) →
    AreFirstLeadIns edges places earlier firsts leads → IsFirstLeadIn edges places (given earlier firsts leads) s lead →
    AreFirstLeadIns edges places earlier (firsts ++ s ∷ []) (leads ++ lead ∷ [])
first_leads_more edges places earlier firsts leads s lead none is = next is none
first_leads_more edges places earlier (t ∷ firsts) (l ∷ leads) s lead (next first others) is =
    next first (first_leads_more edges places (with_lead t l earlier) firsts leads s lead others is)

module _ (graph : Graph) where
  -- the first half-edges of the first n chains
  abbrev pub firsts_so_far : List (List ℕ) → ℕ → List HalfEdge
  firsts_so_far plan n = first_sides (trails_by graph.edges (take n plan))

  one_first : (chain : List Side) (first : Side) → slice_get chain 0 ≡ Some first → first_sides (map (half_edge_of graph) (side_numbers chain) ∷ []) ≡ half_edge_of graph first.0 ∷ []
  one_first [] first at = absurd (none-some first at)
  one_first (s ∷ chain) first at = ap (λ (t : Side). half_edge_of graph t.0 ∷ []) (same_Some s first at)

  behind : (trail : List HalfEdge) (trails more : List (List HalfEdge)) (s : HalfEdge) → first_sides more ≡ first_sides trails ++ s ∷ [] → first_sides (trail ∷ more) ≡ first_sides (trail ∷ trails) ++ s ∷ []
  behind [] trails more s same = same
  behind (t ∷ trail) trails more s same = ap (λ l. t ∷ l) same

  first_more : (plan : List (List ℕ)) (i : ℕ) (chain : List Side) (first : Side) → slice_get plan i ≡ Some (side_numbers chain) → slice_get chain 0 ≡ Some first →
      firsts_so_far plan (suc i) ≡ firsts_so_far plan i ++ half_edge_of graph first.0 ∷ []
  first_more [] i chain first at begins = absurd (none-some (side_numbers chain) at)
  first_more (one ∷ plan) zero chain first at begins =
      ap (λ c. first_sides (map (half_edge_of graph) c ∷ [])) (same_Some one (side_numbers chain) at) ∙ one_first chain first begins
  first_more (one ∷ plan) (suc i) chain first at begins =
      behind (map (half_edge_of graph) one) (trails_by graph.edges (take i plan)) (trails_by graph.edges (take (suc i) plan)) (half_edge_of graph first.0) (first_more plan i chain first at begins)

  pub next_first : (plan : List (List ℕ)) (i : ℕ) (chain : List Side) (first : Side) → slice_get plan i ≡ Some (side_numbers chain) → slice_get chain 0 ≡ Some first →
      firsts_so_far plan (i + 1) ≡ firsts_so_far plan i ++ half_edge_of graph first.0 ∷ []
  next_first plan i chain first at begins =
      let same : i + 1 ≡ suc i = omega arith in
      ap (firsts_so_far plan) same ∙ first_more plan i chain first at begins

  -- a lead-in to a vertex lies within the range of exact predicates
  pub kept_within : (s : ℕ) (lead : Option Point) (earlier : List Lead) → All (IsEdgeWithin lead_range) graph.edges → s < length (half_edges_of graph.edges) →
      IfSome lead (IsWithin (lead_range + lead_reach)) → All (IsLeadWithin widest) earlier → All (IsLeadWithin widest) (with_lead (half_edge_of graph s) lead earlier)
  kept_within s None earlier near below in_reach before = before
  kept_within s (Some q) earlier near below in_reach before = All-push (IsLeadWithin widest) earlier (record { from = q; to = (half_edge_of graph s).from }) before (record {
    from = wider (lead_range + lead_reach) widest q (omega arith) in_reach;
    to = wider lead_range widest (half_edge_of graph s).from (omega arith) (beginning_within lead_range graph s near below);
  })

-- a chain begins with a half-edge of the graph
pub chain_begins_within : (n : ℕ) (plan : List (List ℕ)) (i : ℕ) (chain : List Side) (first : Side) → All (λ sides. All (λ s. s < n) sides) plan →
    slice_get plan i ≡ Some (side_numbers chain) → slice_get chain 0 ≡ Some first → first.0 < n
chain_begins_within n plan i chain first within at begins =
    All-read (λ m. m < n) (side_numbers chain) 0 first.0 (All-read (λ sides. All (λ s. s < n) sides) plan i (side_numbers chain) within at) (read-map (λ (s : Side). s.0) chain 0 first begins)

-- what lies near edges of a drawing lies within the range of code
pub within_code : (leads : List (Option Point)) → All (λ lead. IfSome lead (IsWithin (range + lead_reach))) leads → All (λ lead. IfSome lead (IsWithin code_range)) leads
within_code leads near =
    All-weaker (λ lead. IfSome lead (IsWithin (range + lead_reach))) (λ lead. IfSome lead (IsWithin code_range))
    (λ lead. some_weaker (IsWithin (range + lead_reach)) (IsWithin code_range) lead (λ q. wider (range + lead_reach) code_range q (omega arith))) leads near
