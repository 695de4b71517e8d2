-- The parents of components: the components of what they see.
use Rattle.std.proofs.Common.{◌≡◌, ℕ, ◌<◌, List, Option, map, refl, sym, ap, subst, ◌∙◌}
use Rattle.std.specs.Prelude.{Some, None, option_map, slice_get}
use Rattle.std.proofs.lemmas.List.{length-map}
use Rattle.std.proofs.lemmas.Option.{none-some, same_Some}
use Rattle.nest_base.specs.declared.places.Point.{Point}
use Rattle.half_edges.specs.Graph.{Graph, origin_of, component_of}
use Rattle.nest_base.proofs.ListReads.{one_read, read-map}
use Rattle.face_nesting.specs.Sights.{IsSight}
use Rattle.plate_sides.specs.Nesting.{IsParentOf, AreParents}
use Rattle.face_nesting.proofs.FoundCycles.{AreFound, as_many_sights, sight_of, seen_in_parent}

module _ {graph : Graph} {mark_sides cycle_of sides starts : List ℕ} {sights : List (Option ℕ)} (found : AreFound graph mark_sides cycle_of sides starts sights) where
  -- the component of a half-edge
  abbrev component : ℕ → ℕ
  component s = component_of graph (origin_of graph s)

  parent_of : (c : ℕ) (mark : Point) → slice_get graph.marks c ≡ Some mark → (it : Option ℕ) → IsSight graph.edges mark it →
      IsParentOf graph.edges graph.marks c mark (option_map component it)
  parent_of c mark at None none = record {
    none = (λ same. none, λ sees. refl);
    some = λ p is. absurd (none-some p is);
  }
  parent_of c mark at (Some u) (d, is_d, seen) =
      let there = seen_in_parent found c u mark d at is_d seen in
      record {
        none = (λ is. absurd (none-some (component u) (sym is)), λ sees. absurd (sees d seen.is_side seen.is_met));
        some = λ p is.
            let same = same_Some (component u) p is in
            (there.0, ap (slice_get graph.marks) (sym same) ∙ there.1, there.2, subst (λ n. n < c) same there.3);
      }

  pub are_parents : AreParents graph.edges graph.marks (map (option_map component) sights)
  are_parents = record {
    as_many = length-map sights (option_map component) ∙ as_many_sights found;
    each = λ c mark parent at is.
        let sight = sight_of found c mark at in
        let same = one_read (map (option_map component) sights) c (option_map component sight.0) parent (read-map (option_map component) sights c sight.0 sight.1) is in
        subst (IsParentOf graph.edges graph.marks c mark) same (parent_of c mark at sight.0 sight.2);
  }
