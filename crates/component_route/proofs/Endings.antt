-- The beginning, and the end: where the stack is empty, what is done is a cover.
use Rattle.std.proofs.Common.{◌≡◌, ℕ, ◌<◌, [], ◌++◌, ap, sym, subst, ◌∙◌, append-nil, length}
use Rattle.half_edges.specs.Graph.{Graph, rotations_of, component_of, origin_of}
use Rattle.half_edges.specs.Burns.{IsBurnt}
use Rattle.half_edges.specs.PlaneGraphs.{IsPlaneGraph}
use Rattle.cover_walks.specs.Orders.{Encloses}
use Rattle.cover_walks.specs.Walks.{Laid, Ready, EndsAt}
use Rattle.cover_walks.specs.Chains.{IsConnected}
use Rattle.cover_walks.specs.Covers.{HasFewChains, IsEdgeOrder}
use Rattle.cover_walks.proofs.Covers.{final_all}
use Rattle.cover_walks.proofs.Growth.{encloses_of}
use Rattle.component_route.specs.Courses.{Course, order_of}
use Rattle.component_route.specs.States.{IsBurntBy, IsFresh, IsUnburnt, MainHead, component_from}

-- a component none of whose edges is burnt can be covered from each half-edge at the vertex that s leaves
pub fresh_at : (o : Graph) (s t : ℕ) → IsPlaneGraph o → IsUnburnt o s → t < (rotations_of o).sides → origin_of o t ≡ origin_of o s → IsFresh o t
fresh_at o s t plane unburnt below same = record {
  rotation = plane.rotation;
  divides = plane.divides;
  outer = below;
  unburnt = subst (λ v. (u : ℕ) → u < (rotations_of o).sides → component_of o (origin_of o u) ≡ component_of o v → IsBurnt o u → ⊥) (sym same) unburnt;
}

module _ (o : Graph) (start : ℕ) (x : Graph) (r : Course) (main : MainHead o start x r) (empty : r.stack ≡ []) where
  final_order : order_of r ≡ r.done
  final_order = ap (λ s. r.done ++ s) empty ∙ append-nil r.done

  laid : Laid (rotations_of o) (component_of o) (component_from o start) start r.done
  laid = subst (Laid (rotations_of o) (component_of o) (component_from o start) start) final_order main.ready.laid

  pub covered_burnt : IsBurntBy o x r.done
  covered_burnt = subst (IsBurntBy o x) final_order main.burnt

  pub encloses_at_end : Encloses (rotations_of o) (λ s. s ≡ start) r.done
  encloses_at_end = encloses_of (rotations_of o) (λ s. s ≡ start) main.fresh.rotation r.done laid.grows

  pub last_at_end : EndsAt (rotations_of o) (origin_of o start) r.done
  last_at_end = laid.last

  pub edges_at_end : IsConnected (rotations_of o) (component_of o) (origin_of o start) → IsEdgeOrder (rotations_of o) (component_of o) start r.done
  edges_at_end connected =
      let some = subst (λ l. 0 < length l) final_order main.some in
      record {
        some = some;
        inside = laid.inside;
        once = laid.once;
        whole = final_all (rotations_of o) main.fresh.rotation (component_of o) start r.done some
            (subst (Ready (rotations_of o) (component_of o) (component_from o start) start r.done) empty main.ready) connected;
      }

  pub few_at_end : HasFewChains (rotations_of o) (component_of o) start (order_of r) → HasFewChains (rotations_of o) (component_of o) start r.done
  few_at_end few = subst (HasFewChains (rotations_of o) (component_of o) start) final_order few
