use Rattle.std.proofs.Common.{arith, ◌≡◌, inl, ◌∙◌}
use Rattle.std.proofs.lemmas.Bool.Decides.{nat_tests}
use Rattle.half_edges.specs.Floods.{none}
use Rattle.nest_base.proofs.NumberLists.{component_numbers-set, vertex_numbers-push}
use Rattle.half_edges.proofs.NumberLists.{component_read}
use Rattle.half_edges.proofs.components.Flood.reach.Goals as goal

pub returns-clause-reached : goal.returns-clause-reached
returns-clause-reached c =
    let items = c.args.self.now.of_vertex.items in
    let bare : c.index.result.now.0 ≡ none = grind (arith, nat_tests) in
    inl (
      component_read items c.args.v.0 c.index.result.now c.requires.within c.index.ensures ∙ bare,
      component_numbers-set items c.args.v.0 c.args.c,
      rw c.in_ok-push.ensures.items (vertex_numbers-push c.args.self.now.found.items c.args.v),
    )
