use Rattle.std.proofs.Common.{arith, ◌*◌, ◌<◌, false, length, length-set, map, ap, ◌∙◌}
use Rattle.std.proofs.lemmas.List.{map_push}
use Rattle.std.proofs.lemmas.List.Elements.{All-contains, Contains-push}
use Rattle.nest_base.specs.declared.numbers.Side.{Side}
use Rattle.half_edges.proofs.BurntEdges.{flags_unburnt}
use Rattle.half_edges.proofs.burns.Burns.unburn_last.Goals as goal

pub index_mut-requires : goal.index_mut-requires
index_mut-requires c =
    let sides = ap (map (λ (s : Side). s.0)) c.in-Some.ensures.items ∙ map_push (λ (s : Side). s.0) c.pop.new.self.items c.in-Some.s in
    let flags = rw sides at c.self.invariant.flags in
    let below = All-contains (λ t. t < 2 * length c.self.inside.is_burnt.items) _ c.in-Some.s.0 flags.within (Contains-push _ c.in-Some.s.0) in
    omega (arith, below, c.edge_of.ensures, c.self.inside.is_burnt.ok.0)

pub invariant_of-self : goal.invariant_of-self
invariant_of-self c =
    let sides = ap (map (λ (s : Side). s.0)) c.in-Some.ensures.items ∙ map_push (λ (s : Side). s.0) c.pop.new.self.items c.in-Some.s in
    let flags = rw sides at c.self.invariant.flags in
    record { flags = rw (c.edge_of.ensures) (flags_unburnt _ _ _ flags); room = omega (arith, length-set c.self.inside.is_burnt.items c.edge_of.result false, c.pop.ensures.capacity, c.self.invariant.room) }
