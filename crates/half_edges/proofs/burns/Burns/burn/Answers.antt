use Rattle.std.proofs.Common.{arith, rules, ◌≡◌, ◌/◌, true, ◌∷◌, [], ◌++◌, length-append, length-set, map}
use Rattle.std.proofs.lemmas.List.{length-map, map_push}
use Rattle.nest_base.specs.declared.numbers.Side.{Side}
use Rattle.half_edges.proofs.BurntEdges.{burnt_few, flags_burnt}
use Rattle.half_edges.proofs.burns.Burns.burn.Goals as goal

pub prove-unreachable-requires : goal.prove-unreachable-requires
prove-unreachable-requires c =
    let sides = map (λ (s : Side). s.0) c.self.inside.order.items in
    let are = flags_burnt c.self.inside.is_burnt.items sides c.args.s.0 c.self.invariant.flags (rw (← c.self.view_is) at c.requires.within) (rw (← c.self.view_is) at c.requires.unburnt) in
    let few = burnt_few _ _ are.within are.once in
    let ok = c.push-pushed.ensures.succeeds (omega (
      arith,
      few,
      length-append sides (c.args.s.0 ∷ []),
      length-map c.self.inside.order.items (λ (s : Side). s.0),
      length-set c.self.inside.is_burnt.items (c.args.s.0 / 2) true,
      c.self.inside.order.ok.0,
      c.self.invariant.room,
    )) in
    grind (arith, ok, c.if-prove.true, c.is_ok.ensures.value)

pub invariant_of-self : goal.invariant_of-self
invariant_of-self c =
    let sides = map (λ (s : Side). s.0) c.self.inside.order.items in
    let are = flags_burnt c.self.inside.is_burnt.items sides c.args.s.0 c.self.invariant.flags (rw (← c.self.view_is) at c.requires.within) (rw (← c.self.view_is) at c.requires.unburnt) in
    let pushed : c.push-pushed.new.self.items ≡ c.self.inside.order.items ++ c.args.s ∷ [] = search (rules, c.push-pushed.ensures.items, c.is_ok.ensures.value, c.if-prove.false) in
    record { flags = rw (c.edge_of.ensures, pushed, map_push (λ (s : Side). s.0) c.self.inside.order.items c.args.s) are; room = omega (arith, length-set c.self.inside.is_burnt.items c.edge_of.result true, c.push-pushed.ensures.capacity, c.self.invariant.room) }
