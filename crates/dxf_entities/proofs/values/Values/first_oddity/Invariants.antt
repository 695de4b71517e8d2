use Rattle.std.proofs.Common.{◌≡◌, drop}
use Rattle.std.specs.Prelude.{filter_map}
use Rattle.dxf_entities.specs.EntityBuilder.{value_in}
use Rattle.dxf_entities.specs.Refusals.{first, oddity}
use Rattle.dxf_entities.proofs.values.Values.first_oddity.Given as goal

abbrev pub invariant-loop-group : goal.invariant-loop-group
invariant-loop-group l = first (filter_map (λ g. oddity g (value_in l.self g)) (drop l.group-index l.groups)) ≡ first (filter_map (λ g. oddity g (value_in l.self g)) l.groups)
