use Rattle.std.proofs.Common.{◌≡◌, drop}
use Rattle.dxf_entities.specs.Groups.{group_among as group_by_code}
use Rattle.dxf_entities.proofs.group.group_among.Given as goal

abbrev pub invariant-loop-group : goal.invariant-loop-group
invariant-loop-group l = group_by_code (drop l.group-index l.groups) l.code ≡ group_by_code l.groups l.code
