use Rattle.std.proofs.Common.{◌≡◌, ◌++◌, take}
use Rattle.pierce_report.specs.Shown.{shown}
use Rattle.nest_commands.proofs.line.FaultLine.put_name.Given as goal

abbrev pub invariant-loop-byte : goal.invariant-loop-byte
invariant-loop-byte l = l.self ≡ l.fn.self ++ shown (take l.byte-index l.name)
