use Rattle.std.proofs.Common.{◌≡◌, ◌++◌, take}
use Rattle.pierce_report.specs.Shown.{shown}
use Rattle.pierce_report.proofs.text.put_shown.Given as goal

-- what is shown of the bytes so far
abbrev pub invariant-loop-byte : goal.invariant-loop-byte
invariant-loop-byte l = l.out ≡ l.fn.out ++ shown (take l.byte-index l.text)
