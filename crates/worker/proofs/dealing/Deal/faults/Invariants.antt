use Rattle.std.proofs.Common.{◌≡◌, ◌++◌, drop}
use Rattle.worker.specs.inner.Dealing.{dealt}
use Rattle.worker.proofs.dealing.Deal.faults.Given as goal

abbrev pub invariant-loop-fault : goal.invariant-loop-fault
invariant-loop-fault l = l.own.items ++ dealt l.self.numbers.items l.number (drop l.fault-index l.faults) ≡ dealt l.self.numbers.items l.number l.faults
