use Rattle.std.proofs.Common.{◌≡◌, ◌++◌}
use Rattle.statement.specs.Stils.{numbered}
use Rattle.stil_write.proofs.signals.push_numbered.Given as goal

abbrev pub invariant-loop-chain : goal.invariant-loop-chain
invariant-loop-chain l = l.names ≡ l.fn.names ++ numbered l.stem l.chain
