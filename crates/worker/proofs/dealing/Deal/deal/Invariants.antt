use Rattle.std.proofs.Common.{◌≡◌, ◌++◌, drop}
use Rattle.worker.specs.inner.Dealing.{dealt_hits}
use Rattle.worker.proofs.dealing.Deal.deal.Given as goal

abbrev pub invariant-loop-place : goal.invariant-loop-place
invariant-loop-place l = l.own.items ++ dealt_hits l.self.numbers.items l.number l.place (drop l.place l.given) ≡ dealt_hits l.self.numbers.items l.number 0 l.given
