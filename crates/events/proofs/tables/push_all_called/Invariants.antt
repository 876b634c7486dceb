use Rattle.std.proofs.Common.{◌≡◌, ◌++◌, take}
use Rattle.events.specs.inner.Placing.{called}
use Rattle.events.proofs.tables.push_all_called.Given as goal

abbrev pub invariant-loop-line : goal.invariant-loop-line
invariant-loop-line l = l.fan.items ≡ l.initial.fan.items ++ called l.places l.bound (take l.line-index l.lines)
