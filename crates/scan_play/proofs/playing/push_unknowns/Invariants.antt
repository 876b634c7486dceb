use Rattle.std.proofs.Common.{◌≡◌, ◌++◌, replicate}
use Rattle.statement.specs.declared.kinds.Tri.TheVariants.{X}
use Rattle.scan_play.proofs.playing.push_unknowns.Given as goal

abbrev pub invariant-loop-done : goal.invariant-loop-done
invariant-loop-done l = l.values.items ≡ l.initial.values.items ++ replicate l._done X
