use Rattle.std.proofs.Common.{◌≡◌, ◌++◌, ◌-◌, map, take, drop}
use Rattle.statement.specs.declared.kinds.Tri.TheVariants.{X}
use Rattle.statement.specs.Tests.{column}
use Rattle.stil_write.specs.StilFiles.{item_at, words_of}
use Rattle.stil_vectors.specs.FileVectors.{values_of}
use Rattle.stil_vectors.proofs.calls.push_outs.Given as goal

abbrev pub invariant-loop-k : goal.invariant-loop-k
invariant-loop-k l = l.outs.items ≡ l.fn.outs.items ++ column X (map values_of (take (l.k - l.chains) (drop l.chains (words_of (item_at l.items l.place))))) l.t
