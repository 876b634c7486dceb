use Rattle.std.proofs.Common.{◌≡◌, drop}
use Rattle.events.specs.Words.{all_of}
use Rattle.events.proofs.words.all_of.Given as goal

abbrev pub invariant-loop-k : goal.invariant-loop-k
invariant-loop-k g l = l.all ≡ all_of (drop l.k (g.P.Pins.words l.pins))
