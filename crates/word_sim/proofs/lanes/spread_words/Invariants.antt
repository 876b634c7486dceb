use Rattle.word_sim.proofs.Spreading.{IsSpreadUpTo}
use Rattle.word_sim.proofs.lanes.spread_words.Given as goal

abbrev pub invariant-loop-x : goal.invariant-loop-x
invariant-loop-x l = IsSpreadUpTo l.values l.initial.wide l.wide l.x
