use Rattle.std.specs.List.{All}
use Rattle.word_sim.specs.Words.{HasWidthsOf}
use Rattle.case_nets.proofs.patterns.patterns_of.Given as goal

abbrev pub invariant-loop-word : goal.invariant-loop-word
invariant-loop-word l = All (HasWidthsOf l.core) l.patterns.items
