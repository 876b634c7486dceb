use Rattle.std.specs.List.{All}
use Rattle.word_sim.specs.Words.{HasWidthsOf}
use Rattle.case_nets.proofs.patterns.all_drawn.Given as goal

abbrev pub invariant-loop-done : goal.invariant-loop-done
invariant-loop-done l = All (HasWidthsOf l.core) l.patterns.items
