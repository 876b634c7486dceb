use Rattle.diagnose.specs.inner.Answers.{ArePut}
use Rattle.diagnose.proofs.answers.put_answers.Given as goal

abbrev pub invariant-loop-k : goal.invariant-loop-k
invariant-loop-k l = ArePut l.said l.start l.k l.initial.answers l.answers
