use Rattle.detections.specs.inner.Counting.{CountsWord}
use Rattle.detections.proofs.counting.count_word.Given as goal

abbrev pub invariant-loop-j : goal.invariant-loop-j
invariant-loop-j l = CountsWord l.word l.start l.end l.most l.times l.initial.needed.items l.j l.count l.needed.items
