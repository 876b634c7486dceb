use Rattle.std.proofs.Common.{◌≡◌, ◌<◌, ◌+◌, ◌++◌, ◌∷◌, [], List, drop, length, sym, subst, arith}
use Rattle.std.specs.List.{All}
use Rattle.netlist.specs.Lines.{IsLineOf}
use Rattle.statement.specs.declared.lines.Fault.{Fault}
use Rattle.word_sim.specs.Never.{unmarked}
use Rattle.word_sim.proofs.Untold.{no_fault}
use Rattle.word_sim.proofs.Leaving.{all_left, left_have, left_more, left_out}
use Rattle.word_sim.proofs.leaving_out.unmarked.Goals as goal
use Rattle.word_sim.proofs.leaving_out.unmarked.Goals.{then-not-marks-k+in_ok-push, else-not-marks-k}

pub loop-k-preserved : goal.loop-k-preserved
loop-k-preserved c =
    let k = c.loop-k.k in
    let marks = c.args.marks.now in
    let faults = c.args.faults.now in
    let l = c.loop-k-test.true in
    let size = c.requires.size in
    let m : c.loop-k.k < length c.args.marks.now = omega arith in
    elim c.if-not-marks-k.branch [
      | then-not-marks-k+in_ok-push w ↦
          subst (λ v. v.items ++ unmarked (drop (k + 1) marks) (drop (k + 1) faults) ≡ unmarked marks faults) (sym w.left-is)
          (subst (λ (items : List Fault). items ++ unmarked (drop (k + 1) marks) (drop (k + 1) faults) ≡ unmarked marks faults) (sym w.in_ok-push.ensures.items)
          (subst (λ (g : Fault). (c.loop-k.left.items ++ g ∷ []) ++ unmarked (drop (k + 1) marks) (drop (k + 1) faults) ≡ unmarked marks faults) (sym w.index-faults-k.is)
          (left_more marks faults k w.index-faults-k.result c.loop-k.left.items l m c.loop-k.invariant w.if-not-marks-k.true)))
      | else-not-marks-k w ↦
          subst (λ v. v.items ++ unmarked (drop (k + 1) marks) (drop (k + 1) faults) ≡ unmarked marks faults) (sym w.left-is)
          (left_out marks faults k no_fault c.loop-k.left.items l m c.loop-k.invariant w.if-not-marks-k.false)
    ]

pub returns-clause-lines : goal.returns-clause-lines
returns-clause-lines c n all =
    let own = all_left c.args.marks.now c.args.faults.now c.loop-k.k c.loop-k.left.items c.loop-k-test.false c.loop-k.invariant in
    subst (All (λ (f : Fault). IsLineOf n f.line)) (sym own) (left_have (λ (f : Fault). IsLineOf n f.line) c.args.marks.now c.args.faults.now all)
