use Rattle.std.proofs.Common.{[], ◌∷◌, sym, subst}
use Rattle.statement.specs.declared.lines.Line.{Line}
use Rattle.netlist.specs.declared.order.Placing.{Placing}
use Rattle.netlist.specs.inner.Sorting.{Counts}
use Rattle.netlist.proofs.Counting.{counts_line, counts_other}
use Rattle.netlist.proofs.order.Placing.visit.Goals as goal
use Rattle.netlist.proofs.order.Placing.visit.Goals.{in-Pin+in_ok-count_down, in_default}

pub loop-line-preserved : goal.loop-line-preserved
loop-line-preserved c =
    let p = c.loop-line.self in
    let line = c.line-item.result in
    let one : Counts (line ∷ []) p c.match-line.self = elim c.match-line.branch [
      | in-Pin+in_ok-count_down w ↦
          subst (λ (q : Placing). Counts (line ∷ []) p q) (sym w.self-is)
          (subst (λ (l : Line). Counts (l ∷ []) p w.count_down.new.self) (sym w.in-Pin.is) (w.in_ok-count_down.ensures _))
      | in_default w ↦
          subst (λ (q : Placing). Counts (line ∷ []) p q) (sym w.self-is) (counts_other p line c.loop-line.invariant.room w.in_default.not-Pin)
    ] in
    counts_line c.args.readers.now c.loop-line.line-index line c.args.self.now p c.match-line.self c.loop-line-test.true c.line-item.is c.loop-line.invariant one
