use Rattle.std.proofs.Common.{ℕ, List, subst, sym}
use Rattle.std.specs.List.{All}
use Rattle.std.proofs.lemmas.List.Elements.{All-push}
use Rattle.statement.specs.declared.lines.Fault.{Fault}
use Rattle.netlist.specs.Lines.{IsLineOf}
use Rattle.run_files.specs.inner.Batches.{AreRest}
use Rattle.run_files.proofs.drawing.left_after.Goals as goal
use Rattle.run_files.proofs.drawing.left_after.Goals.{then-not-taken+in_ok-push, else-not-taken}

pub loop-one-preserved : goal.loop-one-preserved
loop-one-preserved c n lines =
    let P : ℕ × Fault → Type 0 = λ g. IsLineOf n g.1.line in
    let here : P c.one-item.result = subst P (sym c.one-item.is) (lines c.loop-one.one-index c.one-item.result c.loop-one-test.true) in
    elim c.if-not-taken.branch [
      | then-not-taken+in_ok-push w ↦
          subst (λ v. All P v.items) (sym w.rest-is)
          (subst (λ (gs : List (ℕ × Fault)). All P gs) (sym w.in_ok-push.ensures.items) (All-push P c.loop-one.rest.items c.one-item.result (c.loop-one.invariant n lines) here))
      | else-not-taken w ↦ subst (λ v. All P v.items) (sym w.rest-is) (c.loop-one.invariant n lines)
    ]

pub returns : goal.returns
unfolding AreRest
returns c = λ n are. record { lines = c.loop-one.invariant n are.lines }
