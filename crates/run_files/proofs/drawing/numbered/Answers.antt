use Rattle.std.proofs.Common.{ℕ, List, subst, sym}
use Rattle.std.specs.List.{All}
use Rattle.std.proofs.lemmas.List.Elements.{All-push}
use Rattle.statement.specs.declared.lines.Fault.{Fault}
use Rattle.netlist.specs.Lines.{IsLineOf}
use Rattle.run_files.specs.inner.Batches.{AreWithNumbers}
use Rattle.run_files.proofs.drawing.numbered.Goals as goal

pub loop-k-preserved : goal.loop-k-preserved
loop-k-preserved c n lines =
    let P : ℕ × Fault → Type 0 = λ g. IsLineOf n g.1.line in
    let here : IsLineOf n c.index-faults-k.result.line =
    subst (λ (f : Fault). IsLineOf n f.line) (sym c.index-faults-k.is) (lines c.loop-k.k c.index-faults-k.result c.loop-k-test.true) in
    subst (λ (gs : List (ℕ × Fault)). All P gs) (sym c.in_ok-push.ensures.items)
    (All-push P c.loop-k.all.items (c.number_of.result, c.index-faults-k.result) (c.loop-k.invariant n lines) here)

pub returns : goal.returns
unfolding AreWithNumbers
returns c = λ n lines. record { lines = c.loop-k.invariant n lines }
