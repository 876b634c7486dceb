use Rattle.std.proofs.Common.{List, sym, subst}
use Rattle.std.specs.List.{All}
use Rattle.std.proofs.lemmas.List.Elements.{All-push}
use Rattle.statement.specs.declared.lines.Fault.{Fault}
use Rattle.netlist.specs.Lines.{IsLineOf}
use Rattle.list_calls.proofs.ListLemmas.{line_of}
use Rattle.list_calls.proofs.playing.chosen.Goals as goal

pub loop-number-preserved : goal.loop-number-preserved
loop-number-preserved c =
    let n = c.args.netlist.now in
    let P : Fault → Type 0 = λ f. IsLineOf n f.line in
    subst (λ (fs : List Fault). All P fs) (sym c.in_ok-push.ensures.items)
    (All-push P c.loop-number.faults.items c.representative.result c.loop-number.invariant
    (line_of n c.args.classes.now.representatives _ c.representative.result c.requires c.representative.ensures))
