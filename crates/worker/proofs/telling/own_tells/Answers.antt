use Rattle.std.proofs.Common.{List, sym, ◌∙◌, subst}
use Rattle.std.specs.List.{All}
use Rattle.statement.specs.declared.lines.Fault.{Fault}
use Rattle.netlist.specs.Lines.{IsLineOf}
use Rattle.worker.proofs.DealingLemmas.{dealt_all}
use Rattle.worker.proofs.telling.own_tells.Goals as goal

pub last_tells-requires-clause-lines : goal.last_tells-requires-clause-lines
last_tells-requires-clause-lines c =
    let P : Fault → Type 0 = λ f. IsLineOf c.args.core.now f.line in
    subst (λ (fs : List Fault). All P fs) (sym (c.deref.ensures.value ∙ c.in_ok-own.ensures))
    (dealt_all P c.args.deal.now.numbers.items c.args.number c.args.faults.now c.requires.lines)
