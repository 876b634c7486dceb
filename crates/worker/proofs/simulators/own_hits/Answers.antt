use Rattle.std.proofs.Common.{ℕ, List, sym, ◌∙◌, subst}
use Rattle.std.specs.List.{All}
use Rattle.statement.specs.declared.lines.Fault.{Fault}
use Rattle.netlist.specs.Lines.{IsLineOf}
use Rattle.worker.proofs.DealingLemmas.{dealt_hits_all}
use Rattle.worker.proofs.simulators.own_hits.Goals as goal

pub hits-requires-clause-lines : goal.hits-requires-clause-lines
hits-requires-clause-lines c =
    let P : Fault → Type 0 = λ f. IsLineOf c.args.simulator.now f.line in
    subst (λ (gs : List (ℕ × Fault)). All (λ (g : ℕ × Fault). P g.1) gs) (sym (c.deref.ensures.value ∙ c.in_ok-deal.ensures))
    (dealt_hits_all P c.args.deal.now.numbers.items c.args.number 0 c.args.given.now c.requires.lines)
