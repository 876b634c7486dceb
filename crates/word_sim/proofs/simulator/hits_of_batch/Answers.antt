use Rattle.std.proofs.Common.{ℕ, sym, subst}
use Rattle.std.specs.List.{All}
use Rattle.statement.specs.declared.lines.Fault.{Fault}
use Rattle.netlist.specs.Lines.{IsLineOf}
use Rattle.statement.specs.Netlists.{Netlist}
use Rattle.word_sim.specs.Words.{HasWidthsOf}
use Rattle.word_sim.proofs.simulator.hits_of_batch.Goals as goal

pub batch_hits-hits-requires-clause-wide : goal.batch_hits-hits-requires-clause-wide
batch_hits-hits-requires-clause-wide c = subst (λ (m : Netlist). All (HasWidthsOf m) c.args.patterns.now) (sym c.in_ok-simulator.ensures) c.requires.wide

pub batch_hits-hits-requires-clause-lines : goal.batch_hits-hits-requires-clause-lines
batch_hits-hits-requires-clause-lines c =
    subst (λ (m : Netlist). All (λ (g : ℕ × Fault). IsLineOf m g.1.line) c.args.faults.now) (sym c.in_ok-simulator.ensures) c.requires.lines
