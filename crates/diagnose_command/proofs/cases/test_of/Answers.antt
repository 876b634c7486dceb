use Rattle.std.proofs.Common.{List, sym, subst}
use Rattle.std.specs.List.{All}
use Rattle.statement.specs.Netlists.{Netlist}
use Rattle.statement.specs.Runs.{Cycle}
use Rattle.scan_play.specs.Cycles.{IsCycleOf}
use Rattle.statement.specs.Tests.{vectors_in}
use Rattle.diagnose_command.proofs.cases.test_of.Goals as goal

pub returns-clause-fits : goal.returns-clause-fits
returns-clause-fits c =
    let file = c.args.scanned.now.case.now.file in
    let fit = c.fitting_cycles.ensures file c.args.scanned.now.scanned.now.netlist c.sound.ensures c.requires.fits in
    subst (λ (cycles : List Cycle). All (IsCycleOf c.in_ok-core.core) cycles) (sym c.in_ok-cycles.ensures.cycles)
    (subst (λ (n : Netlist). All (IsCycleOf n) (vectors_in file)) (sym c.in_ok-core.ensures) fit)
