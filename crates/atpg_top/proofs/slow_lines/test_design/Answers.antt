use Rattle.std.proofs.Common.{map, subst}
use Rattle.statement.specs.Netlists.{Netlist}
use Rattle.commands.specs.Worked.{IsWorked}
use Rattle.command_line.specs.CommandLine.{hold_of}
use Rattle.atpg_top.specs.Commands.{named_slow_due}
use Rattle.atpg_top.proofs.slow_lines.test_design.Goals as goal

pub returns : goal.returns
returns g c =
    subst (λ (n : Netlist). IsWorked (named_slow_due c.args.asked.now.options (map hold_of c.args.asked.now.named.now) n) 5 c.test_core-worked.result) c.in-Ok.ensures c.test_core-worked.ensures
