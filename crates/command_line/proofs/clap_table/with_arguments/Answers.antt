use Rattle.std.proofs.Common.{arith}
use Rattle.command_line.proofs.TableLemmas.{begun, grown}
use Rattle.command_line.proofs.clap_table.with_arguments.Goals as goal

pub loop-it-init : goal.loop-it-init
loop-it-init c = begun _

pub loop-it-preserved : goal.loop-it-preserved
loop-it-preserved c =
    grown c.args.command c.loop-it.command c.in_ok-command.command c.args.arguments.now c.loop-it.it-index _ c.arg.result
    (omega (arith, c.loop-it-test.true)) c.loop-it.invariant c.arg.ensures.rule c.arg.ensures.local (c.in_ok-command.ensures)
