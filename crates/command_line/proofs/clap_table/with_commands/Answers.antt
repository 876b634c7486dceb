use Rattle.std.proofs.Common.{arith}
use Rattle.command_line.proofs.TableLemmas.{all_added, begun_table, one_added}
use Rattle.command_line.proofs.clap_table.with_commands.Goals as goal

pub loop-it-init : goal.loop-it-init
loop-it-init c = begun_table c.args.commands.now _ c.in_ok-program.ensures

pub loop-it-preserved : goal.loop-it-preserved
loop-it-preserved c =
    one_added c.args.commands.now c.loop-it.it-index _ _ _ _ (omega (arith, c.loop-it-test.true)) c.loop-it.invariant (c.in_ok-table.ensures.app _ c.command.ensures)

pub returns : goal.returns
returns c = all_added c.args.commands.now c.loop-it.it-index _ _ c.loop-it-test.false c.loop-it.invariant
