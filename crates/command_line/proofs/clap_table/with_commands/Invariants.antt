use Rattle.std.proofs.Common.{map}
use Rattle.clap.specs.Words.{app_of}
use Rattle.command_line.specs.Table.{program}
use Rattle.command_line.specs.inner.Arguments.{shape_by, with_subcommands}
use Rattle.command_line.proofs.TableLemmas.{IsSoFar}
use Rattle.command_line.proofs.clap_table.with_commands.Given as goal

abbrev pub invariant-loop-it : goal.invariant-loop-it
invariant-loop-it l = IsSoFar l.commands l.it-index (with_subcommands program (map shape_by l.commands)) (app_of l.table)
