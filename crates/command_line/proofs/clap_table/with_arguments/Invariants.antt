use Rattle.std.proofs.Common.{map, take}
use Rattle.command_line.specs.inner.Arguments.{Grows, asked_by}
use Rattle.command_line.proofs.clap_table.with_arguments.Given as goal

abbrev pub invariant-loop-it : goal.invariant-loop-it
invariant-loop-it l = Grows l.fn.command (map asked_by (take l.it-index l.arguments)) l.command
