use Rattle.std.proofs.Common.{◌∙◌, None, map, rules}
use Rattle.std.proofs.lemmas.List.{length-map}
use Rattle.netlist.specs.Holds.{none_held}
use Rattle.command_line.specs.CommandLine.{hold_of}
use Rattle.command_steps.specs.Steps.{named_holds}
use Rattle.command_steps.proofs.HoldLemmas.{held_length}
use Rattle.command_steps.proofs.StepLemmas.{stopped, then_worked}
use Rattle.atpg_top.specs.Commands.{slow_due}
use Rattle.atpg_top.proofs.slow_lines.test_core.Goals as goal

pub test_held-requires : goal.test_held-requires
test_held-requires g c =
    let n = c.args.core.now in (
      search rules,
      (
        search rules,
        (
          c.requires.0,
          held_length n (map hold_of c.args.asked.now.named.now) (none_held n) c.in-Ok.holds c.in-Ok.ensures ∙ length-map n.inputs (λ _. None),
          c.requires.1,
        ),
      ),
    )

pub returns-in-Ok : goal.returns-in-Ok
returns-in-Ok g c =
    let n = c.args.core.now in
    then_worked (named_holds n (map hold_of c.args.asked.now.named.now)) (slow_due c.args.asked.now.options n) 5 c.in-Ok.holds c.test_held.result c.in-Ok.ensures c.test_held.ensures

pub returns-in-Err : goal.returns-in-Err
returns-in-Err g c =
    let n = c.args.core.now in
    stopped (named_holds n (map hold_of c.args.asked.now.named.now)) (slow_due c.args.asked.now.options n) 5 c.in-Err.stop c.in-Err.ensures
