use Rattle.std.proofs.Common.{arith}
use Rattle.run_report.proofs.CycleLemmas.{longest_small}
use Rattle.slow_check.proofs.totals.has_counts.Goals as goal

pub launch_cycles-cycles-requires-clause-longest : goal.launch_cycles-cycles-requires-clause-longest
launch_cycles-cycles-requires-clause-longest c =
    let t = c.args.trial.now in
    omega (arith, c.longest.ensures, longest_small t.netlist.now t.chains.now c.requires.sound c.requires.dealt)
