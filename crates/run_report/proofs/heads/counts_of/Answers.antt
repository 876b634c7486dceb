use Rattle.std.proofs.Common.{◌≡◌, ℕ, ◌+◌, ◌*◌, ◌∙◌, ap, arith}
use Rattle.run_report.specs.Heads.{counts_with, cycle_count}
use Rattle.run_report.proofs.CycleLemmas.{longest_small}
use Rattle.run_report.proofs.heads.counts_of.Goals as goal

pub cycles_of-cycles-requires-clause-longest : goal.cycles_of-cycles-requires-clause-longest
cycles_of-cycles-requires-clause-longest c = omega (arith, c.longest.ensures, longest_small c.args.netlist.now c.args.chains.now c.sound.ensures c.requires)

pub returns : goal.returns
returns c =
    let n = c.args.netlist.now in
    let chains = c.args.chains.now in
    let cycles : c.cycles_of-cycles.result ≡ cycle_count chains c.args.patterns =
    c.cycles_of-cycles.ensures ∙ ap (λ m. (c.args.patterns + 4) * m + c.args.patterns) c.longest.ensures in
    c.counts_with.ensures ∙ ap (λ (k : ℕ). counts_with n chains c.args.faults c.args.classes c.args.patterns k c.args.limit c.args.lines.now) cycles
