use Rattle.std.proofs.Common.{◌≡◌, ℕ, ◌+◌, ◌*◌, length, refl, ◌∙◌, ap, ap₂, arith}
use Rattle.statement.specs.Faults.{universe_of}
use Rattle.run_report.specs.Heads.{counts_with, share_of}
use Rattle.run_report.proofs.CycleLemmas.{longest_small}
use Rattle.run_report.proofs.ClassLemmas.{some_fault}
use Rattle.transition_report.specs.Numbers.{launch_cycles}
use Rattle.transition_report.proofs.reporting.report_of.Goals as goal

pub launch_cycles-cycles-requires-clause-longest : goal.launch_cycles-cycles-requires-clause-longest
launch_cycles-cycles-requires-clause-longest c =
    omega (arith, c.longest.ensures, longest_small c.args.netlist.now c.args.chains.now c.sound.ensures c.requires.chains)

pub share_of-coverage-requires : goal.share_of-coverage-requires
share_of-coverage-requires c = omega (arith, some_fault c.args.netlist.now c.sound.ensures, c.requires.lines, c.len-faults.ensures)

pub share_of-efficiency-requires : goal.share_of-efficiency-requires
share_of-efficiency-requires c = omega (arith, some_fault c.args.netlist.now c.sound.ensures, c.requires.lines, c.len-faults.ensures)

pub returns-clause-report : goal.returns-clause-report
returns-clause-report c =
    let n = c.args.netlist.now in
    let kinds = c.tally_of-tally.ensures.kinds in
    let faults : c.len-faults.result ≡ length (universe_of n) = c.len-faults.ensures ∙ c.requires.lines in
    let cycles : c.launch_cycles-cycles.result ≡ launch_cycles c.args.chains.now c.args.patterns =
    c.launch_cycles-cycles.ensures ∙ ap (λ (m : ℕ). (c.args.patterns + 4) * m + 2 * c.args.patterns) c.longest.ensures in
    record {
      lines_are = refl;
      counts = c.counts_with-counts.ensures
          ∙ (ap (λ (k : ℕ). counts_with c.args.netlist.now c.args.chains.now k k c.args.patterns c.launch_cycles-cycles.result c.args.limit c.args.lines) faults
          ∙ ap (λ (k : ℕ). counts_with c.args.netlist.now c.args.chains.now (length (universe_of c.args.netlist.now)) (length (universe_of c.args.netlist.now)) c.args.patterns k c.args.limit c.args.lines) cycles);
      coverage = c.share_of-coverage.ensures
          ∙ (ap (λ (k : ℕ). share_of k c.tally_of-tally.result.detected) faults ∙ ap (share_of (length (universe_of c.args.netlist.now))) kinds.detected);
      efficiency = c.share_of-efficiency.ensures
          ∙ (ap (λ (k : ℕ). share_of k (c.tally_of-tally.result.detected + c.tally_of-tally.result.redundant)) faults
          ∙ ap (share_of (length (universe_of c.args.netlist.now))) (ap₂ (λ (x y : ℕ). x + y) kinds.detected kinds.redundant));
    }
