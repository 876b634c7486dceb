use Rattle.std.proofs.Common.{◌≡◌, ℕ, ◌+◌, ◌/◌, ◌<◌, List, length, subst, sym, ◌∙◌, ap, ap₂, arith}
use Rattle.std.specs.List.{All}
use Rattle.statement.specs.Faults.{universe_of}
use Rattle.report.specs.Reports.{Hold, IsBenchWord, Report}
use Rattle.run_report.specs.Heads.{counts_of, share_of}
use Rattle.run_report.proofs.ClassLemmas.{some_fault}
use Rattle.run_report.proofs.CycleLemmas.{share_small}
use Rattle.good_files.proofs.HeldWords.{held_words}
use Rattle.run_files.proofs.reporting.report_of.Goals as goal

pub share_of-coverage-requires : goal.share_of-coverage-requires
share_of-coverage-requires c =
    let universe = ap length c.requires.case.subject.faults in
    omega (arith, some_fault c.args.case.now.netlist.now c.sound.ensures, c.len-faults.ensures, universe)

pub share_of-efficiency-requires : goal.share_of-efficiency-requires
share_of-efficiency-requires c =
    let universe = ap length c.requires.case.subject.faults in
    omega (arith, some_fault c.args.case.now.netlist.now c.sound.ensures, c.len-faults.ensures, universe)

pub new-requires : goal.new-requires
new-requires c =
    let n = c.args.case.now.netlist.now in
    let kinds = c.tally_of-tally.ensures.kinds in
    let few = kinds.all in
    let universe = ap length c.requires.case.subject.faults in
    let all : length c.args.lines ≡ c.len-faults.result = c.requires.lines ∙ sym (c.len-faults.ensures ∙ universe) in
    let d = share_small c.len-faults.result c.tally_of-tally.result.detected (omega (arith, few, all)) in
    let e = share_small c.len-faults.result (c.tally_of-tally.result.detected + c.tally_of-tally.result.redundant) (omega (arith, few, all)) in
    record {
      counts = c.sound-2.ensures;
      coverage = subst (λ k. k / 100 < 18446744073709551616) (sym c.share_of-coverage.ensures) d;
      efficiency = subst (λ k. k / 100 < 18446744073709551616) (sym c.share_of-efficiency.ensures) e;
      times = c.requires.times;
      holds = subst (λ (hs : List Hold). All (λ (h : Hold). IsBenchWord h.name) hs) (sym c.in_ok-held.ensures) (held_words n c.sound.ensures c.args.case.now.holds.now);
      lines = c.requires.sound;
    }

pub returns-clause-reported : goal.returns-clause-reported
returns-clause-reported c =
    let case = c.args.case.now in
    let kinds = c.tally_of-tally.ensures.kinds in
    let is = c.new.ensures in
    let faults : c.len-faults.result ≡ length (universe_of case.netlist.now) = c.len-faults.ensures ∙ ap length c.requires.case.subject.faults in
    record {
      lines_are = ap (λ (r : Report). r.lines) is;
      held = ap (λ (r : Report). r.holds) is ∙ c.in_ok-held.ensures;
      counts = ap (λ (r : Report). r.counts) is
          ∙ (c.counts_of-counts.ensures
          ∙ ap₂ (λ (f k : ℕ). counts_of case.netlist.now case.chains.now f k c.args.patterns case.plan.limit c.args.lines) faults c.count.ensures);
      coverage = ap (λ (r : Report). r.coverage) is ∙ (c.share_of-coverage.ensures ∙ ap₂ share_of faults kinds.detected);
      efficiency = ap (λ (r : Report). r.efficiency) is
          ∙ (c.share_of-efficiency.ensures ∙ ap₂ share_of faults (ap₂ (λ x y. x + y) kinds.detected kinds.redundant));
    }
