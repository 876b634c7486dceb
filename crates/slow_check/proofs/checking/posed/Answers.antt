use Rattle.std.proofs.Common.{arith, refl}
use Rattle.good_slow_files.specs.GoodSlowFiles.{SlowTest}
use Rattle.slow_check.proofs.CheckLemmas.{posed_by, trial_by}
use Rattle.slow_check.proofs.SizeLemmas.{launches_take_items}
use Rattle.slow_check.proofs.checking.posed.Goals as goal

pub tried-answer-requires-clause-trial : goal.tried-answer-requires-clause-trial
tried-answer-requires-clause-trial c =
    let s = c.args.said.now in
    trial_by s c.args.made.now c.args.holds.now c.args.patterns.items c.requires.said c.requires.made c.requires.held c.requires.patterns
    (omega (arith, launches_take_items s.core c.args.holds.now c.args.made.now.chains c.args.patterns.items s.file c.requires.patterns.is_file_of, c.requires.said.few))
    c.netlist.result.now s.report.counts.limit c.deref.result.now c.deref-2.result.now c.netlist.ensures c.deref.ensures.value c.deref-2.ensures.value

pub returns : goal.returns
returns c =
    let s = c.args.said.now in
    let t : SlowTest = record {
      netlist = c.netlist.result.now;
      holds = c.args.holds.now;
      chains = c.args.made.now.chains;
      limit = s.report.counts.limit;
      patterns = c.deref.result.now;
      evidence = c.deref-2.result.now;
    } in
    posed_by s c.args.holds.now c.args.patterns.items t c.netlist.ensures refl c.requires.made.chains_are refl c.deref.ensures.value c.deref-2.ensures.value c.tried-answer.result c.tried-answer.ensures
