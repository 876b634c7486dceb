use Rattle.report.proofs.WriteLemmas.{next_written}
use Rattle.unknown_report.specs.Reports.{unknown_line}
use Rattle.unknown_report.proofs.unknown_lines.push_unknowns.Goals as goal

pub loop-k-preserved : goal.loop-k-preserved
loop-k-preserved c =
    next_written unknown_line c.args.unknown.now c.loop-k.k c.get.result.now c.args.out.now.items c.loop-k.out.items c.push_unknown.new.out.items
    c.get.ensures c.loop-k.invariant c.in_ok-push_unknown.ensures
