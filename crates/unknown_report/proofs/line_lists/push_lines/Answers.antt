use Rattle.report.proofs.WriteLemmas.{next_written}
use Rattle.unknown_report.specs.Reports.{ended}
use Rattle.unknown_report.proofs.line_lists.push_lines.Goals as goal

pub loop-k-preserved : goal.loop-k-preserved
loop-k-preserved c =
    next_written ended c.args.lines.now c.loop-k.k c.get.result.now c.args.out.now.items c.loop-k.out.items c.push_ended.new.out.items
    c.get.ensures c.loop-k.invariant c.in_ok-push_ended.ensures
