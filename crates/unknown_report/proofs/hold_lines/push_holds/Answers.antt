use Rattle.report.specs.Texts.{hold_line}
use Rattle.report.proofs.WriteLemmas.{next_written}
use Rattle.unknown_report.proofs.hold_lines.push_holds.Goals as goal

pub loop-k-preserved : goal.loop-k-preserved
loop-k-preserved c =
    next_written hold_line c.args.holds.now c.loop-k.k (record { name = c.get-line.result.name.now; bit = c.get-line.result.bit })
    c.args.out.now.items c.loop-k.out.items c.push_hold.new.out.items c.get-line.ensures c.loop-k.invariant c.in_ok-push_hold.ensures
