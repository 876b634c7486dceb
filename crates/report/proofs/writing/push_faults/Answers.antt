use Rattle.statement.specs.Reports.{fault_line}
use Rattle.report.proofs.WriteLemmas.{next_written}
use Rattle.report.proofs.writing.push_faults.Goals as goal

pub loop-k-preserved : goal.loop-k-preserved
loop-k-preserved c =
    next_written fault_line c.args.lines.now c.loop-k.k
    (record { fault = c.get-line.result.fault.now; outcome = c.get-line.result.outcome; pin = c.get-line.result.pin.now })
    c.args.out.now.items c.loop-k.out.items c.push_fault.new.out.items c.get-line.ensures c.loop-k.invariant c.in_ok-push_fault.ensures
