use Rattle.std.proofs.Common.{arith}
use Rattle.statement.specs.Reports.{Line}
use Rattle.run_report.specs.Heads.{one_if_aborted, one_if_detected, one_if_redundant, one_if_unasked}
use Rattle.run_report.proofs.ListLemmas.{counted_more, one_kind}
use Rattle.run_report.proofs.heads.tally_of.Goals as goal

pub loop-k-preserved : goal.loop-k-preserved
loop-k-preserved c =
    let i = c.loop-k.invariant in
    let line : Line = record { fault = c.get.result.fault.now; outcome = c.get.result.outcome; pin = c.get.result.pin.now } in
    let with = c.with-tally.ensures in
    record {
      detected = counted_more one_if_detected c.args.lines.now c.loop-k.k line c.loop-k.tally.detected c.with-tally.result.detected c.get.ensures i.detected with.detected;
      redundant = counted_more one_if_redundant c.args.lines.now c.loop-k.k line c.loop-k.tally.redundant c.with-tally.result.redundant c.get.ensures i.redundant with.redundant;
      aborted = counted_more one_if_aborted c.args.lines.now c.loop-k.k line c.loop-k.tally.aborted c.with-tally.result.aborted c.get.ensures i.aborted with.aborted;
      unasked = counted_more one_if_unasked c.args.lines.now c.loop-k.k line c.loop-k.tally.unasked c.with-tally.result.unasked c.get.ensures i.unasked with.unasked;
      all = omega (arith, one_kind c.get.result.outcome, i.all, with.detected, with.redundant, with.aborted, with.unasked);
    }
