use Rattle.report.proofs.TableLemmas.{pushed_line}
use Rattle.report.proofs.fault_lines.FaultLines.push.Goals as goal

pub returns : goal.returns
returns c =
    let s = c.self.inside in
    pushed_line s.faults s.outcomes.items s.pins c.args.self c.args.fault.now c.args.outcome c.args.pin.now c.push.new.self c.push-2.new.self.items c.push-3.new.self
    c.self.view_is c.self.invariant.0 c.self.invariant.1 c.in_ok-push.ensures.ok c.in_ok-push-2.ensures.items c.in_ok-push-3.ensures.ok
