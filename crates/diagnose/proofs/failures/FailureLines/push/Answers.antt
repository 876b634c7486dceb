use Rattle.diagnose.proofs.TableLemmas.{pushed_failure}
use Rattle.diagnose.proofs.failures.FailureLines.push.Goals as goal

pub returns : goal.returns
returns c =
    let s = c.self.inside in
    pushed_failure s.cycles.items s.signals c.args.self c.args.cycle c.args.signal.now c.push.new.self.items c.push-2.new.self
    c.self.view_is c.self.invariant c.in_ok-push.ensures.items c.in_ok-push-2.ensures.ok
