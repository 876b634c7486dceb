use Rattle.report.proofs.TableLemmas.{pushed_hold}
use Rattle.report.proofs.hold_lines.HoldLines.push.Goals as goal

pub returns : goal.returns
returns c =
    let s = c.self.inside in
    pushed_hold s.names s.bits.items c.args.self c.args.name.now c.args.bit c.push.new.self c.push-2.new.self.items
    c.self.view_is c.self.invariant c.in_ok-push.ensures.ok c.in_ok-push-2.ensures.items
