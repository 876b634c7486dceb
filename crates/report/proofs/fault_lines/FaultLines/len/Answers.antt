use Rattle.std.proofs.Common.{arith}
use Rattle.report.proofs.TableLemmas.{seen_lines}
use Rattle.report.proofs.fault_lines.FaultLines.len.Goals as goal

pub returns : goal.returns
returns c =
    let s = c.self.inside in
    let size = seen_lines s.faults s.outcomes.items s.pins c.args.self.now c.self.view_is c.self.invariant.0 c.self.invariant.1 in
    omega (arith, size, c.len.ensures)
