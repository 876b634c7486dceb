use Rattle.std.proofs.Common.{arith}
use Rattle.report.proofs.TableLemmas.{seen_holds}
use Rattle.report.proofs.hold_lines.HoldLines.len.Goals as goal

pub returns : goal.returns
returns c =
    let s = c.self.inside in
    let size = seen_holds s.names s.bits.items c.args.self.now c.self.view_is c.self.invariant in
    omega (arith, size, c.len.ensures)
