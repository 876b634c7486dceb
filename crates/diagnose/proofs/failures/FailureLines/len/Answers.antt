use Rattle.std.proofs.Common.{arith}
use Rattle.diagnose.proofs.TableLemmas.{seen_failures}
use Rattle.diagnose.proofs.failures.FailureLines.len.Goals as goal

pub returns : goal.returns
returns c =
    let s = c.self.inside in
    let size = seen_failures s.cycles.items s.signals c.args.self.now c.self.view_is c.self.invariant in
    omega (arith, size, c.len.ensures)
