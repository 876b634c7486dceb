use Rattle.std.proofs.Common.{arith}
use Rattle.grade.proofs.test_patterns.test_patterns.Goals as goal

pub returns : goal.returns
returns c =
    let found = rw c.in-Some.is at c.in_ok-patterns.ensures in
    record {
      holds = c.in_ok-holds.holds;
      are_vectors = c.file_vectors.ensures c.args.core.now c.in_ok-holds.holds c.args.chains.now c.in-Some.patterns.items c.args.file.now found.1;
      wide = λ k d l. let p = found.0 k d l in record { inputs = p.inputs; cells = p.cells };
      few = omega (arith, c.if-len-gt-MOST_PATTERNS.false, c.len.ensures);
    }
