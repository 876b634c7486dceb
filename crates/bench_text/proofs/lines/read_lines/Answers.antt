use Rattle.std.proofs.Common.{arith}
use Rattle.bench_text.proofs.LinesReadLemmas.{is_zero, room, part-start, part-more, part-done, refusal-here}
use Rattle.bench_text.proofs.lines.read_lines.Goals as goal

pub lines-init : goal.lines-init
lines-init c = part-start _ _ _ c.in_ok-draft.ensures.nothing c.in_ok-draft.ensures.lines

pub overflow_add-number : goal.overflow_add-number
overflow_add-number c = omega (arith, room _ _ _ _ _ c.lines.draft c.lines.invariant c.first_line.ensures.line)

pub add_line-requires : goal.add_line-requires
add_line-requires c = omega (arith, room _ _ _ _ _ c.lines.draft c.lines.invariant c.first_line.ensures.line)

pub returns-in-Err : goal.returns-in-Err
returns-in-Err c =
    rw c.at.ensures (refusal-here _ _ _ _ _ c.lines.draft c.lines.invariant c.first_line.ensures.line c.in-Err.refusal _ c.lines-number.ensures c.in-Err.ensures.refusal)

pub lines-preserved : goal.lines-preserved
lines-preserved c = part-more _ _ _ _ _ c.lines.draft c.lines.invariant c.first_line.ensures.line c.in-Ok.longer c.in-Ok.ensures.said c.in-Ok.ensures.lines c.in-Ok.ensures.refusal

pub returns : goal.returns
returns c = part-done _ _ _ c.lines.draft (is_zero _ _ c.is_empty.ensures c.lines-test.false) c.lines.invariant
