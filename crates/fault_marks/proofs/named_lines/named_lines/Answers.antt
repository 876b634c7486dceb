use Rattle.std.proofs.Common.{◌+◌, refl, arith}
use Rattle.bench_text.proofs.LinesReadLemmas.{is_zero}
use Rattle.fault_marks.proofs.KeptLemmas.{kept_more}
use Rattle.fault_marks.proofs.MarkLemmas.{part_more, part_whole}
use Rattle.fault_marks.proofs.named_lines.named_lines.Goals as goal

pub lines-preserved : goal.lines-preserved
lines-preserved c =
    let part = c.lines.invariant.0 in
    let line = c.first_line.result.0 in (
      part_more c.args.names.now c.args.text.now c.lines.rest.now c.first_line.result.1.now line.now c.lines.found.keys c.lines.number part c.first_line.ensures.line
          c.if-not-names_fault.ensures c.insert.new.self.keys
          (kept_more c.lines.found.keys part.read line part.kept c.insert.new.self.keys c.in-Ok.ensures.keys) (c.lines.number + 1) refl,
      omega (arith, c.lines.invariant.1, c.first_line.ensures.shorter),
    )

pub returns : goal.returns
returns c =
    part_whole c.args.names.now c.args.text.now c.lines.rest.now c.lines.found.keys c.lines.number c.lines.invariant.0
    (is_zero _ _ c.is_empty.ensures c.lines-test.false)
