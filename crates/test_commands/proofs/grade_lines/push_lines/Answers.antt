use Rattle.std.proofs.Common.{◌<◌, length, sym, refl, arith}
use Rattle.std.proofs.lemmas.Option.{get_or_from_slice_get}
use Rattle.test_commands.specs.Grades.{grade_line}
use Rattle.test_commands.proofs.ChainTestLemmas.{line_more, lines_all}
use Rattle.test_commands.proofs.grade_lines.push_lines.Goals as goal

pub loop-i-preserved : goal.loop-i-preserved
loop-i-preserved c =
    let faults = c.args.faults.now in
    let size = c.len-i-end.ensures in
    let test = c.loop-i-test.true in
    let within : c.loop-i.i < length faults = omega arith in
    let g = c.fault.result in
    line_more (λ p. grade_line c.args.design.now c.args.pins.now p.0 p.1) faults c.args.grades.now c.loop-i.i g _ _ c.args.text.now.items c.loop-i.text.items _ within c.requires.size
    (sym (get_or_from_slice_get faults c.loop-i.i g g c.fault.ensures)) refl c.loop-i.invariant c.in_ok-push_line.ensures

pub returns : goal.returns
returns c =
    let size = c.len-i-end.ensures in
    let test = c.loop-i-test.false in
    lines_all (λ p. grade_line c.args.design.now c.args.pins.now p.0 p.1) c.args.faults.now c.args.grades.now c.loop-i.i c.args.text.now.items c.loop-i.text.items (omega arith) c.requires.size c.loop-i.invariant
