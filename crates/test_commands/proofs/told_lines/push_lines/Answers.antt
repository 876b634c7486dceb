use Rattle.std.proofs.Common.{refl}
use Rattle.test_commands.specs.ChainTests.{told_line}
use Rattle.test_commands.proofs.ChainTestLemmas.{line_more, lines_all}
use Rattle.test_commands.proofs.told_lines.push_lines.Goals as goal

pub loop-i-preserved : goal.loop-i-preserved
loop-i-preserved c =
    line_more (λ p. told_line c.args.netlist.now p.0 p.1) c.args.faults.now c.args.told.now c.loop-i.i c.index-faults-i.result _ _ c.args.text.now.items
    c.loop-i.text.items _ c.loop-i-test.true c.requires.size c.index-faults-i.is refl c.loop-i.invariant c.in_ok-push_line.ensures

pub returns : goal.returns
returns c = lines_all (λ p. told_line c.args.netlist.now p.0 p.1) c.args.faults.now c.args.told.now c.loop-i.i c.args.text.now.items c.loop-i.text.items c.loop-i-test.false c.requires.size c.loop-i.invariant
