use Rattle.std.proofs.Common.{◌∙◌, set}
use Rattle.events.proofs.Calling.{nothing_called, more_called}
use Rattle.events.proofs.resettling.call_each.Goals as goal

pub loop-line-init : goal.loop-line-init
loop-line-init g c =
    nothing_called (g.L.Logic.rule c.args.rule.now) c.args.netlist.now c.args.tables.now.places.items c.args.values.now (set c.args.values.now c.args.id c.args.value) c.args.agenda.now

pub call_reader-requires-clause-marks : goal.call_reader-requires-clause-marks
call_reader-requires-clause-marks g c = c.loop-line.invariant.size ∙ c.requires.marks

pub loop-line-preserved : goal.loop-line-preserved
loop-line-preserved g c =
    more_called (g.L.Logic.rule c.args.rule.now) c.args.netlist.now c.args.tables.now.places.items c.args.values.now (set c.args.values.now c.args.id c.args.value)
    c.args.lines.now c.loop-line.line-index c.line-item.result c.args.agenda.now c.loop-line.agenda c.call_reader.new.agenda
    c.loop-line-test.true c.line-item.is c.loop-line.invariant c.call_reader.ensures
