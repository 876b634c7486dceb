use Rattle.refutation_check.specs.inner.Marks.{marked}
use Rattle.refutation_check.proofs.WayLemmas.{no_entry, way_answer}
use Rattle.refutation_check.proofs.ways.is_no_way.Goals as goal

pub returns-in_default-clause-so : goal.returns-in_default-clause-so
returns-in_default-clause-so c = no_entry c.args.netlist.now c.args.fault.now c.args.told.now c.requires.line c.in_default.ensures

pub returns-clause-so : goal.returns-clause-so
returns-clause-so c =
    way_answer c.args.netlist.now c.requires.sound c.args.fault.now c.args.told.now c.in-Some.id c.in-Some.ensures.0 (marked c.args.marks.now.items c.args.list.now.items)
    (marked c.mark_differing.new.marks.items c.mark_differing.new.list.items) c.requires.clear c.in_ok-mark_differing.ensures.here c.in_ok-mark_differing.ensures.spreads
    (marked c.pass_all.new.marks.items c.pass_all.new.list.items) c.pass_all.result c.pass_all.ensures.listed c.pass_all.ensures.so
