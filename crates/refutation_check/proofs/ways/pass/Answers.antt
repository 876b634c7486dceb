use Rattle.std.proofs.Common.{length, ◌∙◌}
use Rattle.refutation_check.specs.inner.Marks.{marked}
use Rattle.refutation_check.proofs.MarkLemmas.{line_in, reader_defined, gate_below}
use Rattle.refutation_check.proofs.WayLemmas.{line_observed, lines_more, lines_passed, spreads_passer}
use Rattle.refutation_check.proofs.ways.pass.Goals as goal

pub gate_of-requires-clause-defined : goal.gate_of-requires-clause-defined
gate_of-requires-clause-defined c =
    reader_defined c.args.netlist.now c.args.id c.index-lines-k.result
    (line_in c.args.netlist.now c.args.id c.readers-lines.result.now c.loop-k.k c.index-lines-k.result c.readers-lines.ensures c.loop-k-test.true c.index-lines-k.is)

pub mark_differing-requires-clause-told : goal.mark_differing-requires-clause-told
mark_differing-requires-clause-told c = gate_below c.args.netlist.now c.requires.sound c.in-Some.gate (length c.args.told.now) c.in-Some.ensures.0 c.requires.told

pub mark_differing-requires-clause-within : goal.mark_differing-requires-clause-within
mark_differing-requires-clause-within c =
    gate_below c.args.netlist.now c.requires.sound c.in-Some.gate (length c.loop-k.marks.items) c.in-Some.ensures.0 (c.loop-k.invariant.spreads.size ∙ c.requires.size)

pub returns-in_default-clause-so : goal.returns-in_default-clause-so
returns-in_default-clause-so c =
    line_observed c.args.netlist.now c.args.id c.index-lines-k.result
    (line_in c.args.netlist.now c.args.id c.readers-lines.result.now c.loop-k.k c.index-lines-k.result c.readers-lines.ensures c.loop-k-test.true c.index-lines-k.is) c.in_default.ensures

pub returns-in_err-mark_differing-clause-spreads : goal.returns-in_err-mark_differing-clause-spreads
returns-in_err-mark_differing-clause-spreads c =
    spreads_passer c.args.netlist.now c.requires.sound c.args.told.now c.args.id c.index-lines-k.result
    (line_in c.args.netlist.now c.args.id c.readers-lines.result.now c.loop-k.k c.index-lines-k.result c.readers-lines.ensures c.loop-k-test.true c.index-lines-k.is)
    (marked c.args.marks.now.items c.args.list.now.items) (marked c.loop-k.marks.items c.loop-k.list.items) (marked c.mark_differing.new.marks.items c.mark_differing.new.list.items)
    c.in-Some.gate c.in-Some.ensures.1.0 c.in-Some.ensures.0 c.in-Some.ensures.1.1 c.loop-k.invariant.spreads c.in_err-mark_differing.ensures.spreads

pub loop-k-preserved : goal.loop-k-preserved
loop-k-preserved c =
    let n = c.args.netlist.now in
    let told = c.args.told.now in
    let lines = c.readers-lines.result.now in
    let line = c.index-lines-k.result in
    let there = line_in n c.args.id lines c.loop-k.k line c.readers-lines.ensures c.loop-k-test.true c.index-lines-k.is in
    let s = c.in_ok-mark_differing.ensures.spreads in
    record {
      spreads = spreads_passer n c.requires.sound told c.args.id line there (marked c.args.marks.now.items c.args.list.now.items) (marked c.loop-k.marks.items c.loop-k.list.items)
          (marked c.mark_differing.new.marks.items c.mark_differing.new.list.items) c.in-Some.gate c.in-Some.ensures.1.0 c.in-Some.ensures.0 c.in-Some.ensures.1.1 c.loop-k.invariant.spreads s;
      passed = lines_more n told lines c.loop-k.k line c.loop-k.marks.items c.mark_differing.new.marks.items c.loop-k-test.true c.index-lines-k.is s.kept
          (c.in-Some.gate, (c.in-Some.ensures.1.0, c.in-Some.ensures.1.1), c.in-Some.ensures.0, c.in_ok-mark_differing.ensures.here) c.loop-k.invariant.passed;
    }

pub returns-clause-so : goal.returns-clause-so
returns-clause-so c =
    lines_passed c.args.netlist.now c.requires.sound c.args.told.now c.args.id c.readers-lines.result.now c.loop-k.k (marked c.loop-k.marks.items c.loop-k.list.items) c.readers-lines.ensures
    c.loop-k-test.false c.loop-k.invariant.passed
