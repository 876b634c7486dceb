use Rattle.refutation.specs.Refutations.{LeavesNothing}
use Rattle.refutation_check.specs.inner.Sweeps.{IsReaderLooked}
use Rattle.refutation_check.proofs.CheckLemmas.{at_true, at_false}
use Rattle.refutation_check.proofs.Looks.{nothing_before, readers_all, readers_more, readers_none}
use Rattle.refutation_check.proofs.MarkLemmas.{line_in, reader_defined}
use Rattle.refutation_check.proofs.TrailLemmas.{grows_none, grows_then}
use Rattle.refutation_check.proofs.sweeps.look_at_readers.Goals as goal

pub look_at_reader-requires-clause-defined : goal.look_at_reader-requires-clause-defined
look_at_reader-requires-clause-defined c =
    reader_defined c.args.netlist.now c.args.id c.index-lines-k.result
    (line_in c.args.netlist.now c.args.id c.readers-lines.result.now c.loop-k.k c.index-lines-k.result c.readers-lines.ensures c.loop-k-test.true c.index-lines-k.is)

pub returns-in_err-some-clause-grows : goal.returns-in_err-some-clause-grows
returns-in_err-some-clause-grows c = grows_then c.args.sets.now c.loop-k.sets c.look_at_reader.new.sets c.loop-k.invariant.grows c.in_err-some.ensures.grows

pub returns-then-not-some-clause-grows : goal.returns-then-not-some-clause-grows
returns-then-not-some-clause-grows c = grows_then c.args.sets.now c.loop-k.sets c.look_at_reader.new.sets c.loop-k.invariant.grows c.in_ok-some.ensures.grows

pub returns-then-not-some-clause-so : goal.returns-then-not-some-clause-so
returns-then-not-some-clause-so c =
    let n = c.args.netlist.now in
    let f = c.args.fault.now in
    let now = c.loop-k.sets in
    nothing_before n f c.args.sets.now.told now.told c.loop-k.invariant.looked.narrows.keeps
    (at_false c.in_ok-some.some (IsReaderLooked n f now c.index-lines-k.result c.look_at_reader.new.sets) (LeavesNothing n f now.told) c.in_ok-some.ensures.so c.if-not-some.true)

pub loop-k-init : goal.loop-k-init
loop-k-init c = record { grows = grows_none c.args.sets.now; looked = readers_none c.args.netlist.now c.args.fault.now c.args.sets.now c.readers-lines.result.now }

pub loop-k-preserved : goal.loop-k-preserved
loop-k-preserved c =
    let n = c.args.netlist.now in
    let f = c.args.fault.now in
    let old = c.args.sets.now in
    let now = c.loop-k.sets in
    let new = c.look_at_reader.new.sets in
    let line = c.index-lines-k.result in
    record {
      grows = grows_then old now new c.loop-k.invariant.grows c.in_ok-some.ensures.grows;
      looked = readers_more n f old now new c.readers-lines.result.now c.loop-k.k line c.loop-k-test.true c.index-lines-k.is c.loop-k.invariant.grows c.in_ok-some.ensures.grows
          c.loop-k.invariant.looked (at_true c.in_ok-some.some (IsReaderLooked n f now line new) (LeavesNothing n f now.told) c.in_ok-some.ensures.so c.if-not-some.false);
    }

pub returns-clause-so : goal.returns-clause-so
returns-clause-so c =
    readers_all c.args.netlist.now c.args.fault.now c.args.sets.now c.loop-k.sets c.args.id c.readers-lines.result.now c.loop-k.k c.readers-lines.ensures c.loop-k-test.false
    c.loop-k.invariant.looked
