use Rattle.std.proofs.Common.{◌-◌, subst, arith}
use Rattle.netlist.specs.Conditions.{IsSound}
use Rattle.stil_patterns.proofs.AddLemmas.{begun_more, part_at}
use Rattle.stil_patterns.proofs.applying.push_part.Goals as goal

pub loop-k-preserved : goal.loop-k-preserved
loop-k-preserved c =
    let n = c.args.core.now in
    let k = c.loop-k.k in
    let ps = c.args.patterns.now in
    let p = c.index-patterns-k.result in
    let from = c.loop-k.invariant.from in
    let before = c.loop-k-test.true in
    let within = c.requires.end in
    let told = c.in_ok-words.ensures (k - c.args.start) p (part_at ps c.args.start c.args.end k p from before within c.index-patterns-k.is) in
    record {
      from = omega (arith, from);
      begun = begun_more n c.args.chains.now (subst IsSound c.netlist.ensures c.sound.ensures) c.requires.cells ps k p c.loop-k.items c.push_test.new.items c.loop-k.held.items c.push_test.new.held.items
          (omega (arith, before, within)) c.index-patterns-k.is c.loop-k.invariant.begun
          (c.in_ok-push_test.ensures n (record { values = told.0; settles = told.1; outputs = told.2; cells = told.3 }));
    }
