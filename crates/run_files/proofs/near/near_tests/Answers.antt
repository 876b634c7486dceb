use Rattle.run_files.proofs.NearLemmas.{kept_obey}
use Rattle.run_files.proofs.near.near_tests.Goals as goal

pub returns : goal.returns
returns g c =
    let t = c.args.turning.now in
    record {
      obey = kept_obey t.core.now c.netlist.result.now t.holds.now t.most _ c.in_ok-near.near.items c.deref.result.now c.in_ok-tests.tests.items c.in_ok-tests.ensures.few c.if-not-are_patterns.ensures
          c.netlist.ensures c.deref.ensures.value;
    }
