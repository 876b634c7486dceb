use Rattle.std.proofs.Common.{◌-◌, List, [], ◌∷◌, ◌++◌, None, length, take, set, refl, ap, sym, ◌∙◌, subst, arith}
use Rattle.redundancy_cert.specs.declared.steps.Step.{Step}
use Rattle.redundancy_cert.proofs.StepLemmas.{at_last, taken_back, same_run, same_then}
use Rattle.redundancy_cert.proofs.steps.unwind.Goals as goal

pub loop-k-preserved : goal.loop-k-preserved
loop-k-preserved c =
    let items : List Step = c.args.path.now.items in
    let s : Step = c.index-step.result.now in
    let at = at_last c.loop-k.pass items c.loop-k.k s (let a = c.loop-k-test.true in omega arith) (let b = c.loop-k.auto.k in omega arith) c.index-step.ensures c.loop-k.invariant.at in
    record {
      items = refl;
      same = same_then c.args.pass.now c.loop-k.pass c.decide.new.self c.loop-k.invariant.same
          (same_run c.loop-k.pass c.decide.new.self (set c.loop-k.pass.decided s.signal None) c.decide.new.self.values c.decide.ensures);
      at = taken_back c.loop-k.pass c.decide.new.self (take (c.loop-k.k - 1) items) s None c.standing.ensures at c.decide.ensures refl;
    }
