use Rattle.cubes.proofs.MergeLemmas.{joining_adds, beginning_adds}
use Rattle.cubes.proofs.merging.add.Goals as goal

pub returns-in-Some : goal.returns-in-Some
returns-in-Some c =
    joining_adds c.args.cube.now c.args.results.now.items c.deref.result.now c.in-Some.place c.index_mut.result.now c.join.new.self
    c.deref.ensures.value c.in-Some.ensures c.index_mut.ensures.value c.join.ensures

pub returns-in_ok-push-in-None : goal.returns-in_ok-push-in-None
returns-in_ok-push-in-None c =
    beginning_adds c.args.cube.now c.in_ok-copy-in-None.field-0 c.args.results.now.items c.deref.result.now c.push.new.self.items
    c.deref.ensures.value c.in-None.ensures c.in_ok-copy-in-None.ensures c.in_ok-push-in-None.ensures.items
