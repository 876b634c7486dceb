use Rattle.std.proofs.Common.{◌<◌, length, arith}
use Rattle.transition.proofs.BatchLemmas.{one_more_gathered}
use Rattle.transition.proofs.batching.join.Goals as goal

pub returns-in_ok-push-2 : goal.returns-in_ok-push-2
returns-in_ok-push-2 g c =
    let old = c.args.batch.now in
    let few : length old.slow.items < 1024 = (let l = c.if-len-most.false in let m = c.len.ensures in let o = c.requires.most in let s = old.slow.ok.0 in omega arith) in
    one_more_gathered c.args.task.now c.args.first (length c.args.slots.now) old.places.items c.push.new.self.items old.slow.items c.deref.result.now c.push-in-Some.new.self.items
    c.args.k c.in-Some.fault c.requires.had c.in_ok-push.ensures.items c.in_ok-push-2.ensures.items c.deref.ensures.value c.in-Some.ensures c.requires.within few
