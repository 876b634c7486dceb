use Rattle.std.proofs.Common.{◌<◌, length, arith}
use Rattle.stil_patterns.proofs.WordLemmas.{idle_more}
use Rattle.stil_patterns.proofs.names.shift_word.Goals as goal

pub loop-k-preserved : goal.loop-k-preserved
loop-k-preserved c =
    let holds = c.args.holds.now in
    let within : c.loop-k.k < length holds = (let t = c.loop-k-test.true in let r = c.requires.all in omega (arith, t, r)) in
    idle_more holds c.loop-k.k c.held.result c.loop-k.word.items c.push.new.self.items c.idle_char.result within c.held.ensures c.loop-k.invariant c.idle_char.ensures c.in_ok-push.ensures.items
