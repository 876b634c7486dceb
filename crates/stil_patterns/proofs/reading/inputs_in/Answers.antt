use Rattle.std.proofs.Common.{◌<◌, length, get_or, refl, arith}
use Rattle.stil_patterns.proofs.ReadLemmas.{inputs_end, inputs_more}
use Rattle.stil_patterns.proofs.reading.inputs_in.Goals as goal

pub loop-k-preserved : goal.loop-k-preserved
loop-k-preserved c =
    let word = c.args.word.now in
    let test = c.loop-k-test.true in
    let left = c.saturating_sub-k-end.ensures in
    let l : c.loop-k.k < length word = omega (arith, test, left) in
    inputs_more word c.loop-k.k (get_or word c.loop-k.k 0) c.loop-k.inputs.items c.push.new.self.items l refl c.loop-k.invariant c.in_ok-push.ensures.items

pub returns : goal.returns
returns c =
    let test = c.loop-k-test.false in
    let auto = c.loop-k.auto.k-end in
    let left = c.saturating_sub-k-end.ensures in
    inputs_end c.args.count c.args.word.now c.loop-k.k c.min-once.result c.loop-k.inputs.items c.min-once.ensures (omega (arith, test, auto, left)) c.loop-k.invariant
