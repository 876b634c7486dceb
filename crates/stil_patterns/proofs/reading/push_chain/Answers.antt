use Rattle.std.proofs.Common.{◌<◌, ◌-◌, length, get_or, refl, arith}
use Rattle.stil_patterns.proofs.ReadLemmas.{chain_end, chain_more}
use Rattle.stil_patterns.proofs.reading.push_chain.Goals as goal

pub loop-k-preserved : goal.loop-k-preserved
loop-k-preserved c =
    let word = c.args.word.now in
    let test = c.loop-k-test.true in
    let least = c.min-k-end.ensures in
    let l : c.loop-k.k < length word = omega (arith, test, least) in
    chain_more word c.loop-k.k (get_or word (length word - 1 - c.loop-k.k) 0) c.args.cells.now.items c.loop-k.cells.items c.push.new.self.items l refl c.loop-k.invariant c.in_ok-push.ensures.items

pub returns : goal.returns
returns c =
    let test = c.loop-k-test.false in
    let auto = c.loop-k.auto.k-end in
    let least = c.min-k-end.ensures in
    chain_end c.args.word.now c.args.count c.loop-k.k c.args.cells.now.items c.loop-k.cells.items (omega (arith, test, auto, least)) c.loop-k.invariant
