use Rattle.std.proofs.Common.{length, refl}
use Rattle.std.proofs.lemmas.Option.{slice_get_read}
use Rattle.stil_write.proofs.PieceLemmas.{blocks_more}
use Rattle.stil_write.proofs.pieces.push_chains.Goals as goal

pub loop-chain-preserved : goal.loop-chain-preserved
loop-chain-preserved c =
    blocks_more c.args.chains.now c.loop-chain.chain c.index-chains-chain.result c.args.out.now.items c.loop-chain.out.items c.push_chain.new.out.items
    (slice_get_read c.args.chains.now (length c.args.chains.now) c.loop-chain.chain c.index-chains-chain.result refl c.loop-chain-test.true c.index-chains-chain.is) c.loop-chain.invariant c.in_ok-push_chain.ensures
