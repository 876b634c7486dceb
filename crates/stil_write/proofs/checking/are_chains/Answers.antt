use Rattle.std.proofs.Common.{◌≤◌, length, sym, ◌∙◌}
use Rattle.std.specs.List.{All}
use Rattle.std.proofs.lemmas.Option.{slice_get_read}
use Rattle.std.proofs.Common.{refl}
use Rattle.stil_write.specs.StilFiles.{IsStilName}
use Rattle.stil_write.proofs.FormLemmas.{some_if}
use Rattle.stil_write.proofs.LoopLemmas.{all_at_end, all_more}
use Rattle.stil_write.proofs.checking.are_chains.Goals as goal

pub loop-chain-preserved : goal.loop-chain-preserved
loop-chain-preserved c =
    let here = slice_get_read c.args.chains.now (length c.args.chains.now) c.loop-chain.chain-index c.chain-item.result refl c.loop-chain-test.true c.chain-item.is in (
      all_more (λ chain. 1 ≤ length chain) c.args.chains.now c.loop-chain.chain-index c.chain-item.result here c.loop-chain.invariant.0 (some_if c.chain-item.result (sym c.is_empty.ensures ∙ c.if-is_empty.false)),
      all_more (All IsStilName) c.args.chains.now c.loop-chain.chain-index c.chain-item.result here c.loop-chain.invariant.1 c.if-not-are_names.ensures,
    )

pub returns : goal.returns
returns c = (
  all_at_end (λ chain. 1 ≤ length chain) c.args.chains.now c.loop-chain.chain-index c.loop-chain-test.false c.loop-chain.invariant.0,
  all_at_end (All IsStilName) c.args.chains.now c.loop-chain.chain-index c.loop-chain-test.false c.loop-chain.invariant.1,
)
