use Rattle.std.proofs.Common.{take}
use Rattle.stil_write.specs.StilFiles.{item_at, words_of}
use Rattle.stil_patterns.proofs.ReadLemmas.{read_more}
use Rattle.stil_patterns.proofs.reading.cells_in.Goals as goal

pub loop-c-preserved : goal.loop-c-preserved
loop-c-preserved c =
    read_more c.args.chains.now c.loop-c.c c.chain.result.now (take c.args.count (words_of (item_at c.args.items.now c.args.place))) c.scan_word-word.result.now c.loop-c.cells.items c.push_chain.new.cells.items
    c.chain.ensures c.scan_word-word.ensures c.loop-c.invariant c.in_ok-push_chain.ensures
