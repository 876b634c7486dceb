use Rattle.stil_patterns.proofs.AddLemmas.{file_made}
use Rattle.stil_patterns.proofs.pattern_files.parts_with.Goals as goal

pub returns : goal.returns
returns c =
    file_made c.args.core.now c.netlist-netlist.result.now c.args.holds.now c.args.chains.now c.count-count.result
    c.in-Ok.pi c.in_ok-po.po c.in-Ok-chain_names.names.items c.in-Ok-shift_word.word.items c.args.items
    c.netlist-netlist.ensures c.count-count.ensures c.in-Ok.ensures c.in_ok-po.ensures c.in-Ok-chain_names.ensures c.in-Ok-shift_word.ensures
