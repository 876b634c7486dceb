use Rattle.std.proofs.Common.{◌<◌, ◌++◌, ◌∙◌, ap, length, map, refl, List}
use Rattle.statement.specs.Benches.{Text}
use Rattle.statement.specs.Netlists.{name_of, signals}
use Rattle.netlist.proofs.Settling.{cells_below}
use Rattle.statement.specs.Tests.{cells_of}
use Rattle.scan_insert.proofs.Dealing.{stitched_cells}
use Rattle.scan_insert.specs.Scanned.{cell_ids}
use Rattle.scan_insert.proofs.Making.{cells_of_chain}
use Rattle.stil_patterns.proofs.WordLemmas.{got_more}
use Rattle.stil_patterns.proofs.names.chain_names.Goals as goal

pub push_names-requires : goal.push_names-requires
push_names-requires c =
    let n = c.args.netlist.now in
    let chains = c.args.chains.now in
    cells_of_chain (λ x. x < length (signals n)) chains c.loop-c.c c.chain.result.now
    (cells_below n c.sound.ensures.formed.numbered (cells_of chains) (length (signals n)) (ap cells_of c.requires.are ∙ stitched_cells (cell_ids n) c.requires.asked c.requires.some) refl)
    c.chain.ensures

pub loop-c-preserved : goal.loop-c-preserved
loop-c-preserved c =
    let n = c.args.netlist.now in
    got_more (map (name_of n)) c.args.chains.now c.loop-c.c c.chain.result.now c.loop-c.all.items c.push.new.self.items c.push_names.new.names c.chain.ensures
    (c.in_ok-push_names.ensures ∙ ap (λ (ts : List Text). ts ++ map (name_of n) c.chain.result.now) c.new-names.ensures) c.loop-c.invariant c.in_ok-push.ensures.items
