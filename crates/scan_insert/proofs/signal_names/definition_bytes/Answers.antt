use Rattle.std.proofs.Common.{◌<◌, length, subst, sym, ℕ}
use Rattle.statement.specs.Netlists.{signals}
use Rattle.scan_insert.proofs.Making.{item_below}
use Rattle.scan_insert.proofs.signal_names.definition_bytes.Goals as goal

pub name-requires : goal.name-requires
name-requires c =
    let n = c.args.netlist.now in
    subst (λ (x : ℕ). x < length (signals n)) (sym c.id.ensures)
    (item_below n c.requires.formed.numbered c.definitions-definition-items.result.now c.loop-definition.definition-index c.definition-item.result
    c.definitions-definition-items.ensures c.loop-definition-test.true c.definition-item.is)
