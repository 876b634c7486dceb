use Rattle.std.proofs.Common.{◌<◌, length, subst, sym, ℕ}
use Rattle.statement.specs.Netlists.{signals}
use Rattle.scan_insert.proofs.Making.{item_below}
use Rattle.unknown_inputs.proofs.names.push_definitions.Goals as goal

pub push_name-requires : goal.push_name-requires
push_name-requires c =
    subst (λ (x : ℕ). x < length (signals c.args.netlist.now)) (sym c.id.ensures)
    (item_below c.args.netlist.now c.requires.formed.numbered c.definitions-definition-items.result.now c.loop-definition.definition-index c.definition-item.result
    c.definitions-definition-items.ensures c.loop-definition-test.true c.definition-item.is)
