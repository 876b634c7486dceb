use Rattle.scan_insert.proofs.Making.{item_below}
use Rattle.scan_insert.proofs.signal_names.push_definitions.Goals as goal

pub push_definition-requires : goal.push_definition-requires
push_definition-requires c = record {
  within = item_below c.args.netlist.now c.requires.formed.numbered c.definitions-definition-items.result.now c.loop-definition.definition-index c.definition-item.result
      c.definitions-definition-items.ensures c.loop-definition-test.true c.definition-item.is;
}
