use Rattle.std.proofs.Common.{◌<◌, length, subst, sym, refl, ℕ}
use Rattle.netlist.proofs.Settling.{pins_within}
use Rattle.scan_insert.proofs.Making.{item_below, item_contained}
use Rattle.scan_insert.proofs.parts.push_definitions.Goals as goal

pub push_scan_cell-requires-clause-within : goal.push_scan_cell-requires-clause-within
push_scan_cell-requires-clause-within c = subst (λ (m : ℕ). c.definition-item.result.id < m) (sym c.requires.size)
    (item_below c.args.netlist.now c.requires.sound.formed.numbered c.definitions-definition-items.result.now c.loop-definition.definition-index c.definition-item.result
    c.definitions-definition-items.ensures c.loop-definition-test.true c.definition-item.is)

pub moved_gate-requires-clause-within : goal.moved_gate-requires-clause-within
moved_gate-requires-clause-within c = subst (λ (m : ℕ). c.definition-item.result.id < m) (sym c.requires.size)
    (item_below c.args.netlist.now c.requires.sound.formed.numbered c.definitions-definition-items.result.now c.loop-definition.definition-index c.definition-item.result
    c.definitions-definition-items.ensures c.loop-definition-test.true c.definition-item.is)

pub push_scan_cell-requires-clause-pins : goal.push_scan_cell-requires-clause-pins
push_scan_cell-requires-clause-pins c =
    pins_within c.args.netlist.now c.requires.sound.formed.numbered c.requires.sound.closed c.definition-item.result
    (item_contained c.args.netlist.now c.definitions-definition-items.result.now c.loop-definition.definition-index c.definition-item.result
    c.definitions-definition-items.ensures c.loop-definition-test.true c.definition-item.is)
    c.definition-item.result.pins (length c.args.sites.now) refl c.requires.size

pub moved_gate-requires-clause-pins : goal.moved_gate-requires-clause-pins
moved_gate-requires-clause-pins c =
    pins_within c.args.netlist.now c.requires.sound.formed.numbered c.requires.sound.closed c.definition-item.result
    (item_contained c.args.netlist.now c.definitions-definition-items.result.now c.loop-definition.definition-index c.definition-item.result
    c.definitions-definition-items.ensures c.loop-definition-test.true c.definition-item.is)
    c.definition-item.result.pins (length c.args.sites.now) refl c.requires.size
