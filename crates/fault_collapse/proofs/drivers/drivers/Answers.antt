use Rattle.std.proofs.Common.{◌≡◌, ◌+◌, ◌∙◌, ap, length, refl, arith}
use Rattle.fault_collapse.proofs.DriverTables.{definition_number, one_more_driver}
use Rattle.fault_collapse.proofs.Stems.{lines_before, lines_within, more_lines}
use Rattle.fault_universe.specs.Universe.{branching}
use Rattle.statement.specs.Netlists.{readers_of}
use Rattle.fault_collapse.proofs.drivers.drivers.Goals as goal

pub overflow_cast-next : goal.overflow_cast-next
overflow_cast-next c =
    let n = c.args.netlist.now in
    let number = definition_number n c.sound.ensures.formed.numbered c.definitions-definition-items.result.now c.definitions-definition-items.ensures c.loop-definition.definition-index
    c.definition-item.result c.loop-definition-test.true c.definition-item.is in
    let h = lines_within n c.sound.ensures.formed.numbered _ _ refl number.1 (branching (readers_of n (length n.inputs + c.loop-definition.definition-index))) refl in
    let i = c.loop-definition.invariant.next in
    omega arith

pub branches-requires : goal.branches-requires
branches-requires c =
    let n = c.args.netlist.now in
    let number = definition_number n c.sound.ensures.formed.numbered c.definitions-definition-items.result.now c.definitions-definition-items.ensures c.loop-definition.definition-index
    c.definition-item.result c.loop-definition-test.true c.definition-item.is in
    omega (arith, number.0, number.1, c.id.ensures)

pub overflow_add-next-in-loop-definition : goal.overflow_add-next-in-loop-definition
overflow_add-next-in-loop-definition c =
    let n = c.args.netlist.now in
    let number = definition_number n c.sound.ensures.formed.numbered c.definitions-definition-items.result.now c.definitions-definition-items.ensures c.loop-definition.definition-index
    c.definition-item.result c.loop-definition-test.true c.definition-item.is in
    let h = lines_within n c.sound.ensures.formed.numbered _ c.id.result (c.id.ensures ∙ number.0) number.1 c.branches.result.now c.branches.ensures in
    let i = c.loop-definition.invariant.next in
    omega arith

pub loop-definition-preserved : goal.loop-definition-preserved
loop-definition-preserved c =
    let n = c.args.netlist.now in
    let number = definition_number n c.sound.ensures.formed.numbered c.definitions-definition-items.result.now c.definitions-definition-items.ensures c.loop-definition.definition-index
    c.definition-item.result c.loop-definition-test.true c.definition-item.is in
    let h = more_lines n c.sound.ensures.formed.numbered _ c.id.result (c.id.ensures ∙ number.0) number.1 c.branches.result.now c.branches.ensures in
    let i = c.loop-definition.invariant in
    let at : length n.inputs + (c.loop-definition.definition-index + 1) ≡ length n.inputs + c.loop-definition.definition-index + 1 = omega arith in
    let more = ap (lines_before n) at in
    record {
      size = omega (arith, c.in_ok-push.ensures.len, i.size);
      next = omega (arith, i.next);
      first = one_more_driver n c.sound.ensures.formed.numbered c.definitions-definition-items.result.now c.definitions-definition-items.ensures c.loop-definition.definition-index
          c.definition-item.result c.loop-definition-test.true c.definition-item.is c.loop-definition.drivers.items _ _ (omega (arith, i.size)) c.kind.ensures i.next c.in_ok-push.ensures.items i.first;
    }
