use Rattle.std.proofs.Common.{ap, sym, ◌∙◌}
use Rattle.statement.specs.Netlists.{is_flip_flop}
use Rattle.cell_order.proofs.OrderedLemmas.{above, below, first_is, next_cell, no_cell_here, none_next}
use Rattle.cell_order.proofs.writing.next_of.Goals as goal

pub definition-requires-clause-defined : goal.definition-requires-clause-defined
definition-requires-clause-defined c =
    let n = c.args.netlist.now in
    above n c.sound.ensures c.in-Some.cell.now (first_is n c.sound.ensures c.in-Some.cell.now c.in-Some.others.now c.args.next.now c.in-Some.ensures.cases.0 c.requires.cells)

pub definition-requires-clause-within : goal.definition-requires-clause-within
definition-requires-clause-within c =
    let n = c.args.netlist.now in
    below n c.sound.ensures c.in-Some.cell.now (first_is n c.sound.ensures c.in-Some.cell.now c.in-Some.others.now c.args.next.now c.in-Some.ensures.cases.0 c.requires.cells)

pub returns-in_default : goal.returns-in_default
returns-in_default c = none_next c.args.netlist.now c.sound.ensures c.args.equation.now c.args.next.now c.requires.member c.requires.cells c.in_default.ensures.cases

pub returns-then-not-is_flip_flop : goal.returns-then-not-is_flip_flop
returns-then-not-is_flip_flop c =
    no_cell_here c.args.netlist.now c.sound.ensures c.args.equation.now c.args.next.now c.requires.member c.requires.cells
    (sym (ap is_flip_flop c.kind.ensures) ∙ (sym c.is_flip_flop.ensures ∙ c.if-not-is_flip_flop.true))

pub returns : goal.returns
returns c =
    next_cell c.args.netlist.now c.sound.ensures c.args.equation.now c.args.next.now c.requires.member c.requires.cells c.in-Some.cell.now c.in-Some.others.now c.definition.result.now
    c.in-Some.ensures.cases.0 (sym (ap is_flip_flop c.kind.ensures) ∙ (sym c.is_flip_flop.ensures ∙ c.if-not-is_flip_flop.false)) c.definition.ensures.member c.definition.ensures.same
