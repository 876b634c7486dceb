use Rattle.std.proofs.Common.{◌∙◌, sym, subst}
use Rattle.netlist.specs.Conditions.{IsSound}
use Rattle.cell_order.proofs.NameLemmas.{no_cell}
use Rattle.cell_order.proofs.naming.cell_named.Goals as goal

pub returns-else-is_marked : goal.returns-else-is_marked
returns-else-is_marked c =
    no_cell c.args.names.now (subst IsSound c.netlist.ensures c.sound.ensures) c.args.name.now c.args.is_cell.now c.in-Some.signal c.requires.cells c.in-Some.ensures.0 c.in-Some.ensures.1
    (sym c.is_marked.ensures ∙ c.if-is_marked.false)
