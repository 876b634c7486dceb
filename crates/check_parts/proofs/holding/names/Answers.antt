use Rattle.check_parts.proofs.HeldLemmas.{names_by}
use Rattle.check_parts.proofs.holding.names.Goals as goal

pub returns : goal.returns
returns c =
    names_by c.args.netlist.now c.args.lines.now c.args.next c.args.input (record { name = c.get.result.name.now; bit = c.get.result.bit }) c.name.result.now c.eq.result c.get.ensures c.name.ensures c.eq.ensures
