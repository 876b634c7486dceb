use Rattle.std.proofs.Common.{false, get_or, sym, ◌∙◌, ap}
use Rattle.transition_batches.proofs.Making.{unmarked_read}
use Rattle.transition_batches.proofs.reading.read.Goals as goal

pub returns : goal.returns
returns c =
    let marks = c.args.marks.now in
    c.second.ensures ∙ sym (unmarked_read c.args.netlist.now c.args.faults.now marks c.args.line.now c.args.x c.requires.marked c.requires.own
    (ap (λ i. get_or marks i false) (sym c.index.ensures) ∙ c.if-marks-index.false))
