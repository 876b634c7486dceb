use Rattle.std.proofs.Common.{◌∙◌, sym}
use Rattle.grade.proofs.Turned.{spotted_from}
use Rattle.grade.proofs.spotting.spot_within.Goals as goal

pub returns-then-has_bit-clause-first : goal.returns-then-has_bit-clause-first
returns-then-has_bit-clause-first c =
    spotted_from c.args.events.now.netlist c.netlist-netlist.result.now c.args.timing.now.chains.now c.args.events.now.values c.values.result.now c.args.fault.now _ _ c.args.j c.spot_turned.result
    (c.netlist-netlist.ensures ∙ c.core.ensures) c.values.ensures.values c.requires.line c.in-Some.ensures (sym c.has_bit.ensures ∙ c.if-has_bit.true) c.spot_turned.ensures.first
