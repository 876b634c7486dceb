use Rattle.std.proofs.Common.{subst}
use Rattle.netlist.specs.Conditions.{IsSound}
use Rattle.redundancy_cert.proofs.KeptLemmas.{started}
use Rattle.redundancy_cert.proofs.passes.Pass.new.Goals as goal

pub invariant_of-result : goal.invariant_of-result
invariant_of-result c =
    started c.args.core.now c.args.holds.now (subst IsSound c.netlist.ensures c.sound.ensures) c.in_ok-events.events c.in_ok-labelling.labelling c.in_ok-values.values.items
    c.in_ok-observed.observed.items c.in_ok-events.ensures.0 c.in_ok-events.ensures.1 c.in_ok-events.ensures.2 c.in_ok-labelling.ensures c.in_ok-values.ensures c.in_ok-observed.ensures
    c.requires
