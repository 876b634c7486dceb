use Rattle.fault_universe.proofs.NamedLines.{no_out}
use Rattle.fault_universe.proofs.named_faults.out_named.Goals as goal

pub returns-in-None : goal.returns-in-None
returns-in-None g c = no_out (g.N.SignalNames.named c.args.names.now) c.sound.ensures c.args.name.now c.in-None.ensures
