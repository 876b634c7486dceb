use Rattle.fault_universe.proofs.NamedLines.{no_stem}
use Rattle.fault_universe.proofs.named_faults.stem_named.Goals as goal

pub returns-in-None : goal.returns-in-None
returns-in-None g c = no_stem (g.N.SignalNames.named c.args.names.now) c.sound.ensures c.args.name.now c.in-None.ensures
