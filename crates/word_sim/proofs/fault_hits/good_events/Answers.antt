use Rattle.std.proofs.Common.{sym, subst}
use Rattle.word_sim.specs.inner.Packed.{AreGoodFor}
use Rattle.word_sim.proofs.fault_hits.good_events.Goals as goal

pub returns-clause-good : goal.returns-clause-good
returns-clause-good c = subst (AreGoodFor c.args.core.now c.args.patterns.now) (sym c.in_ok-events.ensures.1) c.in_ok-values.ensures.good
