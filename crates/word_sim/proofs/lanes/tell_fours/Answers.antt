use Rattle.std.proofs.Common.{◌∙◌, sym, subst}
use Rattle.word_sim.specs.inner.Groups.{IsBeside, IsSpread}
use Rattle.word_sim.proofs.lanes.tell_fours.Goals as goal

pub tell_four-requires-clause-beside : goal.tell_four-requires-clause-beside
tell_four-requires-clause-beside c = subst (IsSpread c.args.events.now.netlist c.args.events.now.values) (sym c.loop-at.invariant.0) c.requires.beside

pub loop-at-preserved : goal.loop-at-preserved
loop-at-preserved c = (c.tell_four.ensures.same ∙ c.loop-at.invariant.0, c.tell_four.ensures.told)

pub returns-clause-beside : goal.returns-clause-beside
returns-clause-beside c = subst (IsBeside c.args.events.now.netlist) (sym c.loop-at.invariant.0) c.requires.beside.beside
