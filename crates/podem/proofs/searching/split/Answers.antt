use Rattle.std.proofs.Common.{not, sym, subst}
use Rattle.pair_sim.specs.Sims.{Sim}
use Rattle.decisions.specs.Climbing.{IsAtEnd}
use Rattle.podem.proofs.Looked.{end_looked}
use Rattle.podem.proofs.Steps.{test_there}
use Rattle.podem.proofs.searching.split.Goals as goal

pub returns-in-Test : goal.returns-in-Test
returns-in-Test c = (test_there c.requires c.look.new.labels (not c.args.side.bit) c.in-Test.point c.in-Test.ensures.0 c.in-Test.ensures.1, tt)

pub after_closed-requires-clause-end : goal.after_closed-requires-clause-end
after_closed-requires-clause-end c =
    subst (λ (r : Sim). IsAtEnd r.fault r.netlist r.holds r c.args.stack.now.items) (sym c.in-Blocked.ensures.0) (end_looked c.args.case.now c.requires.on.at)
