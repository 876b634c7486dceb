use Rattle.std.proofs.Common.{◌∙◌, ◌∷◌, refl, sym, subst}
use Rattle.tri.specs.Paths.{IsGoingPath}
use Rattle.pair_sim.specs.Sims.{Sim}
use Rattle.decisions.specs.Climbing.{IsAtEnd}
use Rattle.decisions.proofs.Standing.{seen}
use Rattle.podem.specs.inner.Searching.{IsTestAt}
use Rattle.podem.proofs.Looked.{end_looked, end_seen, going_assigned, own_going, stepped}
use Rattle.podem.proofs.Steps.{test_there, may_decide, split}
use Rattle.podem.proofs.searching.hurry.Goals as goal

pub returns-in-Test : goal.returns-in-Test
returns-in-Test c = (test_there c.requires c.go.new.labels c.args.side.bit c.in-Test.point c.in-Test.ensures.0 c.in-Test.ensures.1, tt)

pub after_closed-requires-clause-end : goal.after_closed-requires-clause-end
after_closed-requires-clause-end c =
    subst (λ (r : Sim). IsAtEnd r.fault r.netlist r.holds r c.args.stack.now.items) (sym c.in-Blocked.ensures.0) (end_looked c.args.case.now c.requires.on.at)

pub returns-in-Going : goal.returns-in-Going
returns-in-Going c =
    let w = may_decide c.requires in
    stepped _ _ c.push.result
    (own_going c.requires (IsTestAt c.args.case.now) c.args.side.bit c.go.new.labels c.push.new.stack.items c.push.result
    (seen w IsGoingPath c.args.side.bit c.in-Going.ensures.1) c.in-Going.ensures.0 c.push.ensures)
    (end_seen c.push.result c.go.new.labels (going_assigned c.args.labels.now c.go.new.labels c.args.side.signal c.args.side.bit c.in-Going.ensures.0 c.in-Going.ensures.1))
