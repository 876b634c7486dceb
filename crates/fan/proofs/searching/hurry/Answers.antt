use Rattle.std.proofs.Common.{sym, subst}
use Rattle.tri.specs.Paths.{IsClosedPath}
use Rattle.pair_sim.specs.Sims.{Sim}
use Rattle.head_lines.specs.Justified.{IsMetAt}
use Rattle.decisions.proofs.Standing.{seen}
use Rattle.fan.specs.inner.Searching.{IsAt}
use Rattle.fan.proofs.Looked.{end_seen, open_assigned, own_going, stepped}
use Rattle.fan.proofs.Steps.{test_there, chosen_back, may_decide, split}
use Rattle.fan.proofs.searching.hurry.Goals as goal

pub returns-in-Test : goal.returns-in-Test
returns-in-Test c = (test_there c.requires.chosen c.go.new.labels c.args.side.bit c.in-Test.point c.in-Test.ensures.0 c.in-Test.ensures.1, tt)

pub after_closed-requires-clause-at : goal.after_closed-requires-clause-at
after_closed-requires-clause-at c = subst (λ (s : Sim). IsAt c.args.roled.now s c.args.stack.now.items) (sym c.in-Blocked.ensures.0) c.requires.at

pub after_closed-requires-clause-chosen : goal.after_closed-requires-clause-chosen
after_closed-requires-clause-chosen c = chosen_back c.requires.chosen c.go.new.labels c.in-Blocked.ensures.0

pub after_closed-requires-clause-closed : goal.after_closed-requires-clause-closed
after_closed-requires-clause-closed c =
    seen (may_decide c.args.roled.now c.requires.at c.requires.chosen) IsClosedPath c.args.side.bit c.in-Blocked.ensures.1

pub returns-in-Going : goal.returns-in-Going
returns-in-Going c =
    let k = c.args.roled.now.case in
    stepped _ _ c.push.result
    (own_going c.args.roled.now c.requires.hurries c.requires.at c.requires.chosen.free (split c.args.roled.now c.requires.at c.requires.chosen c.requires.place)
    (IsMetAt k.fault k.core.now k.holds.now) c.args.side.bit c.go.new.labels c.push.new.stack.items c.push.result c.in-Going.ensures.0 c.push.ensures)
    (end_seen c.push.result c.go.new.labels (open_assigned c.args.labels.now c.go.new.labels c.args.side.signal c.args.side.bit c.in-Going.ensures.0 c.in-Going.ensures.1))
