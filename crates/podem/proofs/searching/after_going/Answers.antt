use Rattle.std.proofs.Common.{◌∙◌, not, ◌∷◌, true, ap}
use Rattle.tri.specs.Paths.{IsGoingPath}
use Rattle.pair_sim.specs.Sims.{Sim, assigned}
use Rattle.redundancy_cert.specs.Stacks.{path_of_stack}
use Rattle.decisions.proofs.Standing.{seen, free_there, other_closed, both_going}
use Rattle.podem.specs.inner.Searching.{IsTestAt}
use Rattle.podem.proofs.Looked.{end_seen, going_there, going_assigned, stepped}
use Rattle.podem.proofs.Steps.{test_there, may_decide, split}
use Rattle.podem.proofs.searching.after_going.Goals as goal

pub returns-in-Test : goal.returns-in-Test
returns-in-Test c =
    (test_there c.requires.chosen c.go.new.labels (not c.args.side.bit) c.in-Test.point c.in-Test.ensures.0 c.in-Test.ensures.1, tt)

pub assign-requires : goal.assign-requires
assign-requires c = free_there (may_decide c.requires.chosen) c.go.new.labels c.in-Blocked.ensures.0

pub returns-in-Blocked : goal.returns-in-Blocked
returns-in-Blocked c =
    let w = may_decide c.requires.chosen in
    let x = c.args.side.signal in
    let b = c.args.side.bit in
    stepped _ _ c.push.result
    (other_closed w (IsTestAt c.args.case.now) b c.go.new.labels c.assign.new.self c.push.new.stack.items c.push.result
    c.in-Blocked.ensures.0 (λ t. c.requires.going) c.in-Blocked.ensures.1 c.assign.ensures c.push.ensures)
    (end_seen c.push.result c.assign.new.self (going_there c.assign.new.self ((x, b) ∷ path_of_stack c.args.stack.now.items)
    (c.assign.ensures ∙ ap (λ (r : Sim). assigned r x b) (c.in-Blocked.ensures.0 ∙ c.requires.chosen.on.at.at)) c.requires.going))

pub returns-in-Going : goal.returns-in-Going
returns-in-Going c =
    let w = may_decide c.requires.chosen in
    stepped _ _ c.push-in-Going.result
    (both_going w (IsTestAt c.args.case.now) c.args.side.bit c.go.new.labels c.push-in-Going.new.stack.items c.push-in-Going.result
    (split c.requires.chosen) (λ t. c.requires.going) (λ t. seen w IsGoingPath (not c.args.side.bit) c.in-Going.ensures.1) c.in-Going.ensures.0 c.push-in-Going.ensures)
    (end_seen c.push-in-Going.result c.go.new.labels (going_assigned c.args.labels.now c.go.new.labels c.args.side.signal (not c.args.side.bit) c.in-Going.ensures.0 c.in-Going.ensures.1))
