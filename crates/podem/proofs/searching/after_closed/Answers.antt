use Rattle.std.proofs.Common.{not, [], ◌∷◌, sym, subst}
use Rattle.tri.specs.Paths.{IsGoingPath}
use Rattle.pair_sim.specs.Sims.{Sim}
use Rattle.redundancy_cert.specs.declared.nodes.Node.TheVariants.{Closed, Forced}
use Rattle.decisions.specs.Climbing.{IsAtEnd}
use Rattle.decisions.proofs.Standing.{seen, both_closed, this_closed}
use Rattle.podem.specs.inner.Searching.{IsTestAt}
use Rattle.podem.proofs.Looked.{end_seen, back_seen, going_assigned, stepped}
use Rattle.podem.proofs.Steps.{test_there, may_decide}
use Rattle.podem.proofs.searching.after_closed.Goals as goal

pub returns-in-Test : goal.returns-in-Test
returns-in-Test c k looks w shut =
    (test_there w c.go.new.labels (not c.args.side.bit) c.in-Test.point c.in-Test.ensures.0 c.in-Test.ensures.1, tt)

pub close_both-requires : goal.close_both-requires
close_both-requires c =
    subst (λ (r : Sim). IsAtEnd r.fault r.netlist r.holds r c.args.stack.now.items) (sym c.in-Blocked.ensures.0) c.requires.end

pub returns-in-Blocked : goal.returns-in-Blocked
returns-in-Blocked c k looks w shut = stepped _ _ c.close_both.result
    (both_closed (may_decide w) (IsTestAt k) c.args.side.bit c.go.new.labels c.close_both.new.labels c.close_both.new.stack.items c.close_both.result
    c.in-Blocked.ensures.0 shut c.in-Blocked.ensures.1 c.close_both.ensures.end c.close_both.ensures.step)
    (back_seen c.close_both.result c.close_both.new.labels (Forced c.args.side.signal c.args.side.bit ∷ Closed ∷ []) c.args.stack.now.items c.close_both.new.stack.items c.close_both.ensures.step)

pub returns-in-Going : goal.returns-in-Going
returns-in-Going c k looks w shut =
    let d = may_decide w in
    stepped _ _ c.push.result
    (this_closed d (IsTestAt k) c.args.side.bit c.go.new.labels c.push.new.stack.items c.push.result shut (λ t. seen d IsGoingPath (not c.args.side.bit) c.in-Going.ensures.1) c.in-Going.ensures.0 c.push.ensures)
    (end_seen c.push.result c.go.new.labels (going_assigned c.args.labels.now c.go.new.labels c.args.side.signal (not c.args.side.bit) c.in-Going.ensures.0 c.in-Going.ensures.1))
