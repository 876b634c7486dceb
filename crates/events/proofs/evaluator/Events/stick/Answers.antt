use Rattle.std.proofs.Common.{subst}
use Rattle.netlist.specs.Conditions.{IsSound}
use Rattle.statement.specs.Values.{Rule}
use Rattle.events.specs.Standing.{Standing, SettlesAnew}
use Rattle.events.proofs.Standing.{stuck_settles, observed_settles}
use Rattle.events.proofs.evaluator.Events.stick.Goals as goal

pub returns-in-Some-clause-settles : goal.returns-in-Some-clause-settles
returns-in-Some-clause-settles g c table e =
    let sound : IsSound c.args.self.now.netlist = subst (λ (s : Standing g.row.V.Denot). IsSound s.netlist) c.self.view_is (subst IsSound c.netlist.ensures c.sound.ensures) in
    stuck_settles table c.args.fault.now c.args.self.now.netlist sound.formed.numbered c.in-Some.id c.blank.result c.args.self.now.values c.change.new.self.values c.in-Some.ensures.site
    (subst (λ (r : Rule g.row.V.Denot). SettlesAnew r c.args.self.now.netlist c.in-Some.id c.blank.result c.args.self.now.values c.change.new.self.values) e c.change.ensures.settles)

pub returns-in_default-clause-settles : goal.returns-in_default-clause-settles
returns-in_default-clause-settles g c table e =
    observed_settles table c.args.fault.now c.args.self.now.netlist c.args.self.now.values c.in_default.ensures.site
