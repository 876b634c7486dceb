use Rattle.std.proofs.Common.{◌∙◌, subst}
use Rattle.statement.specs.Netlists.{Netlist}
use Rattle.netlist.specs.Conditions.{IsSound}
use Rattle.observed_points.specs.Points.{IsReadAt, point_of}
use Rattle.grade.specs.inner.Keys.{IsKeyOf}
use Rattle.grade.proofs.Spotted.{sole_spotted}
use Rattle.grade.proofs.spotting.spot.Goals as goal

pub returns-in-Some-clause-first : goal.returns-in-Some-clause-first
returns-in-Some-clause-first c =
    let n = c.args.events.now.netlist in
    let number = c.in-Some.number in
    let same = c.netlist-netlist.ensures ∙ c.core.ensures in
    let sound : IsSound n = subst IsSound same c.sound.ensures in
    let read : IsReadAt n c.args.fault.now.line number = subst (λ (m : Netlist). IsReadAt m c.args.fault.now.line number) same c.in-Some.ensures in
    let key : IsKeyOf n c.args.timing.now.chains.now (point_of n number) c.key_of.result = subst (λ (m : Netlist). IsKeyOf m c.args.timing.now.chains.now (point_of m number) c.key_of.result) same c.key_of.ensures in
    sole_spotted n sound c.args.timing.now.chains.now c.args.fault.now c.args.events.now.values c.args.j c.requires.low number c.key_of.result read key
