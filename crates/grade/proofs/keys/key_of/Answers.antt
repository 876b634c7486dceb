use Rattle.std.proofs.Common.{subst, sym, arith}
use Rattle.statement.specs.declared.lines.Point.{Point}
use Rattle.observed_points.proofs.PointTables.{points_few}
use Rattle.run_report.specs.Strobes.{IsPointOf}
use Rattle.grade.specs.inner.Keys.{IsKeyOf}
use Rattle.grade.proofs.Keyed.{early, is_key, point_within}
use Rattle.grade.proofs.keys.key_of.Goals as goal

pub point_at-requires : goal.point_at-requires
point_at-requires c =
    let few = points_few c.args.netlist.now c.sound.ensures in
    let l = c.requires.within in
    omega arith

pub strobe_of-strobe-requires-clause-point : goal.strobe_of-strobe-requires-clause-point
strobe_of-strobe-requires-clause-point c =
    subst (IsPointOf c.args.netlist.now) (sym c.point_at.ensures) (point_within c.args.netlist.now c.sound.ensures c.args.number c.requires.within)

pub key_at-requires : goal.key_at-requires
key_at-requires c =
    let n = c.args.netlist.now in
    let chains = c.args.chains.now in
    let s = c.strobe_of-strobe.result in
    early n chains c.sound.ensures c.requires.chains c.point_at.result s.cycle s.output
    (subst (IsPointOf n) (sym c.point_at.ensures) (point_within n c.sound.ensures c.args.number c.requires.within)) c.strobe_of-strobe.ensures

pub returns : goal.returns
returns c =
    let n = c.args.netlist.now in
    let chains = c.args.chains.now in
    let s = c.strobe_of-strobe.result in
    subst (λ (p : Point). IsKeyOf n chains p c.key_at.result) c.point_at.ensures
    (is_key n chains c.sound.ensures c.requires.chains c.point_at.result s.cycle s.output
    (subst (IsPointOf n) (sym c.point_at.ensures) (point_within n c.sound.ensures c.args.number c.requires.within)) c.strobe_of-strobe.ensures c.key_at.result c.key_at.ensures.key)
