use Rattle.std.proofs.Common.{◌≡◌, Option, IfSome, subst, vec_len}
use Rattle.cubes.specs.Cubes.{Cube, IsCubeOf}
use Rattle.worker.specs.declared.hands.Test.{Test}
use Rattle.worker.proofs.TestLemmas.{more_or_same}
use Rattle.worker.proofs.hunting.keep_test.Goals as goal

pub returns-in-Some-clause-cubes : goal.returns-in-Some-clause-cubes
returns-in-Some-clause-cubes g c =
    let j = g.J.About.subject in
    let cube = subst (λ (o : Option Cube). IfSome o (IsCubeOf j.netlist j.holds)) c.in-Some.is c.requires.cube in
    let found : Test = record { class = c.args.class; cube = c.in-Some.cube } in
    let kept : Type 0 = vec_len c.add.new.list ≡ vec_len c.args.tests.now in
    more_or_same kept j c.args.tests.now.items c.add.new.list.items found c.add.result c.add.ensures.items c.add.ensures.same c.requires.cubes cube
