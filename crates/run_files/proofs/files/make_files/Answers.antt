use Rattle.std.proofs.Common.{subst}
use Rattle.netlist.specs.Conditions.{IsSound}
use Rattle.run_files.specs.Runs.{asked_by}
use Rattle.run_files.proofs.files.make_files.Goals as goal

pub returns : goal.returns
returns g c =
    let is = c.in_ok-files.ensures in
    let asked = asked_by c.args.plan c.args.wanted c.args.errand.now.holds.now g.E.Engine.refutes in
    c.written_is_run.ensures c.args.errand.now.core.now asked is.classes is.patterns is.verdicts c.in_ok-files.files (subst IsSound c.netlist.ensures c.sound.ensures) c.requires.design is.run
