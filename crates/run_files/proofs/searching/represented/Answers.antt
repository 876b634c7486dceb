use Rattle.std.proofs.Common.{subst, arith, false}
use Rattle.statement.specs.declared.lines.Line.TheVariants.{Stem}
use Rattle.netlist.specs.Conditions.{IsSound}
use Rattle.run_files.proofs.PointLemmas.{have_lines}
use Rattle.run_files.proofs.SearchLemmas.{few_classes}
use Rattle.run_files.proofs.searching.represented.Goals as goal

pub returns-clause-few : goal.returns-clause-few
returns-clause-few c =
    let all = c.few_faults.ensures c.args.core.now (subst IsSound c.netlist.ensures c.sound.ensures) in
    omega (arith, c.requires.classes.size, all, c.requires.design.small)

pub returns-clause-represented : goal.returns-clause-represented
returns-clause-represented c =
    let n = c.args.core.now in
    let few = few_classes n c.args.classes.now c.requires.classes (record { line = Stem 0; value = false }) in
    let sound = subst IsSound c.netlist.ensures c.sound.ensures in
    let all = c.few_faults.ensures n sound in
    record {
      faults = record {
        few = omega (arith, few, all, c.requires.design.small);
        lines = have_lines c.faults_have_lines.ensures n sound c.args.classes.now c.requires.classes;
      };
    }
