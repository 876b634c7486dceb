use Rattle.statement.specs.Faults.{universe_of}
use Rattle.statement.specs.Tests.{vectors_in}
use Rattle.fault_universe.proofs.Elements.{contains_at}
use Rattle.good_files.specs.GoodFiles.{chains_in, chains_said, test_in}
use Rattle.good_files.proofs.Chains.{dealt}
use Rattle.grade.proofs.Agreeing.{all_agree}
use Rattle.grade.proofs.laws.agrees_with_report.Goals as goal

pub returns : goal.returns
returns c files x grades sound design good graded =
    let are = dealt x.netlist (chains_said x.said) good.tested.scan.allowed in
    let v = c.file_vectors.ensures x.netlist good.tested.holds (chains_in x) good.tested.patterns x.file good.tested.test.is_file_of in
    all_agree (test_in x good.tested) good.tested.classes x.said.lines (vectors_in x.file) grades sound are v
    (λ i f e. c.faults_have_lines.ensures x.netlist f sound (contains_at (universe_of x.netlist) i f e)) good.faults.lines_true graded
