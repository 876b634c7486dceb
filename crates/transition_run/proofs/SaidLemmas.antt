-- How many lines there are.
use Rattle.std.proofs.Common.{◌≡◌, ℕ, List, length, arith}
use Rattle.std.specs.List.{zip}
use Rattle.std.proofs.lemmas.Slice.Zip.{AllZip-long, length-zip}
use Rattle.statement.specs.declared.lines.Fault.{Fault}
use Rattle.statement.specs.Netlists.{Netlist}
use Rattle.statement.specs.Reports.{Line}
use Rattle.transition_tests.specs.declared.verdicts.TransitionVerdict.{TransitionVerdict}
use Rattle.transition_tests.specs.Lines.{AreLines, IsVerdictLine}

-- a line for each fault
pub lines_count : (n : Netlist) (chains : List (List ℕ)) (faults : List Fault) (verdicts : List TransitionVerdict) (lines : List Line) → length verdicts ≡ length faults
    → AreLines n chains faults verdicts lines → length lines ≡ length faults
lines_count n chains faults verdicts lines size are =
    let all = AllZip-long (IsVerdictLine n chains) (zip faults verdicts) lines are in
    let pairs = length-zip faults verdicts in
    omega (arith, all, pairs, size)
