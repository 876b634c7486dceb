-- Answers of either check.
use Rattle.std.proofs.Common.{◌≡◌, ◌++◌, inl, inr, Ok, Err, IfOk, codes}
use Rattle.std.specs.Prelude.{Result}
use Rattle.statement.specs.Benches.{Text}
use Rattle.statement.specs.Statement.{FiveFiles}
use Rattle.good_files.specs.declared.answers.Checked.{Checked}
use Rattle.good_files.specs.declared.answers.CheckFault.{CheckFault}
use Rattle.good_files.specs.Checks.{IsChecked, PassesWhereTrue}
use Rattle.good_slow_files.specs.Checks.{IsSlowChecked, PassesWhereTrueSlow}
use Rattle.check_command.specs.Checking.{AreSlow, IsAnswerOf}

pub as_slow : (files : FiveFiles) (rest : Text) → files.report ≡ codes "atpg transition " ++ rest → (r : Result Checked CheckFault) → IsSlowChecked files r
    → IfOk r (PassesWhereTrueSlow files) → IsAnswerOf files r
as_slow files rest begins (Ok answer) is good = inl ((rest, begins), (is, good))
as_slow files rest begins (Err refusal) is good = inl ((rest, begins), is)

pub as_stuck : (files : FiveFiles) → ¬ AreSlow files → (r : Result Checked CheckFault) → IsChecked files r → IfOk r (PassesWhereTrue files) → IsAnswerOf files r
as_stuck files other (Ok answer) is good = inr (other, (is, good))
as_stuck files other (Err refusal) is good = inr (other, is)
