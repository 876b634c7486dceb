use Rattle.std.proofs.Common.{◌≢◌, ◌++◌, ℕ, List, subst}
use Rattle.transition_report.proofs.EvidenceLines.{no_first}
use Rattle.transition_report.proofs.certificate_reading.behind_first.Goals as goal

pub returns-in_err-lines : goal.returns-in_err-lines
returns-in_err-lines c =
    let Lacks : List ℕ → Type 0 = λ line. (rest : List ℕ) → c.args.bytes.now ≢ line ++ rest in
    rw c.from_residual.ensures (no_first c.args.bytes.now (subst Lacks c.first_line.ensures c.in_default.ensures) (subst Lacks c.first_line-2.ensures c.in_err-lines.ensures))
