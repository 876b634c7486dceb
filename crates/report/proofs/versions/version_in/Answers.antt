use Rattle.std.proofs.Common.{◌≢◌, ◌++◌, ℕ, List, subst}
use Rattle.report.proofs.VersionLemmas.{no_version}
use Rattle.report.proofs.versions.version_in.Goals as goal

pub returns-in_err-rest : goal.returns-in_err-rest
returns-in_err-rest c =
    let Lacks : List ℕ → Type 0 = λ line. (rest : List ℕ) → c.args.text.now ≢ line ++ rest in
    rw c.from_residual.ensures
    (no_version c.args.text.now (subst Lacks c.line.ensures c.in_default.ensures) (subst Lacks c.line-2.ensures c.in_default-behind.ensures)
    (subst Lacks c.line-3.ensures c.in_default-behind-2.ensures) (subst Lacks c.line-4.ensures c.in_err-rest.ensures))
