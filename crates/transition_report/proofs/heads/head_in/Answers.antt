use Rattle.std.proofs.Common.{◌≢◌, ◌++◌, ℕ, List, subst}
use Rattle.transition_report.proofs.TableTexts.{no_head}
use Rattle.transition_report.proofs.heads.head_in.Goals as goal

pub returns-in_err-rest : goal.returns-in_err-rest
returns-in_err-rest c =
    let Lacks : List ℕ → Type 0 = λ line. (rest : List ℕ) → c.args.bytes.now ≢ line ++ rest in
    rw c.from_residual.ensures (no_head c.args.bytes.now (subst Lacks c.head_line.ensures c.in_default.ensures) (subst Lacks c.head_line-2.ensures c.in_err-rest.ensures))
