use Rattle.std.proofs.lemmas.Result.{IfOk-weaker}
use Rattle.atpg_top.proofs.sweeping.shown_by.Goals as goal

pub returns-in-Ok : goal.returns-in-Ok
returns-in-Ok c = IfOk-weaker c.shown_of-shown.result _ _ (λ text shown. (c.in-Ok.made, shown.0, shown.1)) c.shown_of-shown.ensures
