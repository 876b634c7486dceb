use Rattle.std.proofs.Common.{◌∙◌, ap, ℕ, Vec}
use Rattle.std.proofs.lemmas.Result.{IfOk-weaker}
use Rattle.std.specs.declared.alloc.Global.{Global}
use Rattle.atpg_top.proofs.slow_lines.product_by.Goals as goal

pub returns-in-Ok-clause-shown : goal.returns-in-Ok-clause-shown
returns-in-Ok-clause-shown c = IfOk-weaker c.product_with.result _ _ (λ p same. ap (λ (v : Vec ℕ Global). v.items) same ∙ c.in-Ok.ensures) c.product_with.ensures.shown
