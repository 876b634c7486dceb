use Rattle.std.proofs.Common.{Vec, ℕ, ap}
use Rattle.std.specs.declared.alloc.Global.{Global}
use Rattle.test_commands.proofs.GradeLemmas.{grades_deliver}
use Rattle.test_commands.proofs.grading.graded.Goals as goal

pub returns-in-Ok-one_file_product : goal.returns-in-Ok-one_file_product
returns-in-Ok-one_file_product g c =
    let product = c.in-Ok-one_file_product.ensures in (
      grades_deliver c.args.asked c.args.trial.now.netlist c.args.trial.now.file _ _ _ _ _ c.in-Ok.ensures product.texts (ap (λ (v : Vec ℕ Global). v.items) product.shown) product.fine,
      product.count,
    )
