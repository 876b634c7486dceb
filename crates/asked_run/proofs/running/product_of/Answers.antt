use Rattle.std.proofs.Common.{refl}
use Rattle.asked_run.proofs.running.product_of.Goals as goal

pub returns-clause-due : goal.returns-clause-due
returns-clause-due g c =
    let p = c.in_ok-product.ensures in
    (c.in_ok-made.made, c.in_ok-made.ensures, rw (p.texts, p.shown, p.fine) refl)
