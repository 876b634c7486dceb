use Rattle.std.proofs.Common.{refl}
use Rattle.atpg_top.proofs.slow_lines.test_held.Goals as goal

pub returns-in-Ok-product_by : goal.returns-in-Ok-product_by
returns-in-Ok-product_by g c =
    let p = c.in-Ok-product_by in
    ((c.in-Ok.made, c.in-Ok.ensures, rw (p.ensures.texts, p.ensures.shown, p.ensures.fine) refl), p.ensures.count)
