use Rattle.std.proofs.Common.{refl}
use Rattle.atpg_top.proofs.scanning.product_of.Goals as goal

pub returns-in-Ok-one_file_product : goal.returns-in-Ok-one_file_product
returns-in-Ok-one_file_product c =
    let product = c.in-Ok-one_file_product.ensures in
    ((c.in-Ok.made.text.items, c.in-Ok.made.line.items, c.in-Ok.ensures, rw (product.texts, product.shown, product.fine) refl), product.count)
