use Rattle.test_commands.proofs.grading.tried.Goals as goal

pub fitted-product-requires : goal.fitted-product-requires
fitted-product-requires g c = record { design = c.requires.design; some = c.requires.some; is_scanned = c.in-Ok.ensures }
