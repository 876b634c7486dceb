-- What becomes of a command's work: its product is delivered, or not, or there is none.
use Rattle.std.specs.Prelude.{◌≡◌, List, Result, Ok, Err}
use Rattle.std.specs.List.{zip}
use Rattle.statement.specs.Benches.{Text}
use Rattle.commands.specs.World.{World}
use Rattle.commands.specs.Names.{texts_of}
use Rattle.commands.specs.Rows.{Delivers, FailsToDeliver, StopsDelivering}
use Rattle.commands.specs.declared.ending.Ending.{Ending}
use Rattle.commands.specs.declared.ending.Ending.TheVariants as ending
use Rattle.commands.specs.declared.product.Product.{Product}
use Rattle.commands.specs.declared.product.Stop.{Stop}
use Rattle.commands.specs.declared.product.Stop.TheVariants as stop

-- the product's texts under these names, and what it shows
abbrev pub ProductRow : {R : Type 0} → List Text → Product → World → World → Ending R → Type 0
ProductRow writes p a b (ending.Ended finding) = (finding ≡ p.finding) × Delivers (zip writes (texts_of p.texts.items)) p.shown.items a b
ProductRow writes p a b (ending.WriteFailed failure) = FailsToDeliver failure (zip writes (texts_of p.texts.items)) p.shown.items a b
ProductRow writes p a b ending.Memory = StopsDelivering (zip writes (texts_of p.texts.items)) p.shown.items a b
ProductRow writes p a b _ = ⊥

abbrev pub DeliveryRow : {R : Type 0} → List Text → Result Product (Stop R) → World → World → Ending R → Type 0
DeliveryRow writes (Ok p) a b e = ProductRow writes p a b e
DeliveryRow writes (Err (stop.Refused r)) a b e = (e ≡ ending.Refused r) × (b ≡ a)
DeliveryRow writes (Err stop.NoMemory) a b e = (e ≡ ending.Memory) × (b ≡ a)
