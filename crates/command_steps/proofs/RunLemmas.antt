-- What is due of one text, by what is due of the design that it stands for.
use Rattle.std.proofs.Common.{inl, inr, ℕ, List, [], ◌∷◌, Result, Ok, Err, refl}
use Rattle.statement.specs.Benches.{Text}
use Rattle.statement.specs.Netlists.{Netlist}
use Rattle.commands.specs.Due.{Due}
use Rattle.commands.specs.Worked.{IsWorked}
use Rattle.commands.specs.declared.product.Product.{Product}
use Rattle.commands.specs.declared.product.Stop.{Stop}
use Rattle.commands.specs.declared.product.Stop.TheVariants as stop
use Rattle.command_steps.specs.Steps.{design_due}
use Rattle.command_steps.specs.declared.refusal.Refusal.{Refusal}
use Rattle.command_steps.specs.Designs.{ReadsDesign}

module _ (rest : Netlist → Due Refusal → Type 0) (count : ℕ) where
  -- of a design that was read, what is due of the text
  pub design_works : (texts : List Text) (n : Netlist) (result : Result Product (Stop Refusal)) → ReadsDesign texts (Ok n)
      → IsWorked (rest n) count result → IsWorked (design_due rest texts) count result
  design_works [] n (Ok p) design is = absurd design
  design_works (bytes ∷ []) n (Ok p) design is = (inl (n, design.0, is.0), is.1)
  design_works (bytes ∷ more ∷ others) n (Ok p) design is = absurd design
  design_works [] n (Err (stop.Refused r)) design is = absurd design
  design_works (bytes ∷ []) n (Err (stop.Refused r)) design is = inl (n, design.0, is)
  design_works (bytes ∷ more ∷ others) n (Err (stop.Refused r)) design is = absurd design
  design_works texts n (Err stop.NoMemory) design is = tt

  -- no design was read
  pub design_stops : (texts : List Text) (s : Stop Refusal) → ReadsDesign texts (Err s) → IsWorked (design_due rest texts) count (Err s)
  design_stops [] (stop.Refused r) design = absurd design
  design_stops (bytes ∷ []) (stop.Refused r) design = inr (r, design, refl)
  design_stops (bytes ∷ more ∷ others) (stop.Refused r) design = absurd design
  design_stops texts stop.NoMemory design = tt
