-- The design that is read of a command's one text.
use Rattle.std.specs.Prelude.{⊤, List, [], ◌∷◌, Result, Ok, Err}
use Rattle.statement.specs.Benches.{Text}
use Rattle.statement.specs.Netlists.{Netlist}
use Rattle.netlist.specs.Designs.{IsDesign}
use Rattle.bench_text.specs.declared.refusal.Names.TheVariants.{Design}
use Rattle.commands.specs.declared.product.Stop.{Stop}
use Rattle.commands.specs.declared.product.Stop.TheVariants as stop
use Rattle.command_steps.specs.Steps.{netlist}
use Rattle.command_steps.specs.declared.refusal.Refusal.{Refusal}

-- it is what the step gives, or the step's refusal
abbrev pub ReadsDesign : List Text → Result Netlist (Stop Refusal) → Type 0
ReadsDesign texts (Err stop.NoMemory) = ⊤
ReadsDesign (bytes ∷ []) (Ok n) = netlist Design bytes (Ok n) × IsDesign n
ReadsDesign (bytes ∷ []) (Err (stop.Refused r)) = netlist Design bytes (Err r)
ReadsDesign texts result = ⊥
