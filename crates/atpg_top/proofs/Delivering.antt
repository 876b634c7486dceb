-- What is due of the texts that were read.
use Rattle.std.proofs.Common.{inl, List, [], ◌∷◌, Ok, refl}
use Rattle.statement.specs.Benches.{Text}
use Rattle.statement.specs.Netlists.{Netlist}
use Rattle.commands.specs.Due.{Deliver}
use Rattle.commands.specs.declared.ending.Finding.TheVariants.{Fine}
use Rattle.atpg_top.specs.Commands.{faults_due}
use Rattle.atpg_top.specs.FaultLists.{IsFaultList}
use Rattle.command_steps.specs.Designs.{ReadsDesign}

pub faults_deliver : (texts : List Text) (n : Netlist) (text : Text) → ReadsDesign texts (Ok n) → IsFaultList n text → faults_due texts (Deliver [] text Fine)
faults_deliver [] n text design list = absurd design
faults_deliver (bytes ∷ []) n text design list = inl (n, design.0, (text, list, refl))
faults_deliver (bytes ∷ more ∷ others) n text design list = absurd design
