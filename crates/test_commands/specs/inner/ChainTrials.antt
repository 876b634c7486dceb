-- What is tested of which scan hardware.
use Rattle.std.specs.Prelude.{ℕ, ◌≡◌, ◌<◌, ◌++◌, ⊤, List, [], ◌∷◌, IfSome, Result, Ok, Err, codes, decimal, length}
use Rattle.std.specs.List.{AllZip}
use Rattle.statement.specs.Benches.{Text}
use Rattle.statement.specs.declared.lines.Fault.{Fault}
use Rattle.bench_text.specs.declared.refusal.Names.TheVariants.{Design}
use Rattle.netlist.specs.Designs.{IsDesign}
use Rattle.statement.specs.Netlists.{Netlist}
use Rattle.good_files.specs.ScanOff.{design_chains}
use Rattle.scan_insert.specs.Scanned.{insertion_of, scanned_of}
use Rattle.stil_read.specs.Reading.{StandsFor}
use Rattle.statement.specs.Tests.{vectors_in}
use Rattle.stil_vectors.specs.Fitting.{FitsNetlist}
use Rattle.statement.specs.Stils.{StilFile}
use Rattle.commands.specs.Due.{Due, Deliver, Refuse}
use Rattle.commands.specs.declared.ending.Finding.TheVariants.{Fine}
use Rattle.commands.specs.declared.product.Stop.{Stop}
use Rattle.commands.specs.declared.product.Stop.TheVariants as stop
use Rattle.test_commands.specs.ChainTests.{IsChainTest, IsTold, Strobe, chain_test_text, hardware_of, chaintest_due}
use Rattle.command_steps.specs.Steps.{◌>>=◌, netlist, test, value}
use Rattle.test_commands.specs.declared.chain_testing.ChainTrial.{ChainTrial}
use Rattle.test_commands.specs.declared.chain_testing.Hardware.{Hardware}
use Rattle.command_steps.specs.declared.refusal.Refusal.{Refusal}
use Rattle.command_steps.specs.declared.refusal.Refusal.TheVariants.{NotStil, StilDoesNotFit}

-- the design and the file that the texts give
pub record IsChainTrial (net stil : Text) (n : Netlist) (file : StilFile) : Type 0 where
  pub net_is : netlist Design net (Ok n)
  pub design : IsDesign n
  pub file_is : value StandsFor NotStil stil (Ok file)

abbrev pub ReadsChainTrial : Text → Text → Result ChainTrial (Stop Refusal) → Type 0
ReadsChainTrial net stil (Ok t) = IsChainTrial net stil t.netlist t.file
ReadsChainTrial net stil (Err (stop.Refused r)) = (chains : ℕ) → chaintest_due chains (net ∷ stil ∷ []) (Refuse r)
ReadsChainTrial net stil (Err stop.NoMemory) = ⊤

-- the scan hardware of a design
pub record IsHardwareOf (n : Netlist) (chains : List (List ℕ)) (h : Hardware) : Type 0 where
  pub scanned : h.scanned ≡ insertion_of n chains
  pub faults : h.faults.items ≡ hardware_of n chains

-- a place that is told is one of an output
abbrev pub IsOutput : Netlist → Strobe → Type 0
IsOutput s told = IfSome told (λ place. place.1 < length s.outputs)

-- the line of counts, by the counts
abbrev pub counts_text : ℕ → ℕ → ℕ → Text
counts_text faults fails untold = codes "faults " ++ (decimal faults ++ (codes " fails " ++ (decimal fails ++ (codes " untold " ++ (decimal untold ++ codes "\n")))))

-- the text of what is told of these faults
pub record IsTextOf (s : Netlist) (faults : List Fault) (file : StilFile) (text : Text) : Type 0 where
  pub told : List Strobe
  pub each : AllZip (IsTold s (vectors_in file)) faults told
  pub text_is : text ≡ chain_test_text s faults told

-- the same of the hardware's faults
abbrev pub IsTestText : Hardware → StilFile → Text → Type 0
IsTestText h file text = IsTextOf h.scanned.netlist h.faults.items file text

abbrev pub text_due : Hardware → StilFile → Due Refusal → Type 0
text_due h file d = (text : Text) × IsTestText h file text × (d ≡ Deliver [] text Fine)

-- what is due of a design, its chains and a file that fits
abbrev pub told_due : Netlist → List (List ℕ) → StilFile → Due Refusal → Type 0
told_due n chains file d =
    (told : List Strobe) × IsChainTest n chains (vectors_in file) told × (d ≡ Deliver [] (chain_test_text (scanned_of n chains) (hardware_of n chains) told) Fine)

-- the same of a file that may not fit
abbrev pub fit_due : Netlist → List (List ℕ) → StilFile → Due Refusal → Type 0
fit_due n chains file = test (FitsNetlist file (scanned_of n chains)) StilDoesNotFit >>= λ _. told_due n chains file

abbrev pub test_due : ℕ → Netlist → StilFile → Due Refusal → Type 0
test_due asked n file = fit_due n (design_chains n asked) file

-- the same of the bytes of a file
abbrev pub bytes_due : ℕ → Text → Netlist → Due Refusal → Type 0
bytes_due asked stil n = value StandsFor NotStil stil >>= λ file. test_due asked n file
