-- What `chaintest` says of a design, its chains and the cycles of a STIL file.
use Rattle.std.specs.Prelude.{ℕ, ◌++◌, List, Option, Some, None, IfSome, codes, decimal, is_none, is_some, length, ◌≡◌, [], ◌∷◌}
use Rattle.std.specs.List.{AllZip, filter, flat_map, zip}
use Rattle.statement.specs.Benches.{Text}
use Rattle.statement.specs.declared.lines.Fault.{Fault}
use Rattle.statement.specs.Netlists.{Netlist}
use Rattle.statement.specs.Faults.{fault_text, universe_of}
use Rattle.scan_insert.specs.Names.{pin_name_of}
use Rattle.scan_insert.specs.Scanned.{insertion_of, scanned_of}
use Rattle.statement.specs.Runs.{Cycle, FailsAt}
use Rattle.chain_test.specs.FirstWrong.{IsFirstWrong}
use Rattle.chain_test.specs.Hardware.{hardware_faults}
use Rattle.chain_test.specs.Laws.{FlushFailsIn}
use Rattle.bench_text.specs.declared.refusal.Names.TheVariants.{Design}
use Rattle.commands.specs.Due.{Due, Deliver}
use Rattle.commands.specs.declared.ending.Finding.TheVariants.{Fine}
use Rattle.statement.specs.Tests.{vectors_in}
use Rattle.stil_read.specs.Reading.{StandsFor}
use Rattle.stil_vectors.specs.Fitting.{FitsNetlist}
use Rattle.good_files.specs.ScanOff.{design_chains}
use Rattle.command_steps.specs.Steps.{◌>>=◌, netlist, value, test}
use Rattle.command_steps.specs.declared.refusal.Refusal.{Refusal}
use Rattle.command_steps.specs.declared.refusal.Refusal.TheVariants.{NotStil, StilDoesNotFit}

-- a cycle and an output, or nothing
abbrev pub Strobe : Type 0
Strobe = Option (ℕ × ℕ)

-- the faults of the scan hardware of a design
abbrev pub hardware_of : Netlist → List (List ℕ) → List Fault
hardware_of n chains = hardware_faults (insertion_of n chains) (universe_of n)

-- What is said of a fault: the first strobe that is known to be wrong, at which the netlist fails from every power-up state; nothing exactly where there is none.
pub record IsTold (s : Netlist) (cycles : List Cycle) (g : Fault) (told : Strobe) : Type 0 where
  pub first : IsFirstWrong s g cycles told
  pub fails : IfSome told (λ place. FailsAt s (Some g) cycles place.0 place.1)

-- It is said of each hardware fault; and in the vectors of patterns the flush fails where a line of a shift path is stuck.
pub record IsChainTest (n : Netlist) (chains : List (List ℕ)) (cycles : List Cycle) (told : List Strobe) : Type 0 where
  pub each : AllZip (IsTold (scanned_of n chains) cycles) (hardware_of n chains) told
  pub flush : FlushFailsIn n chains cycles

-- ` fails 2 SC__so0`, or ` untold`
abbrev pub told_text : Netlist → Strobe → Text
told_text s None = codes " untold\n"
told_text s (Some place) = codes " fails " ++ (decimal place.0 ++ (codes " " ++ (pin_name_of s place.1 ++ codes "\n")))

abbrev pub told_line : Netlist → Fault → Strobe → Text
told_line s g told = fault_text s g ++ told_text s told

-- `faults 24 fails 16 untold 8`
abbrev pub told_counts : List Strobe → Text
told_counts told =
    codes "faults " ++ (decimal (length told) ++ (codes " fails " ++ (decimal (length (filter is_some told)) ++ (codes " untold " ++ (decimal (length (filter is_none told)) ++ codes "\n")))))

abbrev pub told_lines : Netlist → List Fault → List Strobe → Text
told_lines s faults told = flat_map (λ p. told_line s p.0 p.1) (zip faults told)

-- the counts, and then a line for each fault
abbrev pub chain_test_text : Netlist → List Fault → List Strobe → Text
chain_test_text s faults told = told_counts told ++ told_lines s faults told

-- the lines of what the file shows of the scan hardware, the file fitting the scanned netlist
abbrev pub chaintest_due : ℕ → List Text → Due Refusal → Type 0
chaintest_due asked (net ∷ stil ∷ []) =
    netlist Design net >>= λ n. value StandsFor NotStil stil >>= λ file. test (FitsNetlist file (scanned_of n (design_chains n asked))) StilDoesNotFit >>= λ _ d.
    (told : List Strobe) × IsChainTest n (design_chains n asked) (vectors_in file) told
    × (d ≡ Deliver [] (chain_test_text (scanned_of n (design_chains n asked)) (hardware_of n (design_chains n asked)) told) Fine)
chaintest_due asked texts = λ d. ⊥
