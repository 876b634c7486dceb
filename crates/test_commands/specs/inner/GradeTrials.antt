-- What is graded.
use Rattle.std.specs.Prelude.{ℕ, ◌≡◌, ◌<◌, ◌≤◌, ⊤, [], ◌∷◌, length}
use Rattle.statement.specs.Benches.{Text}
use Rattle.netlist.specs.Designs.{IsDesign}
use Rattle.statement.specs.Netlists.{Netlist}
use Rattle.statement.specs.Stils.{StilFile}
use Rattle.statement.specs.Tests.{vectors_in}
use Rattle.good_files.specs.ScanOff.{design_chains}
use Rattle.scan_insert.specs.Scanned.{Insertion, insertion_of, scanned_of}
use Rattle.stil_read.specs.Reading.{StandsFor}
use Rattle.stil_vectors.specs.Fitting.{FitsNetlist}
use Rattle.grade.specs.declared.grade.Grade.{Grade}
use Rattle.grade.specs.declared.grade.Grade.TheVariants.{Detected, Undetected, Unknown}
use Rattle.commands.specs.Due.{Due, Deliver}
use Rattle.commands.specs.declared.ending.Finding.TheVariants.{Fine}
use Rattle.test_commands.specs.Grades.{IsGradeProduct}
use Rattle.command_steps.specs.Steps.{◌>>=◌, test, value}
use Rattle.command_steps.specs.declared.refusal.Refusal.{Refusal}
use Rattle.command_steps.specs.declared.refusal.Refusal.TheVariants.{NotStil, StilDoesNotFit}

-- a design, and what insertion made of it in at most so many chains
pub record IsScannedIn (n : Netlist) (asked : ℕ) (scanned : Insertion) : Type 0 where
  pub design : IsDesign n
  pub some : 1 ≤ asked
  pub is_scanned : scanned ≡ insertion_of n (design_chains n asked)

-- the strobe that a grade names is one of an output
abbrev pub IsGradeOutput : Netlist → Grade → Type 0
IsGradeOutput s (Detected c o) = o < length s.outputs
IsGradeOutput s Undetected = ⊤
IsGradeOutput s Unknown = ⊤

-- what is due of a design, its chains and a file that fits
abbrev pub graded_due : ℕ → Netlist → StilFile → Due Refusal → Type 0
graded_due asked n file d = (text : Text) × (line : Text) × IsGradeProduct n (design_chains n asked) (vectors_in file) text line × (d ≡ Deliver (text ∷ []) line Fine)

-- the same of a file that may not fit
abbrev pub grade_fit_due : ℕ → Netlist → StilFile → Due Refusal → Type 0
grade_fit_due asked n file = test (FitsNetlist file (scanned_of n (design_chains n asked))) StilDoesNotFit >>= λ _. graded_due asked n file

-- the same of the bytes of a file
abbrev pub grade_bytes_due : ℕ → Text → Netlist → Due Refusal → Type 0
grade_bytes_due asked stil n = value StandsFor NotStil stil >>= λ file. grade_fit_due asked n file
