-- What `grade` says of a design, its chains and the cycles of a STIL file.
use Rattle.std.specs.Prelude.{ℕ, ◌≡◌, ◌++◌, ⊤, Bool, true, false, List, Some, codes, count_by, decimal, length, [], ◌∷◌}
use Rattle.std.specs.List.{AllZip, flat_map, zip}
use Rattle.statement.specs.Benches.{Text}
use Rattle.statement.specs.declared.lines.Fault.{Fault}
use Rattle.statement.specs.Netlists.{Netlist}
use Rattle.statement.specs.Faults.{fault_text, universe_of}
use Rattle.scan_insert.specs.Names.{pin_name_of}
use Rattle.scan_insert.specs.Scanned.{scanned_of, sites_of}
use Rattle.statement.specs.Runs.{Cycle, FailsAt, Passes}
use Rattle.chain_test.specs.Hardware.{at_site}
use Rattle.grade.specs.Grades.{IsGraded}
use Rattle.grade.specs.declared.grade.Grade.{Grade}
use Rattle.grade.specs.declared.grade.Grade.TheVariants.{Detected, Undetected, Unknown}
use Rattle.bench_text.specs.declared.refusal.Names.TheVariants.{Design}
use Rattle.commands.specs.Due.{Due, Deliver}
use Rattle.commands.specs.declared.ending.Finding.TheVariants.{Fine}
use Rattle.statement.specs.Tests.{vectors_in}
use Rattle.stil_read.specs.Reading.{StandsFor}
use Rattle.stil_vectors.specs.Fitting.{FitsNetlist}
use Rattle.good_files.specs.ScanOff.{design_chains}
use Rattle.command_steps.specs.Steps.{◌>>=◌, netlist, value, test}
use Rattle.command_steps.specs.declared.refusal.Refusal.{Refusal}
use Rattle.command_steps.specs.declared.refusal.Refusal.TheVariants.{NotStil, StilDoesNotFit}

-- what a grade means from every power-up state: it fails at that strobe, or it passes
abbrev pub GradeHolds : Netlist → List Cycle → Fault → Grade → Type 0
GradeHolds s cycles g (Detected c o) = FailsAt s (Some g) cycles c o
GradeHolds s cycles g Undetected = Passes s (Some g) cycles
GradeHolds s cycles g Unknown = ⊤

-- What is said of a fault: its grade exactly, which holds from every power-up state.
pub record IsGradeTold (s : Netlist) (cycles : List Cycle) (g : Fault) (grade : Grade) : Type 0 where
  pub graded : IsGraded s g cycles grade
  pub holds : GradeHolds s cycles g grade

-- It is said of each fault of the design, at its site.
abbrev pub AreGradesTold : Netlist → List (List ℕ) → List Cycle → List Grade → Type 0
AreGradesTold n chains cycles grades = AllZip (λ f grade. IsGradeTold (scanned_of n chains) cycles (at_site (sites_of n chains) f) grade) (universe_of n) grades

abbrev pub is_detected : Grade → Bool
is_detected (Detected c o) = true
is_detected Undetected = false
is_detected Unknown = false

abbrev pub is_undetected : Grade → Bool
is_undetected (Detected c o) = false
is_undetected Undetected = true
is_undetected Unknown = false

abbrev pub is_unknown : Grade → Bool
is_unknown (Detected c o) = false
is_unknown Undetected = false
is_unknown Unknown = true

-- `faults 34 detected 30 undetected 2 unknown 2`
abbrev pub grade_numbers : ℕ → ℕ → ℕ → ℕ → Text
grade_numbers faults detected undetected unknown =
    codes "faults " ++ decimal faults ++ (codes " detected " ++ decimal detected) ++ (codes " undetected " ++ decimal undetected) ++ (codes " unknown " ++ decimal unknown) ++ codes "\n"

abbrev pub grade_counts : List Grade → Text
grade_counts grades = grade_numbers (length grades) (count_by is_detected grades) (count_by is_undetected grades) (count_by is_unknown grades)

-- ` detected 2 SC__so0`, ` undetected` or ` unknown`
abbrev pub grade_text : Netlist → Grade → Text
grade_text s (Detected c o) = codes " detected " ++ (decimal c ++ (codes " " ++ (pin_name_of s o ++ codes "\n")))
grade_text s Undetected = codes " undetected\n"
grade_text s Unknown = codes " unknown\n"

-- the fault of the design, and its grade by pins of the scanned netlist
abbrev pub grade_line : Netlist → Netlist → Fault → Grade → Text
grade_line n s f grade = fault_text n f ++ grade_text s grade

abbrev pub grade_lines : Netlist → Netlist → List Fault → List Grade → Text
grade_lines n s faults grades = flat_map (λ p. grade_line n s p.0 p.1) (zip faults grades)

-- the head and the counts, and then a line for each fault
abbrev pub grades_text : Netlist → Netlist → List Fault → List Grade → Text
grades_text n s faults grades = codes "atpg grade 1\n" ++ grade_counts grades ++ grade_lines n s faults grades

-- the text that is written and the line that is printed, and that the text can be trusted
pub record IsGradeProduct (n : Netlist) (chains : List (List ℕ)) (cycles : List Cycle) (text line : Text) : Type 0 where
  pub grades : List Grade
  pub each : AreGradesTold n chains cycles grades
  pub text_is : text ≡ grades_text n (scanned_of n chains) (universe_of n) grades
  pub line_is : line ≡ grade_counts grades

-- the grades of the design's stuck lines, and the line that counts them, the file fitting the scanned netlist
abbrev pub grade_due : ℕ → List Text → Due Refusal → Type 0
grade_due asked (net ∷ stil ∷ []) =
    netlist Design net >>= λ n. value StandsFor NotStil stil >>= λ file. test (FitsNetlist file (scanned_of n (design_chains n asked))) StilDoesNotFit >>= λ _ d.
    (text : Text) × (line : Text) × IsGradeProduct n (design_chains n asked) (vectors_in file) text line × (d ≡ Deliver (text ∷ []) line Fine)
grade_due asked texts = λ d. ⊥
