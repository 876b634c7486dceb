-- The lines of the error output that all programs have.
use Rattle.std.specs.Prelude.{◌≡◌, ◌⊎◌, ◌++◌, ℕ, Bool, IsTrue, Option, codes, decimal}
use Rattle.statement.specs.Benches.{Text}
use Rattle.outside.specs.Causes.{Rose}
use Rattle.bench_text.specs.declared.refusal.BenchKind.{BenchKind}
use Rattle.bench_text.specs.declared.refusal.BenchKind.TheVariants.{BadByte, BadLine, UnknownGate, BadPins, DefinedTwice, Reserved, TooMany, NoInput, NoOutput, Undefined, Loop}
use Rattle.bench_text.specs.declared.refusal.BenchRefusal.{BenchRefusal}
use Rattle.commands.specs.World.{Grows, GrowsInPart}
use Rattle.commands.specs.Names.{file_name_of}
use Rattle.commands.specs.declared.ending.WriteFailure.{WriteFailure}
use Rattle.commands.specs.declared.ending.WriteFailure.TheVariants.{File, Output}

abbrev pub kind_name : BenchKind → Text
kind_name BadByte = codes "BadByte"
kind_name BadLine = codes "BadLine"
kind_name UnknownGate = codes "UnknownGate"
kind_name BadPins = codes "BadPins"
kind_name DefinedTwice = codes "DefinedTwice"
kind_name Reserved = codes "Reserved"
kind_name TooMany = codes "TooMany"
kind_name NoInput = codes "NoInput"
kind_name NoOutput = codes "NoOutput"
kind_name Undefined = codes "Undefined"
kind_name Loop = codes "Loop"

-- `netlist line 4: Loop`
abbrev pub netlist_line : BenchRefusal → Text
netlist_line refusal = codes "netlist line " ++ (decimal refusal.line ++ (codes ": " ++ (kind_name refusal.kind ++ codes "\n")))

abbrev pub failure_line : WriteFailure → Text
failure_line (File name) = codes "write failed: " ++ (file_name_of name ++ codes "\n")
failure_line Output = codes "write failed: -\n"

-- A sink that may take memory or not has gained the line, or a prefix of it where it failed or was refused memory.
abbrev pub IsSaid : Bool → Text → Option Text → ℕ → Option Text → ℕ → Type 0
IsSaid takes_memory line a f b g =
    (Grows a b line × (g ≡ f)) ⊎ (GrowsInPart a b line × (Rose f g ⊎ (IsTrue takes_memory × (g ≡ f))))
