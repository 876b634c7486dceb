-- The statuses of the program that only checks, and what each says.
use Rattle.std.specs.Prelude.{◌≡◌, ℕ, Bool, List, [], ◌∷◌, Option, Some, None, codes}
use Rattle.statement.specs.Benches.{Text}
use Rattle.commands.specs.World.{IsAsBefore, World}
use Rattle.commands.specs.Names.{run_files}
use Rattle.commands.specs.Rows.{CommandRow}
use Rattle.commands.specs.declared.ending.Ending.TheVariants.{Ended}
use Rattle.commands.specs.Endings.{ending_code, ending_line}
use Rattle.commands.specs.Lines.{IsSaid, netlist_line}
use Rattle.check_command.specs.Checking.{five_texts_due}
use Rattle.check_command.specs.declared.refusal.CheckRefusal.{CheckRefusal}
use Rattle.check_command.specs.declared.refusal.CheckRefusal.TheVariants.{Netlist, NotStil, NotCertificate, NotReport}
use Rattle.check_command.specs.declared.status.CheckStatus.{CheckStatus}
use Rattle.check_command.specs.declared.status.CheckStatus.TheVariants.{BadWords, Command}

-- ---- numbers

abbrev pub check_refusal_code : CheckRefusal → ℕ
check_refusal_code (Netlist refusal) = 3
check_refusal_code NotStil = 4
check_refusal_code NotCertificate = 4
check_refusal_code NotReport = 4

abbrev pub check_status_code : CheckStatus → ℕ
check_status_code BadWords = 2
check_status_code (Command ending) = ending_code check_refusal_code ending

-- ---- lines

abbrev pub check_refusal_line : CheckRefusal → Text
check_refusal_line (Netlist refusal) = netlist_line refusal
check_refusal_line NotStil = codes "not a stil file\n"
check_refusal_line NotCertificate = codes "not a certificate\n"
check_refusal_line NotReport = codes "not a report\n"

abbrev pub check_status_line : CheckStatus → Text
check_status_line BadWords = codes "usage: atpg-check PREFIX\n"
check_status_line (Command ending) = ending_line check_refusal_line ending

-- ---- rows

-- the one word behind the program's name
abbrev pub prefix_in : List Text → Option Text
prefix_in (name ∷ prefix ∷ []) = Some prefix
prefix_in _ = None

abbrev pub PrefixRow : Option Text → World → World → CheckStatus → Type 0
PrefixRow None a b BadWords = IsAsBefore a b
PrefixRow None a b (Command e) = ⊥
PrefixRow (Some prefix) a b BadWords = ⊥
PrefixRow (Some prefix) a b (Command e) = CommandRow (run_files prefix) [] five_texts_due a b e

-- what a call with these words leaves
abbrev pub CheckTopRow : List Text → World → World → CheckStatus → Type 0
CheckTopRow words a b s = PrefixRow (prefix_in words) a b s

-- The error output gains the line of the status. Where the files were checked it is left alone.
abbrev pub CheckErrRow : Bool → CheckStatus → Option Text → ℕ → Option Text → ℕ → Type 0
CheckErrRow takes_memory (Command (Ended finding)) a f b g = (b ≡ a) × (g ≡ f)
CheckErrRow takes_memory s a f b g = IsSaid takes_memory (check_status_line s) a f b g
