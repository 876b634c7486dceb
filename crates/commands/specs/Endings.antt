-- The number and the line of how a command ends, by those of its refusals.
use Rattle.std.specs.Prelude.{◌++◌, ℕ, [], codes}
use Rattle.statement.specs.Benches.{Text}
use Rattle.commands.specs.Names.{file_name_of}
use Rattle.commands.specs.declared.ending.Finding.TheVariants.{Fine, Differs}
use Rattle.commands.specs.declared.ending.Ending.{Ending}
use Rattle.commands.specs.declared.ending.Ending.TheVariants.{Ended, Refused, ReadFailed, WriteFailed, Missing, TooLong, Memory}
use Rattle.commands.specs.Lines.{failure_line}

abbrev pub ending_code : {R : Type 0} → (R → ℕ) → Ending R → ℕ
ending_code refusal_code (Ended Fine) = 0
ending_code refusal_code (Ended Differs) = 1
ending_code refusal_code (Refused refusal) = refusal_code refusal
ending_code refusal_code (ReadFailed name) = 5
ending_code refusal_code (WriteFailed failure) = 6
ending_code refusal_code (Missing name) = 7
ending_code refusal_code (TooLong name) = 8
ending_code refusal_code Memory = 9

-- one that did its work has no line
abbrev pub ending_line : {R : Type 0} → (R → Text) → Ending R → Text
ending_line refusal_line (Ended finding) = []
ending_line refusal_line (Refused refusal) = refusal_line refusal
ending_line refusal_line (ReadFailed name) = codes "read failed: " ++ (file_name_of name ++ codes "\n")
ending_line refusal_line (WriteFailed failure) = failure_line failure
ending_line refusal_line (Missing name) = codes "no such file: " ++ (file_name_of name ++ codes "\n")
ending_line refusal_line (TooLong name) = codes "too long: " ++ (file_name_of name ++ codes "\n")
ending_line refusal_line Memory = codes "out of memory\n"
