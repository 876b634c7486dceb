-- What a STIL text stands for.
use Rattle.std.specs.Prelude.{◌≡◌, ⊤, Result, Ok, Err}
use Rattle.statement.specs.Benches.{Text}
use Rattle.statement.specs.Stils.{StilFile, stil_text}
use Rattle.stil_write.specs.StilFiles.{IsStilFile}
use Rattle.stil_read.specs.Tokens.{tokens}
use Rattle.stil_read.specs.declared.reader.StilFault.{StilFault}
use Rattle.stil_read.specs.declared.reader.StilFault.TheVariants as fault

-- The bytes stand for the file whose written text has the same tokens.
pub record StandsFor (bytes : Text) (f : StilFile) : Type 0 where
  pub is_file : IsStilFile f
  pub tokens_are : tokens bytes ≡ tokens (stil_text f)

-- what reading answers: the file, or that there is none
abbrev pub IsReadStil : Text → Result StilFile StilFault → Type 0
IsReadStil bytes (Ok f) = StandsFor bytes f
IsReadStil bytes (Err fault.NotStil) = (f : StilFile) → ¬ StandsFor bytes f
IsReadStil bytes (Err fault.NoMemory) = ⊤
