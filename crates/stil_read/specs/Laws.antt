-- Laws of reading.
use Rattle.std.specs.Prelude.{◌≡◌, ◌≤◌, length}
use Rattle.statement.specs.Benches.{Text}
use Rattle.statement.specs.Stils.{StilFile, stil_text}
use Rattle.stil_write.specs.StilFiles.{IsStilFile}
use Rattle.stil_read.specs.Reading.{StandsFor}

-- bytes stand for one file at most
abbrev pub AtMostOne : Type 0
AtMostOne = (bytes : Text) (f g : StilFile) → StandsFor bytes f → StandsFor bytes g → f ≡ g

-- a written text stands for its file
abbrev pub WrittenStands : Type 0
WrittenStands = (f : StilFile) → IsStilFile f → StandsFor (stil_text f) f

-- A text has at least as many bytes as its file has items.
abbrev pub ItemsTakeBytes : Type 0
ItemsTakeBytes = (bytes : Text) (f : StilFile) → StandsFor bytes f → length f.items ≤ length bytes
