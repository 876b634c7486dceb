-- The parts of a file as they lie in memory.
use Rattle.stil_write.specs.declared.parts.StilParts.{StilParts}
use Rattle.statement.specs.Stils.{StilFile}

-- the file that they would be
abbrev pub file_of : StilParts → StilFile
file_of p = record { pi = p.pi; po = p.po; chains = p.chains.items; shift_word = p.shift_word.items; items = p.items }
