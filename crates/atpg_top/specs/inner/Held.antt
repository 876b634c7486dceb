-- The inputs that are to be held.
use Rattle.std.specs.Prelude.{List, map}
use Rattle.statement.specs.Benches.{Text}
use Rattle.command_line.specs.declared.holds.Held.{Held}

abbrev pub names_held : List Held → List Text
names_held holds = map (λ (h : Held). h.name.now) holds
