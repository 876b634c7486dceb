-- What a list of held inputs gives.
use Rattle.std.specs.Prelude.{◌≡◌, ⊤, List, Option, Some, None, Result, Ok, Err, Vec, map}
use Rattle.std.specs.declared.alloc.Global.{Global}
use Rattle.command_line.specs.CommandLine.{hold_of}
use Rattle.command_line.specs.HoldLists.{HoldItem}
use Rattle.command_line.specs.declared.holds.Held.{Held}
use Rattle.command_line.specs.declared.requests.NoRequest.{NoRequest}
use Rattle.command_line.specs.declared.requests.NoRequest.TheVariants as none

-- the inputs are these, or there are none and the list is bad, or memory was refused
abbrev pub AreHeld : Option (List HoldItem) → Result (Vec Held Global) NoRequest → Type 0
AreHeld holds (Ok held) = holds ≡ Some (map hold_of held.items)
AreHeld holds (Err none.BadHold) = holds ≡ None
AreHeld holds (Err none.NoMemory) = ⊤
AreHeld holds (Err _) = ⊥
