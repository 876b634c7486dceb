-- The numbers of the statuses and their lines on the error output.
use Rattle.std.specs.Prelude.{◌++◌, ℕ, List, [], codes, decimal, slice_index_or}
use Rattle.statement.specs.Benches.{Text}
use Rattle.commands.specs.Names.{file_name_of}
use Rattle.commands.specs.declared.ending.Finding.TheVariants.{Fine, Differs}
use Rattle.commands.specs.declared.ending.Ending.{Ending}
use Rattle.commands.specs.declared.ending.Ending.TheVariants.{Ended, Refused, ReadFailed, WriteFailed, Missing, TooLong, Memory}
use Rattle.commands.specs.Lines.{failure_line, netlist_line}
use Rattle.command_steps.specs.declared.refusal.Refusal.{Refusal}
use Rattle.command_steps.specs.declared.refusal.Refusal.TheVariants.{Netlist, Order, NoSuchFault, NoSuchInput, NotStil, NotCertificate, NotReport, NotLog, NoFaultAt, StilDoesNotFit}
use Rattle.cell_order.specs.declared.refusal.OrderRefusal.{OrderRefusal}
use Rattle.cell_order.specs.declared.refusal.OrderRefusal.TheVariants.{NotOrder, NotCell, Twice, LeftOut, TooMany, Uneven}
use Rattle.atpg_top.specs.declared.status.Status.{Status}
use Rattle.atpg_top.specs.declared.status.Status.TheVariants.{BadWords, BadHold, BadPrefix, WritesOver, Command}

abbrev pub refusal_code : Refusal → ℕ
refusal_code (Netlist refusal) = 3
refusal_code (Order refusal) = 4
refusal_code NoSuchFault = 2
refusal_code (NoSuchInput place) = 2
refusal_code NotStil = 4
refusal_code NotCertificate = 4
refusal_code NotReport = 4
refusal_code NotLog = 4
refusal_code (NoFaultAt number) = 4
refusal_code StilDoesNotFit = 4

abbrev pub ending_code : Ending Refusal → ℕ
ending_code (Ended Fine) = 0
ending_code (Ended Differs) = 1
ending_code (Refused refusal) = refusal_code refusal
ending_code (ReadFailed name) = 5
ending_code (WriteFailed failure) = 6
ending_code (Missing name) = 7
ending_code (TooLong name) = 8
ending_code Memory = 9

abbrev pub status_code : Status → ℕ
status_code (BadWords text) = 2
status_code BadHold = 2
status_code (BadPrefix prefix) = 2
status_code (WritesOver name) = 2
status_code (Command ending) = ending_code ending

-- names and cells are counted from 1
abbrev pub order_line : OrderRefusal → Text
order_line NotOrder = codes "not an order\n"
order_line (NotCell number) = codes "order name " ++ (decimal number ++ codes ": no such cell\n")
order_line (Twice number) = codes "order name " ++ (decimal number ++ codes ": the cell stands twice\n")
order_line (LeftOut number) = codes "order leaves out cell " ++ (decimal number ++ codes " of the netlist\n")
order_line TooMany = codes "order has too many chains\n"
order_line Uneven = codes "order has uneven chains\n"

-- the names are those of the inputs that are to be held
abbrev pub refusal_line : List Text → Refusal → Text
refusal_line names (Netlist refusal) = netlist_line refusal
refusal_line names (Order refusal) = order_line refusal
refusal_line names NoSuchFault = codes "no such fault\n"
refusal_line names (NoSuchInput place) = codes "no such input: " ++ (slice_index_or names place [] ++ codes "\n")
refusal_line names NotStil = codes "not a stil file\n"
refusal_line names NotCertificate = codes "not a certificate\n"
refusal_line names NotReport = codes "not a report\n"
refusal_line names NotLog = codes "not a fail log\n"
refusal_line names (NoFaultAt number) = codes "fault list line " ++ (decimal number ++ codes ": no such fault\n")
refusal_line names StilDoesNotFit = codes "stil does not fit\n"

-- the line of an ending; one that did its work has none
abbrev pub ending_line : List Text → Ending Refusal → Text
ending_line names (Ended finding) = []
ending_line names (Refused refusal) = refusal_line names refusal
ending_line names (ReadFailed name) = codes "read failed: " ++ (file_name_of name ++ codes "\n")
ending_line names (WriteFailed failure) = failure_line failure
ending_line names (Missing name) = codes "no such file: " ++ (file_name_of name ++ codes "\n")
ending_line names (TooLong name) = codes "too long: " ++ (file_name_of name ++ codes "\n")
ending_line names Memory = codes "out of memory\n"

-- the line of a status; that of bad words is the parser's text
abbrev pub status_line : List Text → Status → Text
status_line names (BadWords text) = text.now
status_line names BadHold = codes "bad hold\n"
status_line names (BadPrefix prefix) = codes "prefix names no file: " ++ (prefix.now ++ codes "\n")
status_line names (WritesOver name) = codes "would write over: " ++ (file_name_of name ++ codes "\n")
status_line names (Command ending) = ending_line names ending
