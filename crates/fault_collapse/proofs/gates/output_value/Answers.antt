use Rattle.std.proofs.Common.{rules}
use Rattle.fault_collapse.proofs.gates.output_value.Goals as goal

pub returns-in-And : goal.returns-in-And
returns-in-And c = search rules
