use Rattle.std.proofs.Common.{arith}
use Rattle.bench_text.proofs.TextLemmas.{lines-length}
use Rattle.command_steps.proofs.reading.netlist_of.Goals as goal

pub read-requires : goal.read-requires
read-requires c = let few = lines-length c.args.text.now in omega arith
