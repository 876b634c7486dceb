use Rattle.std.proofs.Common.{arith}
use Rattle.std.proofs.lemmas.Grind.{common_steps}
use Rattle.scan_insert.proofs.Dealing.{placed_short}
use Rattle.scan_insert.proofs.chains.place_of.Goals as goal

pub returns-else-at-in_long : goal.returns-else-at-in_long
returns-else-at-in_long c = placed_short c.args.cells c.args.count c.args.at c.requires.some c.requires.enough c.requires.within c.if-at-in_long.false

pub returns-then-at-in_long : goal.returns-then-at-in_long
returns-then-at-in_long c = grind (arith, common_steps)
