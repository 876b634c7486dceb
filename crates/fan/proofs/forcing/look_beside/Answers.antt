use Rattle.std.proofs.Common.{not}
use Rattle.fan.proofs.Steps.{test_there}
use Rattle.fan.proofs.forcing.look_beside.Goals as goal

pub returns-in-Test : goal.returns-in-Test
returns-in-Test c = test_there c.requires.chosen c.go.new.labels (not c.args.aim.bit) c.in-Test.point c.in-Test.ensures.0 c.in-Test.ensures.1
