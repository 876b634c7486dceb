use Rattle.std.proofs.Common.{arith}
use Rattle.fan.proofs.Looked.{some_longer}
use Rattle.fan.proofs.engine.short_attempt.Goals as goal

pub returns-clause-answer : goal.returns-clause-answer
returns-clause-answer c =
    some_longer c.args.roled.now.case c.args.few c.args.limit c.in_ok-found.found (let l = c.if-limit-few.false in omega arith) c.in_ok-found.ensures.answer
