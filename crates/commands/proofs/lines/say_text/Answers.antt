use Rattle.std.proofs.Common.{append-nil}
use Rattle.commands.proofs.Saying.{said_so}
use Rattle.commands.proofs.lines.say_text.Goals as goal

pub returns : goal.returns
returns g c = said_so _ _ _ _ _ _ _ (append-nil c.args.text.now) c.say.ensures
