use Rattle.std.proofs.Common.{codes, refl}
use Rattle.commands.proofs.Saying.{of_three, said_so}
use Rattle.atpg_top.proofs.lines.say_word.Goals as goal

pub returns : goal.returns
returns g c = said_so _ _ _ _ _ _ _ (of_three _ _ _ _ c.args.what.now c.args.word.now (codes "\n") c.as_slice-2.ensures refl refl c.as_slice.ensures) c.say.ensures
