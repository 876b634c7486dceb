use Rattle.std.proofs.Common.{◌++◌, ap, codes, rules}
use Rattle.statement.specs.Benches.{Text}
use Rattle.commands.proofs.Saying.{said_so}
use Rattle.atpg_top.proofs.lines.tell.Goals as goal

pub returns-in-BadPrefix : goal.returns-in-BadPrefix
returns-in-BadPrefix g c =
    rw c.in-BadPrefix.is (said_so _ _ _ _ _ _ _ (ap (λ (t : Text). codes "prefix names no file: " ++ (t ++ codes "\n")) c.as_bytes-in-BadPrefix.ensures.value) c.say_word.ensures)

pub returns-in-WritesOver : goal.returns-in-WritesOver
returns-in-WritesOver g c = rw c.in-WritesOver.is c.say_name.ensures

pub returns-in-Command-Ended : goal.returns-in-Command-Ended
returns-in-Command-Ended g c = search rules
