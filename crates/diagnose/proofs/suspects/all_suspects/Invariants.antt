use Rattle.std.proofs.Common.{◌≡◌, map, take}
use Rattle.diagnose.specs.inner.Answers.{at_site}
use Rattle.diagnose.proofs.suspects.all_suspects.Given as goal

abbrev pub invariant-loop-class : goal.invariant-loop-class
invariant-loop-class l = l.suspects.items ≡ map (at_site l.scanned.sites) (take l.class l.classes.representatives)
