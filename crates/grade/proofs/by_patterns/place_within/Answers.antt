use Rattle.grade.proofs.Graded.{none_within, some_within}
use Rattle.grade.proofs.by_patterns.place_within.Goals as goal

pub returns-in-None : goal.returns-in-None
returns-in-None c = none_within c.args.told c.args.start c.in-None.is

pub returns-in-Some : goal.returns-in-Some
returns-in-Some c = some_within c.args.told c.in-Some.place _ c.args.start c.offset_within.result c.in-Some.is c.offset_within.ensures
