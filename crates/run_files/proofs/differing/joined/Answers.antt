use Rattle.run_files.proofs.JoinLemmas.{joined_more}
use Rattle.run_files.proofs.differing.joined.Goals as goal

pub loop-pattern-preserved : goal.loop-pattern-preserved
loop-pattern-preserved c =
    joined_more c.args.patterns.items c.loop-pattern.yielded c.loop-pattern.all.items c.add_new.new.patterns.items c.in-Some.pattern c.loop-pattern.invariant
    c.in_ok-add_new.ensures
