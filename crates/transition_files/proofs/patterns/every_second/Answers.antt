use Rattle.std.proofs.Common.{not, sym, ◌∙◌, ap}
use Rattle.transition_files.proofs.LaunchBack.{even_more, seconds_more}
use Rattle.transition_files.proofs.patterns.every_second.Goals as goal

pub loop-pattern-preserved : goal.loop-pattern-preserved
loop-pattern-preserved c =
    let i = c.loop-pattern.invariant in
    record {
      kept = seconds_more c.loop-pattern.yielded c.in-Some.pattern c.loop-pattern.is_launch c.loop-pattern.kept.items c.push_if.new.kept.items i.kept i.turn c.in_ok-push_if.ensures;
      turn = ap not i.turn ∙ sym (even_more c.loop-pattern.yielded c.in-Some.pattern);
    }
