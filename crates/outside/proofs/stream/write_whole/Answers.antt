use Rattle.std.proofs.Common.{◌≡◌, ◌-◌, arith, take, drop, length}
use Rattle.std.proofs.lemmas.Grind.{common_steps}
use Rattle.outside.proofs.StreamLemmas.{appends_next}
use Rattle.outside.proofs.stream.write_whole.Goals as goal

pub loop-taken-preserved : goal.loop-taken-preserved
loop-taken-preserved g c =
    let left : take (length c.args.bytes.now - c.loop-taken.taken) (drop c.loop-taken.taken c.args.bytes.now) ≡ drop c.loop-taken.taken c.args.bytes.now = grind (arith, common_steps) in
    record {
      within = grind (arith, common_steps);
      appended = appends_next _ (g.F.Write.contents c.loop-taken.writer) _ c.args.bytes.now c.loop-taken.taken c.in-Ok.count c.loop-taken.invariant.appended (rw (← left) c.in-Ok.ensures.bytes);
    }
