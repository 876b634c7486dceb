use Rattle.std.proofs.Common.{◌<◌, length, arith}
use Rattle.diagnose.proofs.Batches.{suspects_more}
use Rattle.diagnose.proofs.suspects.all_suspects.Goals as goal

pub loop-class-preserved : goal.loop-class-preserved
loop-class-preserved c =
    let t = c.loop-class-test.true in
    let n = c.count-class-end.ensures in
    let l : c.loop-class.class < length c.args.classes.now.representatives = omega arith in
    suspects_more c.args.scanned.now.sites c.args.classes.now.representatives c.loop-class.class c.suspect.result c.loop-class.suspects.items c.push.new.suspects.items l c.suspect.ensures
    c.in_ok-push.ensures c.loop-class.invariant
