use Rattle.std.proofs.Common.{◌<◌, drop, get_or, length}
use Rattle.std.proofs.lemmas.List.{drop_all, get_or_default}
use Rattle.word_sim.proofs.Untold.{no_hit, none_here, hit_or_other}
use Rattle.word_sim.proofs.last_detected.next_hit.Goals as goal

pub returns-then-next-hits : goal.returns-then-next-hits
returns-then-next-hits c n part f faults told are =
    none_here n part c.args.start c.args.k f faults told (drop c.args.next c.args.hits.now) (drop_all c.args.next c.args.hits.now c.if-next-hits.true) are

pub returns : goal.returns
returns c n part f faults told are =
    let hits = c.args.hits.now in
    let next = c.args.next in
    let h = get_or hits next no_hit in
    let l : c.args.next < length c.args.hits.now = c.if-next-hits.false in
    hit_or_other n part c.args.start c.args.k f faults told hits next h c.told_by_hit.result l (get_or_default hits next no_hit h l) c.told_by_hit.ensures are
