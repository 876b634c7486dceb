use Rattle.lane_play.proofs.PlayedLemmas.{verdicts_keep}
use Rattle.lane_play.proofs.judging.VerdictsWatch.hear.Goals as goal

pub returns : goal.returns
returns g c =
    let old = c.args.self.found.items in
    let v = c.judge_row.result in
    verdicts_keep (g.J.Judge.says c.args.judge.now) (g.met.J.Judge.open c.args.judge.now) c.args.number c.args.strobes.now c.args.shown.now old v.found.items v.few c.judge_row.ensures
