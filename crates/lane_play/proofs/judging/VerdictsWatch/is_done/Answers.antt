use Rattle.lane_play.proofs.PlayedLemmas.{verdicts_stay}
use Rattle.lane_play.proofs.judging.VerdictsWatch.is_done.Goals as goal

pub returns : goal.returns
returns g c = λ done j.
    let v = c.args.self.now in
    verdicts_stay (g.J.Judge.says j) v.found.items v.left v.few v.lefts (c.is_none.ensures.none done)
