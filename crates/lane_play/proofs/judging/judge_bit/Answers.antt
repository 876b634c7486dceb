use Rattle.std.proofs.Common.{not, ap, sym, ◌∙◌}
use Rattle.lane_play.specs.inner.Lanes.{lane}
use Rattle.lane_play.specs.inner.Verdicts.{is_open}
use Rattle.lane_play.proofs.VerdictLemmas.{said_as, untold}
use Rattle.lane_play.proofs.judging.judge_bit.Goals as goal

pub returns-then-is_none : goal.returns-then-is_none
returns-then-is_none g c =
    let say = g.J.Judge.says c.args.judge.now c.args.cycle c.args.output c.args.strobe in
    let said = c.ask-sayings.result in
    untold say c.args.shown c.args.verdicts.found.items c.told.result c.args.verdicts.left c.args.verdicts.few
    (λ k low. c.told.ensures k low
    ∙ ap (λ x. not (is_open x)) (said_as said.zero said.one said.unknown say c.ask-sayings.ensures.zero c.ask-sayings.ensures.one c.ask-sayings.ensures.unknown (lane k c.args.shown)))
    c.args.verdicts.lefts (sym c.and.ensures ∙ c.is_none.ensures.none c.if-is_none.true)
