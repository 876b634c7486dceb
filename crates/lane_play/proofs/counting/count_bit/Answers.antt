use Rattle.std.proofs.Common.{not, ap, sym, ◌∙◌}
use Rattle.lane_play.specs.inner.Lanes.{lane}
use Rattle.lane_play.specs.inner.Verdicts.{is_open}
use Rattle.lane_play.specs.Counted.{on_one, on_other}
use Rattle.lane_play.proofs.CountedLemmas.{none_more, told_side, untold_side, word_more}
use Rattle.lane_play.proofs.VerdictLemmas.{said_as}
use Rattle.lane_play.proofs.counting.count_bit.Goals as goal

pub returns-then-is_none-clause-one : goal.returns-then-is_none-clause-one
returns-then-is_none-clause-one g c =
    let says = g.S.Judge.says c.args.sides.now in
    let side = g.S.Sides.side c.args.sides.now in
    let say = says c.args.cycle c.args.output c.args.strobe in
    let said = c.ask.result in
    none_more (on_one says side c.args.cycle c.args.output c.args.strobe) c.args.shown c.args.counts.one.items c.requires.one
    (untold_side say (side c.args.cycle c.args.output) c.args.shown c.told-told.result (c.is_none.ensures.none c.if-is_none.true)
    (λ k low. c.told-told.ensures k low
    ∙ ap (λ x. not (is_open x)) (said_as said.zero said.one said.unknown say c.ask.ensures.zero c.ask.ensures.one c.ask.ensures.unknown (lane k c.args.shown))))

pub returns-then-is_none-clause-other : goal.returns-then-is_none-clause-other
returns-then-is_none-clause-other g c =
    let says = g.S.Judge.says c.args.sides.now in
    let side = g.S.Sides.side c.args.sides.now in
    let say = says c.args.cycle c.args.output c.args.strobe in
    let said = c.ask.result in
    none_more (on_other says side c.args.cycle c.args.output c.args.strobe) c.args.shown c.args.counts.other.items c.requires.other
    (untold_side say (not (side c.args.cycle c.args.output)) c.args.shown c.told-told.result (c.is_none.ensures.none c.if-is_none.true)
    (λ k low. c.told-told.ensures k low
    ∙ ap (λ x. not (is_open x)) (said_as said.zero said.one said.unknown say c.ask.ensures.zero c.ask.ensures.one c.ask.ensures.unknown (lane k c.args.shown))))

pub returns-in_ok-one-clause-one : goal.returns-in_ok-one-clause-one
returns-in_ok-one-clause-one g c =
    let says = g.S.Judge.says c.args.sides.now in
    let side = g.S.Sides.side c.args.sides.now in
    let say = says c.args.cycle c.args.output c.args.strobe in
    let said = c.ask.result in
    word_more (on_one says side c.args.cycle c.args.output c.args.strobe) c.args.shown c.told-told.result c.args.counts.one.items c.in_ok-one.one.items c.requires.one
    (told_side say (side c.args.cycle c.args.output) c.args.shown c.told-told.result (sym c.is_on_one.ensures ∙ c.if-is_on_one.true)
    (λ k low. c.told-told.ensures k low
    ∙ ap (λ x. not (is_open x)) (said_as said.zero said.one said.unknown say c.ask.ensures.zero c.ask.ensures.one c.ask.ensures.unknown (lane k c.args.shown))))
    c.in_ok-one.ensures.size c.in_ok-one.ensures.each

pub returns-in_ok-other-clause-other : goal.returns-in_ok-other-clause-other
returns-in_ok-other-clause-other g c =
    let says = g.S.Judge.says c.args.sides.now in
    let side = g.S.Sides.side c.args.sides.now in
    let say = says c.args.cycle c.args.output c.args.strobe in
    let said = c.ask.result in
    word_more (on_other says side c.args.cycle c.args.output c.args.strobe) c.args.shown c.told-told.result c.args.counts.other.items c.in_ok-other.other.items c.requires.other
    (told_side say (not (side c.args.cycle c.args.output)) c.args.shown c.told-told.result (ap not (sym c.is_on_one.ensures ∙ c.if-is_on_one.false))
    (λ k low. c.told-told.ensures k low
    ∙ ap (λ x. not (is_open x)) (said_as said.zero said.one said.unknown say c.ask.ensures.zero c.ask.ensures.one c.ask.ensures.unknown (lane k c.args.shown))))
    c.in_ok-other.ensures.size c.in_ok-other.ensures.each
