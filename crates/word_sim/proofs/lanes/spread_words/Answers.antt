use Rattle.std.proofs.Common.{◌<◌, length, refl, sym, ap, subst, arith}
use Rattle.std.proofs.lemmas.List.{get_or_default}
use Rattle.statement.specs.Netlists.{Netlist, signals}
use Rattle.events.specs.Standing.{Standing}
use Rattle.regions.specs.declared.fours.Four.{Four}
use Rattle.word_sim.proofs.Spreading.{one_spread, all_spread}
use Rattle.word_sim.proofs.lanes.spread_words.Goals as goal

pub loop-x-init : goal.loop-x-init
loop-x-init c = (refl, c.requires.size, refl)

pub put-requires : goal.put-requires
put-requires c =
    let l = c.loop-x-test.true in
    let size = c.requires.within in
    subst (λ (m : Netlist). c.loop-x.x < length (signals m)) (sym (ap (λ (s : Standing Four). s.netlist) c.loop-x.invariant.0)) (omega arith)

pub loop-x-preserved : goal.loop-x-preserved
loop-x-preserved c =
    one_spread c.args.values.now c.args.wide.now c.loop-x.wide c.put.new.self c.loop-x.x _ c.all.result c.loop-x.invariant c.loop-x-test.true c.put.ensures c.all.ensures (get_or_default c.args.values.now c.loop-x.x _ _ c.loop-x-test.true)

pub returns : goal.returns
returns c =
    let past = c.loop-x-test.false in
    all_spread c.args.values.now c.args.wide.now c.loop-x.wide c.loop-x.x c.loop-x.invariant (omega arith)
