use Rattle.std.proofs.Common.{◌≡◌, ◌<◌, ◌+◌, List, ℕ, map, take, ap, sym, subst, ◌∙◌, length, get_or, arith}
use Rattle.std.proofs.lemmas.List.{take_all, get_or_default}
use Rattle.statement.specs.Values.{on_pins}
use Rattle.netlist.specs.Settled.{at, AreRead}
use Rattle.netlist.proofs.Settling.{read_more}
use Rattle.netlist.proofs.rules.read_pins.Goals as goal

pub returns : goal.returns
returns g c =
    let all = take_all c.loop-k.k c.args.ids.now (omega arith) in
    record {
      count = c.loop-k.invariant.count ∙ ap length all;
      each = λ d. c.loop-k.invariant.each d ∙ ap (λ (xs : List ℕ). on_pins (g.L.Logic.rule c.args.logic.now) c.args.id 0 (map (at c.args.values.now d) xs)) all;
    }

pub loop-k-preserved : goal.loop-k-preserved
loop-k-preserved g c =
    let ids = c.args.ids.now in
    let k = c.loop-k.k in
    let l : k < length ids = c.loop-k-test.true in
    let here : c.index.result ≡ get_or ids k 0 = c.index.ensures ∙ (c.index-ids-k.is ∙ get_or_default ids k c.index-ids-k.result 0 l) in
    let low : get_or ids k 0 < length c.args.values.now = c.requires.below k 0 l in
    subst (λ pins. AreRead (g.L.Logic.rule c.args.logic.now) c.args.id c.args.values.now (take (k + 1) ids) pins) (sym c.in_ok-push.ensures.items)
    (read_more (g.L.Logic.rule c.args.logic.now) c.args.id c.args.values.now c.loop-k.pins.items ids k c.index.result c.index-values-index.result c.line-value.result
    c.index-values-index.result c.loop-k.invariant l here (omega arith) c.index-values-index.is c.line-value.ensures)
