use Rattle.std.proofs.Common.{sym, subst}
use Rattle.std.specs.List.{All, Contains}
use Rattle.std.proofs.lemmas.Bool.{both_ways}
use Rattle.std.proofs.lemmas.List.{take_all}
use Rattle.std.proofs.lemmas.List.Elements.{All-more}
use Rattle.statement.specs.Netlists.{signals}
use Rattle.podem.specs.inner.Searching.{IsKnownAt}
use Rattle.podem.proofs.searching.first_free.Goals as goal
use Rattle.podem.proofs.searching.first_free.Goals.{in-X, in_default}

pub good-requires : goal.good-requires
good-requires c =
    subst (Contains (signals c.args.labels.now.netlist)) (sym c.id-item.is) (c.requires c.loop-id.id-index c.id-item.result c.loop-id-test.true)

pub loop-id-preserved : goal.loop-id-preserved
loop-id-preserved c =
    let s = c.args.labels.now in
    let ids = c.args.ids.now in
    let here : IsKnownAt s c.id-item.result = elim c.match-matches.branch [
      | in-X w ↦ absurd (both_ways c.match-matches.matches c.if-matches.false w.matches-is)
      | in_default w ↦ (c.good.result, c.good.ensures, w.in_default.not-X)
    ] in
    All-more (IsKnownAt s) ids c.loop-id.id-index c.id-item.result c.loop-id-test.true c.loop-id.invariant (subst (IsKnownAt s) c.id-item.is here)

pub returns : goal.returns
returns c =
    subst (All (IsKnownAt c.args.labels.now)) (take_all c.loop-id.id-index c.args.ids.now c.loop-id-test.false) c.loop-id.invariant
