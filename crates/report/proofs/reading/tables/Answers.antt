use Rattle.std.proofs.Common.{List, sym, ◌∙◌, ap, subst}
use Rattle.std.proofs.lemmas.Bool.{both_ways}
use Rattle.std.proofs.lemmas.Option.{MatchOption-at_none, MatchOption-at_some}
use Rattle.report.specs.Reports.{AreCounted, Hold, Times}
use Rattle.report.specs.inner.Versions.{version_of}
use Rattle.report.proofs.WholeLemmas.{tables_found, tables_told}
use Rattle.report.proofs.reading.tables.Goals as goal

pub returns-then-not-are_counted : goal.returns-then-not-are_counted
returns-then-not-are_counted c = λ ts hs ls v e.
    let told = tables_told c.args.text.now c.in_ok-times.times ts c.in_ok-holds.holds hs ls c.in_ok-times.behind_times.now c.in_ok-holds.rest.now
    c.in_ok-times.ensures c.in_ok-holds.ensures v.times v.holds v.lines e in
    both_ways c.are_counted.result c.if-not-are_counted.true (c.are_counted.ensures.1 (subst AreCounted (sym told.0) v.times))

pub returns-then-not-is_of : goal.returns-then-not-is_of
returns-then-not-is_of c = λ ts hs ls v e.
    let told = tables_told c.args.text.now c.in_ok-times.times ts c.in_ok-holds.holds hs ls c.in_ok-times.behind_times.now c.in_ok-holds.rest.now
    c.in_ok-times.ensures c.in_ok-holds.ensures v.times v.holds v.lines e in
    both_ways c.is_of.result c.if-not-is_of.true
    (c.is_of.ensures.1 (v.version_is ∙ (ap (λ (t : Times). version_of t.most c.args.unasked hs) (sym told.0)
    ∙ (ap (λ (is : List Hold). version_of c.in_ok-times.times.most c.args.unasked is) (sym told.1)
    ∙ ap (λ k. version_of k c.args.unasked c.in_ok-holds.holds) (sym c.most.ensures)))))

pub returns-in_default : goal.returns-in_default
returns-in_default c = λ ts hs ls v e.
    let told = tables_told c.args.text.now c.in_ok-times.times ts c.in_ok-holds.holds hs ls c.in_ok-times.behind_times.now c.in_ok-holds.rest.now
    c.in_ok-times.ensures c.in_ok-holds.ensures v.times v.holds v.lines e in
    let none = MatchOption-at_none _ _ c.in_default.is c.in_ok-lines.ensures in
    none ls v.lines told.2

pub returns : goal.returns
returns c =
    let lines = MatchOption-at_some _ _ c.in-Some.lines c.in-Some.is c.in_ok-lines.ensures in
    tables_found c.args.version c.args.unasked c.args.text.now c.in_ok-times.behind_times.now c.in_ok-holds.rest.now c.in_ok-times.times c.in_ok-holds.holds
    c.in-Some.lines c.in_ok-times.ensures (c.are_counted.ensures.0 c.if-not-are_counted.false) c.in_ok-holds.ensures
    (c.is_of.ensures.0 c.if-not-is_of.false ∙ ap (λ k. version_of k c.args.unasked c.in_ok-holds.holds) c.most.ensures) lines
