use Rattle.std.proofs.Common.{◌∙◌, ap, sym}
use Rattle.std.proofs.Math.Bool.{beq}
use Rattle.std.specs.Cmp.{booleans_Decides}
use Rattle.std.proofs.lemmas.Bool.{both_ways}
use Rattle.std.proofs.lemmas.Option.{MatchOption-at_none, MatchOption-at_some}
use Rattle.transition_report.specs.inner.Tables.{any_held}
use Rattle.transition_report.proofs.TableTexts.{tables_found, tables_told}
use Rattle.transition_report.proofs.report_reading.tables.Goals as goal

pub returns-in_default : goal.returns-in_default
returns-in_default c = λ hs ls v e.
    let told = tables_told c.args.held c.args.text.now c.in_ok-holds.rest.now c.in_ok-holds.holds hs ls c.in_ok-holds.ensures v e in
    let none = MatchOption-at_none _ _ c.in_default.is c.in_ok-lines.ensures in
    none ls v.lines told.1

pub returns-else-is_any_held-held : goal.returns-else-is_any_held-held
returns-else-is_any_held-held c = λ hs ls v e.
    let told = tables_told c.args.held c.args.text.now c.in_ok-holds.rest.now c.in_ok-holds.holds hs ls c.in_ok-holds.ensures v e in
    both_ways (beq c.is_any_held.result c.args.held) c.if-is_any_held-held.false
    ((booleans_Decides c.is_any_held.result c.args.held).1 (c.is_any_held.ensures ∙ (ap any_held told.0 ∙ v.told)))

pub returns-then-is_any_held-held : goal.returns-then-is_any_held-held
returns-then-is_any_held-held c =
    tables_found c.args.held c.args.text.now c.in_ok-holds.rest.now c.in_ok-holds.holds c.in-Some.lines c.in_ok-holds.ensures
    (sym c.is_any_held.ensures ∙ (booleans_Decides c.is_any_held.result c.args.held).0 c.if-is_any_held-held.true)
    (MatchOption-at_some _ _ c.in-Some.lines c.in-Some.is c.in_ok-lines.ensures)
