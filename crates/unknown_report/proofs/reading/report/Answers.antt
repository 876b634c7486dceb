use Rattle.std.proofs.lemmas.Option.{MatchOption-at_none, MatchOption-at_some}
use Rattle.unknown_report.proofs.ReportTexts.{behind_head, no_chains, no_counts, no_lines, report_found}
use Rattle.unknown_report.proofs.reading.report.Goals as goal

pub returns-in_default : goal.returns-in_default
returns-in_default c = λ r v e. c.in_default.ensures (behind_head r) e

pub returns-in_default-numbered_in : goal.returns-in_default-numbered_in
returns-in_default-numbered_in c = no_chains c.args.bytes.now c.in-Some.behind_head.now c.in-Some.ensures c.in_default-numbered_in.ensures

pub returns-in_default-counts_in : goal.returns-in_default-counts_in
returns-in_default-counts_in c =
    no_counts c.args.bytes.now c.in-Some.behind_head.now c.in-Some.ensures
    c.in-Some-numbered_in.behind_chains.now c.in_ok-unknown.behind_unknown.now c.in_ok-holds.behind_holds.now c.in-Some-numbered_in.chains
    c.in_ok-unknown.unknown c.in_ok-holds.holds c.in-Some-numbered_in.ensures c.in_ok-unknown.ensures c.in_ok-holds.ensures c.in_default-counts_in.ensures

pub returns-in_default-2 : goal.returns-in_default-2
returns-in_default-2 c =
    no_lines c.args.bytes.now c.in-Some.behind_head.now c.in-Some.ensures
    c.in-Some-numbered_in.behind_chains.now c.in_ok-unknown.behind_unknown.now c.in_ok-holds.behind_holds.now c.in-Some-numbered_in.chains
    c.in_ok-unknown.unknown c.in_ok-holds.holds c.in-Some-numbered_in.ensures c.in_ok-unknown.ensures c.in_ok-holds.ensures
    c.in-Some-counts_in.behind_counts.now c.in-Some-counts_in.counts c.in-Some-counts_in.ensures
    (MatchOption-at_none _ _ c.in_default-2.is c.in_ok-lines.ensures)

pub returns : goal.returns
returns c =
    report_found c.args.bytes.now c.in-Some.behind_head.now c.in-Some.ensures
    c.in-Some-numbered_in.behind_chains.now c.in_ok-unknown.behind_unknown.now c.in_ok-holds.behind_holds.now c.in-Some-numbered_in.chains
    c.in_ok-unknown.unknown c.in_ok-holds.holds c.in-Some-numbered_in.ensures c.in_ok-unknown.ensures c.in_ok-holds.ensures
    c.in-Some-counts_in.behind_counts.now c.in-Some-counts_in.counts c.in-Some-counts_in.ensures
    c.in-Some-2.lines (MatchOption-at_some _ _ c.in-Some-2.lines c.in-Some-2.is c.in_ok-lines.ensures)
