use Rattle.std.proofs.Common.{◌∙◌, sym}
use Rattle.std.proofs.lemmas.Option.{MatchOption-at_none, MatchOption-at_some}
use Rattle.transition_report.proofs.ReportTexts.{after_counts, after_coverage, after_efficiency, after_head, behind_counts, behind_coverage, behind_head, behind_shares, report_found, text_is}
use Rattle.transition_report.specs.inner.Tables.{any_held}
use Rattle.transition_report.proofs.report_reading.report.Goals as goal

pub returns-in_default : goal.returns-in_default
returns-in_default c = λ r v e. c.in_default.ensures (any_held r.holds) (behind_head r) (e ∙ text_is r)

pub returns-in_default-asked_counts : goal.returns-in_default-asked_counts
returns-in_default-asked_counts c = λ r v e.
    let heads = after_head r c.args.bytes.now c.in-Some.behind_head.now c.in-Some.held e c.in-Some.ensures in
    c.in_default-asked_counts.ensures r.counts (behind_counts r) v.counts heads.1

pub returns-in_default-share : goal.returns-in_default-share
returns-in_default-share c = λ r v e.
    let heads = after_head r c.args.bytes.now c.in-Some.behind_head.now c.in-Some.held e c.in-Some.ensures in
    let counts = after_counts r v c.in-Some.behind_head.now c.in-Some-asked_counts.behind_counts.now c.in-Some-asked_counts.counts heads.1 c.in-Some-asked_counts.ensures in
    c.in_default-share.ensures r.coverage (behind_coverage r) v.coverage counts.1

pub returns-in_default-share-2 : goal.returns-in_default-share-2
returns-in_default-share-2 c = λ r v e.
    let heads = after_head r c.args.bytes.now c.in-Some.behind_head.now c.in-Some.held e c.in-Some.ensures in
    let counts = after_counts r v c.in-Some.behind_head.now c.in-Some-asked_counts.behind_counts.now c.in-Some-asked_counts.counts heads.1 c.in-Some-asked_counts.ensures in
    let coverage = after_coverage r v c.in-Some-asked_counts.behind_counts.now c.in-Some-share.behind_coverage.now c.in-Some-share.coverage counts.1 c.in-Some-share.ensures in
    c.in_default-share-2.ensures r.efficiency (behind_shares r) v.efficiency coverage.1

pub returns-in_default-2 : goal.returns-in_default-2
returns-in_default-2 c = λ r v e.
    let heads = after_head r c.args.bytes.now c.in-Some.behind_head.now c.in-Some.held e c.in-Some.ensures in
    let counts = after_counts r v c.in-Some.behind_head.now c.in-Some-asked_counts.behind_counts.now c.in-Some-asked_counts.counts heads.1 c.in-Some-asked_counts.ensures in
    let coverage = after_coverage r v c.in-Some-asked_counts.behind_counts.now c.in-Some-share.behind_coverage.now c.in-Some-share.coverage counts.1 c.in-Some-share.ensures in
    let efficiency = after_efficiency r v c.in-Some-share.behind_coverage.now c.in-Some-share-2.behind_shares.now c.in-Some-share-2.efficiency coverage.1 c.in-Some-share-2.ensures in
    let none = MatchOption-at_none _ _ c.in_default-2.is c.in_ok-holds.ensures in
    none r.holds r.lines (record { holds = v.holds; lines = v.lines; told = sym heads.0 }) efficiency.1

pub returns : goal.returns
returns c =
    report_found c.args.bytes.now c.in-Some.behind_head.now c.in-Some-asked_counts.behind_counts.now c.in-Some-share.behind_coverage.now c.in-Some-share-2.behind_shares.now
    c.in-Some.held c.in-Some-asked_counts.counts c.in-Some-share.coverage c.in-Some-share-2.efficiency c.in-Some-2.holds c.in-Some-2.lines
    c.in-Some.ensures c.in-Some-asked_counts.ensures c.in-Some-share.ensures c.in-Some-share-2.ensures
    (MatchOption-at_some _ _ (c.in-Some-2.holds, c.in-Some-2.lines) c.in-Some-2.is c.in_ok-holds.ensures)
