use Rattle.std.proofs.Common.{◌≡◌, ◌∙◌, ap, subst, sym}
use Rattle.std.proofs.lemmas.Option.{MatchOption-at_none, MatchOption-at_some}
use Rattle.report.specs.declared.counts.ReportCounts.{ReportCounts}
use Rattle.report.specs.Reports.{IsReport, Report}
use Rattle.report.specs.Texts.{report_text}
use Rattle.report.specs.inner.Versions.{version_of}
use Rattle.report.proofs.WholeLemmas.{after_counts, after_coverage, after_efficiency, after_head, behind_counts, behind_coverage, behind_head, behind_shares, report_text_is, report_version, whole_found}
use Rattle.report.proofs.reading.report.Goals as goal

pub returns-in_default : goal.returns-in_default
returns-in_default c = λ r v e. c.in_default.ensures (report_version r) (behind_head r) (e ∙ report_text_is r)

pub returns-in_default-counts : goal.returns-in_default-counts
returns-in_default-counts c = λ r v e.
    let heads = after_head r c.args.bytes.now c.in-Some.behind_head.now c.in-Some.version e c.in-Some.ensures in
    c.in_default-counts.ensures r.counts (behind_counts r) v.counts heads.1

pub returns-in_default-share : goal.returns-in_default-share
returns-in_default-share c = λ r v e.
    let heads = after_head r c.args.bytes.now c.in-Some.behind_head.now c.in-Some.version e c.in-Some.ensures in
    let counts = after_counts r c.in-Some.behind_head.now c.in-Some-counts.behind_counts.now c.in-Some-counts.counts v heads.1 c.in-Some-counts.ensures in
    c.in_default-share.ensures r.coverage (behind_coverage r) v.coverage counts.1

pub returns-in_default-share-2 : goal.returns-in_default-share-2
returns-in_default-share-2 c = λ r v e.
    let heads = after_head r c.args.bytes.now c.in-Some.behind_head.now c.in-Some.version e c.in-Some.ensures in
    let counts = after_counts r c.in-Some.behind_head.now c.in-Some-counts.behind_counts.now c.in-Some-counts.counts v heads.1 c.in-Some-counts.ensures in
    let coverage = after_coverage r c.in-Some-counts.behind_counts.now c.in-Some-share.behind_coverage.now c.in-Some-share.coverage v counts.1 c.in-Some-share.ensures in
    c.in_default-share-2.ensures r.efficiency (behind_shares r) v.efficiency coverage.1

pub returns-in_default-2 : goal.returns-in_default-2
returns-in_default-2 c = λ r v e.
    let heads = after_head r c.args.bytes.now c.in-Some.behind_head.now c.in-Some.version e c.in-Some.ensures in
    let counts = after_counts r c.in-Some.behind_head.now c.in-Some-counts.behind_counts.now c.in-Some-counts.counts v heads.1 c.in-Some-counts.ensures in
    let coverage = after_coverage r c.in-Some-counts.behind_counts.now c.in-Some-share.behind_coverage.now c.in-Some-share.coverage v counts.1 c.in-Some-share.ensures in
    let efficiency = after_efficiency r c.in-Some-share.behind_coverage.now c.in-Some-share-2.behind_shares.now c.in-Some-share-2.efficiency v coverage.1 c.in-Some-share-2.ensures in
    let none = MatchOption-at_none _ _ c.in_default-2.is c.in_ok-times.ensures in
    none r.times r.holds r.lines
    (record {
      times = v.times;
      holds = v.holds;
      lines = v.lines;
      version_is = heads.0 ∙ ap (λ (k : ReportCounts). version_of r.times.most k.unasked r.holds) (sym counts.0);
    })
    efficiency.1

pub returns : goal.returns
returns c =
    let tables = MatchOption-at_some _ _ (c.in-Some-2.times, c.in-Some-2.holds, c.in-Some-2.lines) c.in-Some-2.is c.in_ok-times.ensures in
    subst (λ (r : Report). IsReport r × (c.args.bytes.now ≡ report_text r)) (sym c.new.ensures)
    (whole_found c.args.bytes.now c.in-Some.behind_head.now c.in-Some-counts.behind_counts.now c.in-Some-share.behind_coverage.now c.in-Some-share-2.behind_shares.now
    c.in-Some.version c.in-Some-counts.counts c.in-Some-share.coverage c.in-Some-share-2.efficiency c.in-Some-2.times c.in-Some-2.holds c.in-Some-2.lines
    c.in-Some.ensures c.in-Some-counts.ensures c.in-Some-share.ensures c.in-Some-share-2.ensures tables)
