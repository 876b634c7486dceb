use Rattle.std.proofs.Common.{◌++◌, ◌∙◌, ℕ, List, ap, codes}
use Rattle.std.specs.List.{flat_map}
use Rattle.report.specs.declared.counts.ReportCounts.{ReportCounts}
use Rattle.statement.specs.Reports.{Line, fault_line}
use Rattle.report.specs.Reports.{Hold, Times}
use Rattle.report.specs.Texts.{head, counts_text, unasked_line, share_line, times_text, hold_line}
use Rattle.report.proofs.WriteLemmas.{eight_parts}
use Rattle.report.proofs.writing.push_report.Goals as goal

pub returns : goal.returns
returns c =
    let r = c.args.report.now in
    let old = c.args.out.now.items in
    let x = c.push_head.new.out.items in
    let y = c.push_counts.new.out.items in
    let m = c.push_some.new.out.items in
    let z = c.push_share.new.out.items in
    let u = c.push_share-2.new.out.items in
    let t = c.push_times.new.out.items in
    let v = c.push_holds.new.out.items in
    eight_parts old (head r.times.most r.counts.unasked r.holds) (counts_text r.counts) (unasked_line r.counts.unasked) (share_line (codes "coverage ") r.coverage)
    (share_line (codes "efficiency ") r.efficiency) (times_text r.times) (flat_map hold_line r.holds) (flat_map fault_line r.lines)
    x y m z u t v c.push_faults.new.out.items
    (c.in_ok-push_head.ensures ∙ (ap (λ (n : ℕ). old ++ head n c.counts-counts.result.unasked c.holds.result.now) c.most.ensures
    ∙ (ap (λ (k : Times). old ++ head k.most c.counts-counts.result.unasked c.holds.result.now) c.times-times.ensures
    ∙ (ap (λ (k : ReportCounts). old ++ head r.times.most k.unasked c.holds.result.now) c.counts-counts.ensures
    ∙ ap (λ (h : List Hold). old ++ head r.times.most r.counts.unasked h) c.holds.ensures))))
    (c.in_ok-push_counts.ensures ∙ ap (λ (k : ReportCounts). x ++ counts_text k) c.counts-counts.ensures)
    (c.in_ok-push_some.ensures ∙ ap (λ (k : ReportCounts). y ++ unasked_line k.unasked) c.counts-counts.ensures)
    (c.in_ok-push_share.ensures ∙ ap (λ (k : ℕ). m ++ share_line (codes "coverage ") k) c.coverage.ensures)
    (c.in_ok-push_share-2.ensures ∙ ap (λ (k : ℕ). z ++ share_line (codes "efficiency ") k) c.efficiency.ensures)
    (c.in_ok-push_times.ensures ∙ ap (λ (k : Times). u ++ times_text k) c.times-times.ensures)
    (c.in_ok-push_holds.ensures ∙ ap (λ (h : List Hold). t ++ flat_map hold_line h) c.holds-2.ensures)
    (c.in_ok-push_faults.ensures ∙ ap (λ (ls : List Line). v ++ flat_map fault_line ls) c.lines.ensures)
