use Rattle.std.proofs.Common.{◌++◌, ◌∙◌, ℕ, List, ap, codes, sym}
use Rattle.std.specs.List.{flat_map}
use Rattle.report.specs.Texts.{counts_text, hold_line, share_line}
use Rattle.statement.specs.Reports.{fault_line}
use Rattle.transition_report.specs.Texts.{transition_head}
use Rattle.transition_report.specs.inner.Tables.{head_line}
use Rattle.transition_report.proofs.TableTexts.{head_is}
use Rattle.transition_report.proofs.WriteLemmas.{six_parts}
use Rattle.transition_report.proofs.reporting.push_report.Goals as goal

pub returns : goal.returns
returns c =
    let r = c.args.report.now in
    let old = c.args.out.now.items in
    six_parts old (transition_head r.holds) (counts_text r.counts) (share_line (codes "coverage ") r.coverage)
    (share_line (codes "efficiency ") r.efficiency) (flat_map hold_line r.holds) (flat_map fault_line r.lines) c.extend_from_slice.new.self.items
    c.push_counts.new.out.items c.push_share.new.out.items c.push_share-2.new.out.items c.push_holds.new.out.items c.push_faults.new.out.items
    (c.in_ok-extend_from_slice.ensures.items
    ∙ ap (λ (t : List ℕ). old ++ t) (c.head_line.ensures ∙ (ap head_line c.is_any_held.ensures ∙ sym (head_is r.holds))))
    c.in_ok-push_counts.ensures
    c.in_ok-push_share.ensures c.in_ok-push_share-2.ensures c.in_ok-push_holds.ensures c.in_ok-push_faults.ensures
