use Rattle.std.proofs.Common.{codes}
use Rattle.std.specs.List.{flat_map}
use Rattle.report.specs.Texts.{hold_line}
use Rattle.unknown_report.specs.Reports.{chains_line, counts_line, ended, unknown_line}
use Rattle.unknown_report.proofs.WriteLemmas.{six_parts}
use Rattle.unknown_report.proofs.writing.push_report.Goals as goal

pub returns : goal.returns
returns c =
    let r = c.args.report.now in
    six_parts c.args.out.now.items (codes "atpg unknown report 1\n") (chains_line r.chains) (flat_map unknown_line r.unknown) (flat_map hold_line r.holds)
    (counts_line r.counts) (flat_map ended r.lines) c.extend_from_slice.new.self.items c.push_numbered.new.out.items c.push_unknowns.new.out.items
    c.push_holds.new.out.items c.push_counts.new.out.items c.push_lines.new.out.items
    c.in_ok-extend_from_slice.ensures.items c.in_ok-push_numbered.ensures c.in_ok-push_unknowns.ensures c.in_ok-push_holds.ensures c.in_ok-push_counts.ensures
    c.in_ok-push_lines.ensures
