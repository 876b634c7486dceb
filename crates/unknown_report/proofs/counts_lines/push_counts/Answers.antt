use Rattle.std.proofs.Common.{codes}
use Rattle.unknown_report.specs.Reports.{numbered}
use Rattle.unknown_report.proofs.WriteLemmas.{five_parts}
use Rattle.unknown_report.proofs.counts_lines.push_counts.Goals as goal

pub returns : goal.returns
returns c =
    let k = c.args.counts in
    five_parts c.args.out.now.items (numbered (codes "faults ") 32 k.faults) (numbered (codes "detected ") 32 k.detected) (numbered (codes "redundant ") 32 k.redundant)
    (numbered (codes "undetected ") 32 k.undetected) (numbered (codes "unknown ") 10 k.unknown)
    c.push_numbered.new.out.items c.push_numbered-2.new.out.items c.push_numbered-3.new.out.items c.push_numbered-4.new.out.items c.push_numbered-5.new.out.items
    c.in_ok-push_numbered.ensures c.in_ok-push_numbered-2.ensures c.in_ok-push_numbered-3.ensures c.in_ok-push_numbered-4.ensures c.in_ok-push_numbered-5.ensures
