use Rattle.std.proofs.Common.{◌≡◌, ◌++◌, codes, subst}
use Rattle.statement.specs.Benches.{Text}
use Rattle.report.specs.declared.counts.ReportCounts.{ReportCounts}
use Rattle.atpg_top.specs.Sweeps.{number_line}
use Rattle.atpg_top.proofs.SweepLemmas.{shown_lines}
use Rattle.atpg_top.proofs.sweeping.text_of.Goals as goal

abbrev text_by : ReportCounts → Text
text_by counts =
    number_line (codes "gates ") counts.gates ++ (number_line (codes "cells ") counts.cells ++ (number_line (codes "faults ") counts.faults ++ (number_line (codes "classes ") counts.classes
    ++ (number_line (codes "detected ") counts.detected ++ (number_line (codes "redundant ") counts.redundant ++ (number_line (codes "aborted ") counts.aborted
    ++ (number_line (codes "patterns ") counts.patterns ++ (number_line (codes "cycles ") counts.cycles ++ codes "play ok\n"))))))))

pub returns : goal.returns
returns c =
    let counts = c.counts-counts.result in
    subst (λ (k : ReportCounts). c.push_test.new.text.items ≡ text_by k) c.counts-counts.ensures
    (shown_lines (number_line (codes "gates ") counts.gates) (number_line (codes "cells ") counts.cells) (number_line (codes "faults ") counts.faults) (number_line (codes "classes ") counts.classes)
    (number_line (codes "detected ") counts.detected) (number_line (codes "redundant ") counts.redundant) (number_line (codes "aborted ") counts.aborted)
    (number_line (codes "patterns ") counts.patterns) (number_line (codes "cycles ") counts.cycles) (codes "play ok\n")
    c.new-text.result.items c.push_sizes.new.text.items c.push_outcomes.new.text.items c.push_test.new.text.items
    c.new-text.ensures.items c.in_ok-push_sizes.ensures c.in_ok-push_outcomes.ensures c.in_ok-push_test.ensures)
