use Rattle.std.proofs.Common.{◌∙◌, ◌++◌, ap, codes, decimal}
use Rattle.statement.specs.Benches.{Text}
use Rattle.command_steps.specs.Runs.{unasked_words}
use Rattle.command_steps.proofs.LineLemmas.{six_counts}
use Rattle.command_steps.proofs.five_files.tests_line.Goals as goal

pub returns : goal.returns
returns c =
    let counts = c.args.counts in
    six_counts (codes "faults ") (decimal counts.faults) (codes " detected ") (decimal counts.detected) (codes " redundant ") (decimal counts.redundant) (codes " aborted ") (decimal counts.aborted)
    (unasked_words counts.unasked) (codes " patterns ") (decimal counts.patterns) (codes " cycles ") (decimal counts.cycles) (codes "\n")
    c.push_count.new.line.items c.push_count-2.new.line.items c.push_count-3.new.line.items c.push_count-4.new.line.items c.push_unasked.new.line.items c.push_count-5.new.line.items c.push_count-6.new.line.items
    c.extend_from_slice.new.self.items
    (c.in_ok-push_count.ensures ∙ ap (λ (l : Text). l ++ (codes "faults " ++ decimal counts.faults)) c.new-line.ensures.items)
    c.in_ok-push_count-2.ensures c.in_ok-push_count-3.ensures c.in_ok-push_count-4.ensures c.in_ok-push_unasked.ensures c.in_ok-push_count-5.ensures c.in_ok-push_count-6.ensures c.in_ok-extend_from_slice.ensures.items
