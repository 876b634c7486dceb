use Rattle.std.proofs.Common.{◌≡◌, ◌∙◌, ap, length, replicate, true}
use Rattle.statement.specs.Faults.{universe_of}
use Rattle.asked_run.proofs.AskLemmas.{all_true}
use Rattle.asked_run.proofs.asking.all_faults.Goals as goal

pub returns : goal.returns
returns c =
    let n = c.args.netlist.now in
    let count : c.len.result ≡ length (universe_of n) = c.len.ensures ∙ ap length c.in_ok-faults.ensures in
    c.in_ok-marks.ensures.items_if_clones_equal (λ y e. e) ∙ (ap (λ k. replicate k true) count ∙ all_true (universe_of n))
