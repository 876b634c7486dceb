use Rattle.std.proofs.Common.{◌++◌, ℕ, List, ◌∙◌, ap}
use Rattle.std.specs.List.{flat_map}
use Rattle.statement.specs.Netlists.{Netlist}
use Rattle.transition_report.specs.Texts.{transition_line}
use Rattle.transition_report.proofs.EvidenceLines.{all_named}
use Rattle.transition_report.proofs.NameLemmas.{same_lines}
use Rattle.transition_report.proofs.certificates.push_lines.Goals as goal

pub returns-in-Ok-clause-text : goal.returns-in-Ok-clause-text
returns-in-Ok-clause-text c =
    let n = c.args.netlist.now in
    let es = c.args.evidence.now in
    c.in-Ok.ensures.text
    ∙ ap (λ (ls : List ℕ). c.args.text.now.items ++ ls)
    (ap (λ (m : Netlist). flat_map (transition_line n m) es) c.in_ok-two.ensures ∙ same_lines n c.in-Some.first.now.0 es)

pub push_all-done-requires : goal.push_all-done-requires
push_all-done-requires c = all_named c.args.netlist.now c.in_ok-two.two c.in-Some.first.now.0 c.in_ok-two.ensures c.args.evidence.now c.requires.named
