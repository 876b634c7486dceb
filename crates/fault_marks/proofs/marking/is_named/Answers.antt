use Rattle.std.proofs.Common.{◌≡◌, ◌++◌, ◌∙◌, ap}
use Rattle.statement.specs.Faults.{fault_text}
use Rattle.fault_marks.proofs.KeptLemmas.{named_by}
use Rattle.fault_marks.proofs.marking.is_named.Goals as goal

pub returns : goal.returns
returns c = λ lines kept.
    let line = fault_text c.args.netlist.now c.args.fault in
    let same : c.as_slice.result.now ≡ line = c.as_slice.ensures.value ∙ (c.in_ok-push_text.ensures ∙ ap (λ t. t ++ line) c.clear.ensures.items) in
    named_by c.args.kept.now.keys lines line c.as_slice.result.now c.contains.result same c.contains.ensures kept
