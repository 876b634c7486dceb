use Rattle.std.proofs.Common.{◌≡◌, ◌+◌, rules, length, ap, ◌∙◌, arith}
use Rattle.statement.specs.Netlists.{Netlist, signals}
use Rattle.netlist.proofs.Placed.{signals_length}
use Rattle.redundancy_cert.proofs.MarkLemmas.{observed_from}
use Rattle.redundancy_cert.proofs.observed.observed_marks.Goals as goal

pub returns : goal.returns
returns c =
    let n = c.args.core.now in
    let count = length c.inputs.result.now + length c.definitions.result.now in
    let size : count ≡ length (signals n) =
    (let a = ap length (c.inputs.ensures ∙ ap (λ (m : Netlist). m.inputs) c.netlist.ensures) in
    let b = ap length (c.definitions.ensures ∙ ap (λ (m : Netlist). m.definitions) c.netlist-2.ensures) in let s = signals_length n in omega arith) in
    observed_from n count c.in_ok-marks.marks.items c.mark_outputs.new.marks.items c.mark_pins.new.marks.items (search rules) size c.mark_outputs.ensures c.mark_pins.ensures
