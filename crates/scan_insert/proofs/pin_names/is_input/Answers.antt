use Rattle.std.proofs.Common.{length, ltb, ◌∙◌, ap, List, ℕ}
use Rattle.scan_insert.proofs.Ready.{is_input}
use Rattle.scan_insert.proofs.pin_names.is_input.Goals as goal

pub returns : goal.returns
returns c =
    ap (λ x. ltb x (length c.inputs.result.now)) c.index.ensures
    ∙ (ap (λ (xs : List ℕ). ltb c.args.signal (length xs)) c.inputs.ensures ∙ is_input c.args.netlist.now c.requires c.args.signal)
