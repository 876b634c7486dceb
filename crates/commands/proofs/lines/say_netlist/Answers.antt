use Rattle.std.proofs.Common.{◌∙◌, codes, decimal}
use Rattle.commands.specs.Lines.{kind_name}
use Rattle.commands.proofs.Saying.{of_five, said_so}
use Rattle.commands.proofs.lines.say_netlist.Goals as goal

pub returns : goal.returns
returns g c =
    let refusal = c.args.refusal.now in
    let pieces = of_five _ _ _ _ _ _ (codes "netlist line ") (decimal refusal.line) (codes ": ") (kind_name refusal.kind) (codes "\n") c.as_slice-4.ensures
    c.as_slice.ensures (c.as_bytes.ensures.value ∙ c.format.ensures.text) c.as_slice-2.ensures (c.as_bytes-2.ensures.value ∙ c.kind_name.ensures) c.as_slice-3.ensures in
    said_so _ _ _ _ _ _ _ pieces c.say.ensures
