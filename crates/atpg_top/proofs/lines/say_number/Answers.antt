use Rattle.std.proofs.Common.{◌∙◌, ◌++◌, ap, decimal, refl}
use Rattle.std.proofs.lemmas.List.{append-nil}
use Rattle.statement.specs.Benches.{Text}
use Rattle.commands.proofs.Saying.{of_three, said_so}
use Rattle.atpg_top.proofs.lines.say_number.Goals as goal

pub returns : goal.returns
returns g c =
    let pieces = of_three _ _ _ _ c.args.what.now (decimal c.args.number) c.args.why.now c.as_slice.ensures refl (c.as_bytes.ensures.value ∙ c.format.ensures.text) refl in
    let whole = ap (λ (t : Text). c.args.what.now ++ (decimal c.args.number ++ t)) (append-nil c.args.why.now) in
    said_so _ _ _ _ _ _ _ (pieces ∙ whole) c.say.ensures
