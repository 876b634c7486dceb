use Rattle.std.proofs.Common.{◌∙◌, codes, refl}
use Rattle.commands.proofs.Saying.{name_whole, of_four, said_so}
use Rattle.commands.proofs.lines.say_name.Goals as goal

pub returns : goal.returns
returns g c =
    let given = c.args.name.now.given.now in
    let ending = c.args.name.now.ending.now in
    let pieces = of_four _ _ _ _ _ c.args.what.now given ending (codes "\n") c.as_slice-2.ensures refl c.as_bytes.ensures.value c.as_bytes-2.ensures.value c.as_slice.ensures in
    said_so _ _ _ _ _ _ _ (pieces ∙ name_whole c.args.what.now given ending (codes "\n")) c.say.ensures
