use Rattle.std.proofs.Common.{◌∙◌, ◌++◌, ap, codes, sym}
use Rattle.std.specs.Prelude.{if◌then◌else◌}
use Rattle.std.proofs.lemmas.Str.Pattern.{ends_text}
use Rattle.command_line.proofs.files.stil_name.Goals as goal

pub returns-else-ends_with : goal.returns-else-ends_with
returns-else-ends_with c =
    let given = c.args.given.now in
    ap (λ b. if b then given else given ++ codes ".stil") (sym c.if-ends_with.false ∙ ends_text _ (codes ".stil") given c.ends_with.ensures.cases)
