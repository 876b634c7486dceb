use Rattle.std.proofs.Common.{◌∙◌, ap, codes, nat_eq, sym}
use Rattle.std.specs.Prelude.{◌||◌}
use Rattle.std.specs.List.{ends_with}
use Rattle.std.proofs.lemmas.Str.Pattern.{ends_text}
use Rattle.command_line.proofs.files.is_nameless.Goals as goal

pub returns-else-is_empty : goal.returns-else-is_empty
returns-else-is_empty c =
    let prefix = c.args.prefix.now in
    ends_text _ (codes "/") prefix c.ends_with.ensures.cases ∙ ap (λ b. b || ends_with nat_eq prefix (codes "/")) (sym (sym c.is_empty.ensures ∙ c.if-is_empty.false))
