use Rattle.std.proofs.Common.{◌++◌, ◌∙◌, ap, sym}
use Rattle.commands.proofs.NameLemmas.{same_behind}
use Rattle.commands.proofs.names.is_joined.Goals as goal

pub returns-in-Some : goal.returns-in-Some
returns-in-Some c =
    let h = c.in-Some.ensures.cases in
    let first = c.args.first.now in
    c.eq.ensures ∙ same_behind c.args.text.now first c.in-Some.rest.now c.args.second.now (h.1.1 ∙ ap (λ t. first ++ t) (sym h.2))
