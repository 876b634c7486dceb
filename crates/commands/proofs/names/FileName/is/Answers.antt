use Rattle.std.proofs.Common.{◌++◌, ◌∙◌, ap, sym}
use Rattle.commands.proofs.NameLemmas.{apart, parted_earlier, parted_later}
use Rattle.commands.proofs.names.FileName.is.Goals as goal

pub returns-in-Some : goal.returns-in-Some
returns-in-Some c =
    let h = c.in-Some.ensures.cases in
    let given = c.args.self.now.given.now in
    c.is_joined.ensures
    ∙ parted_later given c.in-Some.rest.now c.args.name.now.ending.now c.args.name.now.given.now c.args.self.now.ending.now (h.1.1 ∙ ap (λ t. given ++ t) (sym h.2))

pub returns-in-Some-strip_prefix : goal.returns-in-Some-strip_prefix
returns-in-Some-strip_prefix c =
    let h = c.in-Some-strip_prefix.ensures.cases in
    let given = c.args.name.now.given.now in
    c.is_joined-in-Some-strip_prefix.ensures
    ∙ parted_earlier given c.in-Some-strip_prefix.rest.now c.args.self.now.ending.now c.args.self.now.given.now c.args.name.now.ending.now (h.1.1 ∙ ap (λ t. given ++ t) (sym h.2))

pub returns-in-None-strip_prefix : goal.returns-in-None-strip_prefix
returns-in-None-strip_prefix c = apart _ _ _ _ c.in-None.ensures.cases c.in-None-strip_prefix.ensures.cases
