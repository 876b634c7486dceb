use Rattle.std.proofs.Common.{sym, ap, ◌∙◌}
use Rattle.std.specs.Prelude.{Some}
use Rattle.bench_text.proofs.DraftLemmas.{defines-read, defines-other, role_at}
use Rattle.bench_text.proofs.draft.Draft.defines.Goals as goal

pub returns-in-Read : goal.returns-in-Read
returns-in-Read c =
    let s = c.args.self.now in
    let at = role_at _ _ _ _ _ _ s.sound c.args.number c.index.result.now c.requires c.index.ensures in
    sym (defines-read _ _ _ _ _ _ s.sound c.args.number (at ∙ ap Some c.in-Read.is))

pub returns-in-Input : goal.returns-in-Input
returns-in-Input c =
    let s = c.args.self.now in
    let at = role_at _ _ _ _ _ _ s.sound c.args.number c.index.result.now c.requires c.index.ensures in
    sym (defines-other _ _ _ _ _ _ s.sound c.args.number c.index.result.now at c.in-Input.is)
