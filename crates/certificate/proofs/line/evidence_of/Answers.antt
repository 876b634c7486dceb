use Rattle.std.proofs.Common.{codes}
use Rattle.std.proofs.lemmas.Result.{err_from_is_err_and}
use Rattle.plain_text.proofs.Parts.{no_prefix}
use Rattle.certificate.proofs.EvidenceTexts.{no_tree, refused_more}
use Rattle.certificate.proofs.line.evidence_of.Goals as goal

pub returns-in_err-tree : goal.returns-in_err-tree
returns-in_err-tree c =
    let p = err_from_is_err_and c.from_residual-in_err-tree.result c.from_residual-in_err-tree.ensures.1 in
    rw (p.1, p.2)
    (refused_more (no_tree c.args.names.now c.args.text.now (no_prefix c.args.text.now (codes " R") c.in_default.ensures.cases)) c.in_err-tree.field-0.0 c.in_err-tree.ensures)
