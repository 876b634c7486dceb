use Rattle.std.proofs.Common.{◌∙◌, subst, sym}
use Rattle.std.proofs.lemmas.Bool.{both_ways}
use Rattle.std.proofs.lemmas.Result.{err_from_is_err_and}
use Rattle.netlist.specs.Conditions.{IsSound}
use Rattle.redundancy_cert.specs.Trees.{IsOneTree}
use Rattle.certificate.proofs.EvidenceTexts.{refused_more, same_nodes}
use Rattle.certificate.proofs.line.read_tree.Goals as goal

pub returns-in_err-nodes : goal.returns-in_err-nodes
returns-in_err-nodes c =
    let p = err_from_is_err_and c.from_residual.result c.from_residual.ensures.1 in
    rw (p.1, p.2) (refused_more (λ none nodes w one. none nodes w) c.in_err-nodes.field-0.0 c.in_err-nodes.ensures)

pub returns-else-is_one_tree : goal.returns-else-is_one_tree
returns-else-is_one_tree c others w one =
    let same = same_nodes c.args.names.now (subst IsSound c.netlist.ensures c.sound.ensures) c.args.text.now others c.in_ok-nodes.nodes.items w c.in_ok-nodes.ensures in
    both_ways c.is_one_tree.result c.if-is_one_tree.false (c.is_one_tree.ensures.1 (subst IsOneTree (same ∙ sym c.deref.ensures.value) one))
