use Rattle.std.proofs.Common.{codes, ◌++◌, ◌∙◌, ap}
use Rattle.statement.specs.Stils.{group_line}
use Rattle.stil_write.proofs.LoopLemmas.{behind}
use Rattle.stil_write.proofs.writer.push_groups.Goals as goal

pub returns : goal.returns
returns c =
    let f = c.args.file.now in
    let pi = group_line (codes "SC__pi") f.pi in
    let po = group_line (codes "SC__po") f.po in
    let end = c.extend_from_slice-2.new.self.items in
    let o = c.extend_from_slice.new.self.items in
    let p = c.push_group.new.out.items in
    let q = c.push_group-2.new.out.items in
    behind c.args.out.now.items o end (codes "SignalGroups {\n") (pi ++ (po ++ codes "}\n")) c.in_ok-extend_from_slice.ensures.items
    (behind o p end pi (po ++ codes "}\n") (c.in_ok-push_group.ensures ∙ ap (λ n. o ++ group_line (codes "SC__pi") n) c.pi.ensures)
    (behind p q end po (codes "}\n") (c.in_ok-push_group-2.ensures ∙ ap (λ n. p ++ group_line (codes "SC__po") n) c.po.ensures) c.in_ok-extend_from_slice-2.ensures.items))
