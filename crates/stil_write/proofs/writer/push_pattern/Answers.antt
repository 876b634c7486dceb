use Rattle.std.proofs.Common.{ap, length, sym, subst, List, ◌∙◌}
use Rattle.std.specs.List.{All}
use Rattle.statement.specs.Benches.{Text}
use Rattle.statement.specs.Stils.{Item, assigned, called}
use Rattle.stil_write.specs.Pieces.{HasTargets}
use Rattle.stil_write.proofs.ItemLemmas.{have_targets}
use Rattle.stil_write.proofs.writer.push_pattern.Goals as goal

pub push_items-requires : goal.push_items-requires
push_items-requires c =
    let f = c.args.file.now in
    let n = ap length c.chains-chains.ensures in
    subst (λ (is : List Item). All (HasTargets c.in_ok-called.called c.in_ok-assigned.assigned) is) (sym c.items.ensures)
    (subst (λ (ss : List Text). All (HasTargets ss c.in_ok-assigned.assigned) f.items) (sym (c.in_ok-called.ensures ∙ ap called n))
    (subst (λ (ss : List Text). All (HasTargets (called (length f.chains)) ss) f.items) (sym (c.in_ok-assigned.ensures ∙ ap assigned n)) (have_targets f c.sound.ensures)))
