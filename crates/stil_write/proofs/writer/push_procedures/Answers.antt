use Rattle.std.proofs.Common.{◌++◌, ◌∙◌, ap, codes, length, sym, List}
use Rattle.statement.specs.Benches.{Text}
use Rattle.statement.specs.Stils.{Item, Vector, item_text, assigned, called, shift_words}
use Rattle.stil_write.specs.StilFiles.{item_at}
use Rattle.stil_write.specs.Texts.{procedures_head}
use Rattle.stil_write.proofs.LoopLemmas.{behind}
use Rattle.stil_write.proofs.ShiftLemmas.{procedures_some, shift_item_targets}
use Rattle.stil_write.proofs.writer.push_procedures.Goals as goal

pub push_item-requires-clause-words : goal.push_item-requires-clause-words
push_item-requires-clause-words c =
    shift_item_targets c.args.file.now c.in_ok-items.items c.in_ok-called.called c.in_ok-assigned.assigned c.in_ok-items.ensures (c.in_ok-assigned.ensures ∙ ap assigned (ap length c.chains-chains.ensures))

pub returns : goal.returns
returns c =
    let f = c.args.file.now in
    let n = ap length c.chains-chains.ensures in
    let item = item_text (called (length f.chains)) (assigned (length f.chains)) (Vector (shift_words f)) in
    let tail = codes "    }\n  }\n}\n" in
    let o = c.extend_from_slice.new.self.items in
    let p = c.push_item.new.out.items in
    let end = c.extend_from_slice-2.new.self.items in
    behind c.args.out.now.items o end procedures_head (item ++ tail) c.in_ok-extend_from_slice.ensures.items
    (behind o p end item tail
    (c.in_ok-push_item.ensures ∙ ap (λ (is : List Item). o ++ item_text c.in_ok-called.called c.in_ok-assigned.assigned (item_at is 0)) c.in_ok-items.ensures
    ∙ ap (λ (ss : List Text). o ++ item_text ss c.in_ok-assigned.assigned (Vector (shift_words f))) (c.in_ok-called.ensures ∙ ap called n)
    ∙ ap (λ (ss : List Text). o ++ item_text (called (length f.chains)) ss (Vector (shift_words f))) (c.in_ok-assigned.ensures ∙ ap assigned n)) c.in_ok-extend_from_slice-2.ensures.items)
    ∙ ap (λ t. c.args.out.now.items ++ t) (sym (procedures_some (length f.chains) f (λ e. c.if-chains-eq0.false (n ∙ e))))
