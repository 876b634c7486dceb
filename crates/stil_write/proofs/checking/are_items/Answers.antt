use Rattle.std.proofs.Common.{[], arith, ◌∙◌}
use Rattle.std.proofs.lemmas.Option.{slice_get-get_or}
use Rattle.stil_write.specs.StilFiles.{IsItem, item_at}
use Rattle.statement.specs.Stils.{Vector}
use Rattle.stil_write.specs.Parts.{file_of}
use Rattle.stil_write.proofs.FormLemmas.{item_by}
use Rattle.stil_write.proofs.LoopLemmas.{all_at_end, all_more}
use Rattle.stil_write.proofs.checking.are_items.Goals as goal

pub loop-place-preserved : goal.loop-place-preserved
loop-place-preserved c =
    all_more (IsItem (file_of c.args.parts.now)) c.args.parts.now.items c.loop-place.place (item_at c.args.parts.now.items c.loop-place.place)
    (slice_get-get_or c.args.parts.now.items c.loop-place.place (Vector []) (omega arith)) c.loop-place.invariant
    (item_by (file_of c.args.parts.now) c.len.result c.deref.result.now (item_at c.args.parts.now.items c.loop-place.place) c.in_ok-is_item.field-0
    (c.len.ensures ∙ c.args.parts.now.chains.ok.0) (c.deref.ensures.value ∙ c.in_ok-vectors.ensures) c.if-not-branch.false c.in_ok-is_item.ensures)

pub returns : goal.returns
returns c = all_at_end (IsItem (file_of c.args.parts.now)) c.args.parts.now.items c.loop-place.place (omega arith) c.loop-place.invariant
