use Rattle.refutation_text.specs.Texts.{move_text, IsMove}
use Rattle.refutation_text.proofs.Codes.{no_list, no_stop, push_more, text_more}
use Rattle.refutation_text.proofs.PartTexts.{same_move, move_other}
use Rattle.refutation_text.proofs.reading.moves_at.Goals as goal

pub returns-in_default : goal.returns-in_default
returns-in_default c =
    let i = c.loop-rest.invariant in
    no_list move_text IsMove same_move move_other c.args.text.now c.loop-rest.list.items c.loop-rest.rest.now i.are i.is
    (no_stop c.loop-rest.rest.now c.starts_with.result c.starts_with.ensures.value c.loop-rest-test.true) c.in_default.ensures

pub loop-rest-preserved : goal.loop-rest-preserved
loop-rest-preserved c =
    let i = c.loop-rest.invariant in
    let at = c.in-Some.ensures in
    record {
      are = push_more IsMove c.loop-rest.list.items c.push.new.self.items c.in-Some.next.0 c.in-Ok.ensures.items i.are at.valid;
      is = text_more move_text IsMove c.args.text.now c.loop-rest.list.items c.push.new.self.items c.loop-rest.rest.now c.in-Some.next.1.now c.in-Some.next.0 c.in-Ok.ensures.items i.is at;
    }
