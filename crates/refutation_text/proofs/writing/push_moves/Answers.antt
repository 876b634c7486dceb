use Rattle.refutation_text.specs.Texts.{move_text, IsMove}
use Rattle.refutation_text.proofs.Codes.{take_more, texts_more}
use Rattle.refutation_text.proofs.writing.push_moves.Goals as goal

pub loop-item-preserved : goal.loop-item-preserved
loop-item-preserved c =
    let i = c.loop-item.invariant in
    record {
      text = texts_more move_text c.args.moves.now c.loop-item.item-index c.item-item.result c.args.text.now.items c.loop-item.text.items c.push_move.new.text.items
          c.loop-item-test.true c.item-item.is i.text c.in_ok-push_move.ensures.text;
      are = take_more IsMove c.args.moves.now c.loop-item.item-index c.item-item.result c.loop-item-test.true c.item-item.is i.are c.in_ok-push_move.ensures.within;
    }
