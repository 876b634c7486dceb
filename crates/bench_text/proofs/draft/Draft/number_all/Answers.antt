use Rattle.std.proofs.Common.{arith}
use Rattle.bench_text.proofs.SeenLemmas.{keeps-more, numbers-kept, numbers-more, names-more}
use Rattle.bench_text.proofs.draft.Draft.number_all.Goals as goal

pub loop-pin-preserved : goal.loop-pin-preserved
loop-pin-preserved c =
    let step = c.in_ok-number.ensures.keeps in
    record {
      keeps = keeps-more c.args.self.now _ _ c.loop-pin.invariant.keeps step;
      numbers = numbers-more _ _ _ _ _ _ _ (numbers-kept _ _ step.names _ _ c.loop-pin.invariant.numbers) c.in_ok-number.ensures.number c.in_ok-push.ensures.ok
          (names-more c.args.pins.now _ _ (omega (arith, c.loop-pin-test.true)));
    }
