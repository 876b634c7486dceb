use Rattle.std.proofs.Common.{arith}
use Rattle.bench_text.proofs.WholeLemmas.{signal_count}
use Rattle.bench_text.proofs.draft.Draft.signal_count.Goals as goal

pub returns : goal.returns
returns c =
    let s = c.args.self.now in
    signal_count _ _ _ _ _ _ s.sound _ _ (omega (arith, c.len.ensures, s.inputs.ok.0)) (omega (arith, c.len-2.ensures, s.definitions.ok.0))
