use Rattle.std.proofs.Common.{false, map, take, ◌∙◌, ap, ◌++◌}
use Rattle.statement.specs.Tests.{column}
use Rattle.scan_play.proofs.LoadLemmas.{flat_more}
use Rattle.stil_write.specs.StilFiles.{item_at, words_of}
use Rattle.stil_vectors.specs.FileVectors.{bits_of}
use Rattle.stil_vectors.proofs.CallLemmas.{longer}
use Rattle.stil_vectors.proofs.calls.all_ins.Goals as goal

pub push_ins-requires-clause-long : goal.push_ins-requires-clause-long
push_ins-requires-clause-long c = longer (words_of (item_at c.args.items.now c.args.place)) c.args.size c.loop-t.t c.loop-t-test.true c.requires.long

pub loop-t-preserved : goal.loop-t-preserved
loop-t-preserved c =
    let f = column false (map bits_of (take c.args.chains (words_of (item_at c.args.items.now c.args.place)))) in
    c.in_ok-push_ins.ensures ∙ (ap (λ x. x ++ f c.loop-t.t) c.loop-t.invariant ∙ flat_more f c.loop-t.t)
