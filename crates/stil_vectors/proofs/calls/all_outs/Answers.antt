use Rattle.std.proofs.Common.{map, drop, ◌∙◌, ap, ◌++◌}
use Rattle.statement.specs.declared.kinds.Tri.TheVariants.{X}
use Rattle.statement.specs.Tests.{column}
use Rattle.scan_play.proofs.LoadLemmas.{flat_more}
use Rattle.stil_write.specs.StilFiles.{item_at, words_of}
use Rattle.stil_vectors.specs.FileVectors.{values_of}
use Rattle.stil_vectors.proofs.CallLemmas.{longer}
use Rattle.stil_vectors.proofs.calls.all_outs.Goals as goal

pub push_outs-requires-clause-long : goal.push_outs-requires-clause-long
push_outs-requires-clause-long c = longer (words_of (item_at c.args.items.now c.args.place)) c.args.size c.loop-t.t c.loop-t-test.true c.requires.long

pub loop-t-preserved : goal.loop-t-preserved
loop-t-preserved c =
    let f = column X (map values_of (drop c.args.chains (words_of (item_at c.args.items.now c.args.place)))) in
    c.in_ok-push_outs.ensures ∙ (ap (λ x. x ++ f c.loop-t.t) c.loop-t.invariant ∙ flat_more f c.loop-t.t)
