use Rattle.std.proofs.Common.{◌≡◌, List, ℕ, Some, ap, get_or, length, subst, arith}
use Rattle.std.specs.List.{slice_get}
use Rattle.std.proofs.lemmas.Option.{slice_get-get_or}
use Rattle.report.specs.inner.Counts.{count_words, in_order}
use Rattle.report.proofs.WriteLemmas.{next_counts_written}
use Rattle.report.proofs.writing.push_counts.Goals as goal

pub loop-k-preserved : goal.loop-k-preserved
loop-k-preserved c =
    let numbers = c.to_array-numbers.result in
    let k = c.loop-k.k in
    let here : slice_get (in_order c.args.counts) k ≡ Some (get_or numbers k 0) =
    subst (λ (ks : List ℕ). slice_get ks k ≡ Some (get_or numbers k 0)) c.to_array-numbers.ensures
    (slice_get-get_or numbers k 0 (omega (arith, ap length c.to_array-numbers.ensures, c.loop-k-test.true))) in
    next_counts_written count_words (in_order c.args.counts) k c.count_word.result.now (get_or numbers k 0)
    c.args.out.now.items c.loop-k.out.items c.push_count.new.out.items c.count_word.ensures here c.loop-k.invariant c.in_ok-push_count.ensures
