use Rattle.std.proofs.Common.{ℕ, List, subst, arith}
use Rattle.std.specs.List.{All}
use Rattle.report.specs.Beginnings.{IsCount}
use Rattle.report.proofs.CountLemmas.{small_counts}
use Rattle.report.proofs.counts.ReportCounts.sound.Goals as goal

pub returns : goal.returns
returns c = small_counts c.args.self (subst (λ (ks : List ℕ). All IsCount ks) c.to_array.ensures c.are_small.ensures) (omega arith)
