-- The totals, part by part.
use Rattle.std.proofs.Common.{◌≡◌, ℕ, ◌≤◌, Bool, true, false, MatchBool, length, refl, sym, subst}
use Rattle.plain_text.specs.Limits.{most_limit}
use Rattle.statement.specs.Faults.{universe_of}
use Rattle.transition_report.specs.declared.reporting.TransitionReport.{TransitionReport}
use Rattle.good_slow_files.specs.GoodSlowFiles.{AreSlowTotals, SlowTest}
use Rattle.slow_check.specs.inner.Totals.{HasCounts, HasShares}

pub no_shares : (t : SlowTest) (faults : ℕ) (r : TransitionReport) → faults ≡ length (universe_of t.netlist) → ¬ HasShares faults r → ¬ AreSlowTotals t r
no_shares t faults r all none totals =
    none (subst (λ (k : ℕ). HasShares k r) (sym all) (record { coverage = totals.numbers.coverage; efficiency = totals.numbers.efficiency }))

-- where the shares follow, all do where the counts do
pub by_counts : (t : SlowTest) (faults : ℕ) (r : TransitionReport) → faults ≡ length (universe_of t.netlist) → (1 ≤ t.limit) × (t.limit ≤ most_limit) → HasShares faults r → (b : Bool)
    → MatchBool b (HasCounts t faults r) (¬ HasCounts t faults r) → MatchBool b (AreSlowTotals t r) (¬ AreSlowTotals t r)
by_counts t faults r all limit shares true counts =
    let own = subst (λ (k : ℕ). HasShares k r) all shares in
    record {
      limit = limit;
      numbers = record { lines_are = refl; counts = subst (λ (k : ℕ). HasCounts t k r) all counts; coverage = own.coverage; efficiency = own.efficiency };
    }
by_counts t faults r all limit shares false counts = λ totals. counts (subst (λ (k : ℕ). HasCounts t k r) (sym all) totals.numbers.counts)
