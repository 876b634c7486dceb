-- The numbers of a report, which follow from the netlist, its chains, the backtrack limit, the patterns and the lines.
use Rattle.std.specs.Prelude.{ℕ, ◌≡◌, ◌+◌, ◌*◌, ◌/◌, List, [], ◌∷◌, length, sum_by, Option, Some, None, Bool}
use Rattle.std.specs.List.{flat_map, zip}
use Rattle.statement.specs.Netlists.{Netlist, cells, gates, name_of}
use Rattle.statement.specs.Patterns.{Holds}
use Rattle.statement.specs.Tests.{longest_of}
use Rattle.statement.specs.Faults.{universe_of}
use Rattle.fault_collapse.specs.Numbers.{Classes}
use Rattle.report.specs.declared.counts.ReportCounts.{ReportCounts}
use Rattle.statement.specs.declared.outcomes.Outcome.{Outcome}
use Rattle.statement.specs.declared.outcomes.Outcome.TheVariants.{Detected, Redundant, Aborted, Unasked}
use Rattle.statement.specs.Reports.{Line}
use Rattle.report.specs.Reports.{Hold, Report}
use Rattle.run_report.specs.Outcomes.{Test}
use Rattle.run_report.specs.Times.{HasTimes}

-- 1 for an outcome of the kind
abbrev pub one_if_detected : Outcome → ℕ
one_if_detected (Detected place cycle) = 1
one_if_detected Redundant = 0
one_if_detected Aborted = 0
one_if_detected Unasked = 0

abbrev pub one_if_redundant : Outcome → ℕ
one_if_redundant (Detected place cycle) = 0
one_if_redundant Redundant = 1
one_if_redundant Aborted = 0
one_if_redundant Unasked = 0

abbrev pub one_if_aborted : Outcome → ℕ
one_if_aborted (Detected place cycle) = 0
one_if_aborted Redundant = 0
one_if_aborted Aborted = 1
one_if_aborted Unasked = 0

abbrev pub one_if_unasked : Outcome → ℕ
one_if_unasked (Detected place cycle) = 0
one_if_unasked Redundant = 0
one_if_unasked Aborted = 0
one_if_unasked Unasked = 1

-- how many lines are of the kind
abbrev pub count_of : (Outcome → ℕ) → List Line → ℕ
count_of one lines = sum_by (λ (l : Line). one l.outcome) lines

-- the cycles of a test of so many patterns with these chains: a flush of three loads, a load and a capture for each pattern, and a last load
abbrev pub cycle_count : List (List ℕ) → ℕ → ℕ
cycle_count chains patterns = (patterns + 4) * longest_of chains + patterns

-- the counts, from the netlist, its chains, how many faults, classes, patterns and cycles there are, the backtrack limit, and the lines
abbrev pub counts_with : Netlist → List (List ℕ) → ℕ → ℕ → ℕ → ℕ → ℕ → List Line → ReportCounts
counts_with n chains faults classes patterns cycles limit lines = record {
  inputs = length n.inputs;
  outputs = length n.outputs;
  gates = length (gates n);
  cells = length (cells n);
  chains = length chains;
  faults = faults;
  classes = classes;
  patterns = patterns;
  cycles = cycles;
  limit = limit;
  detected = count_of one_if_detected lines;
  redundant = count_of one_if_redundant lines;
  aborted = count_of one_if_aborted lines;
  untested = count_of one_if_redundant lines + count_of one_if_aborted lines;
  unasked = count_of one_if_unasked lines;
}

-- the same in the cycles of a test of stuck lines
abbrev pub counts_of : Netlist → List (List ℕ) → ℕ → ℕ → ℕ → ℕ → List Line → ReportCounts
counts_of n chains faults classes patterns limit lines = counts_with n chains faults classes patterns (cycle_count chains patterns) limit lines

-- so many of all faults, in hundredths of a percent, rounded down
abbrev pub share_of : ℕ → ℕ → ℕ
share_of faults count = 10000 * count / faults

-- the numbers above the lines
pub record HasHead (t : Test) (classes : Classes) (r : Report) : Type 0 where
  pub counts : r.counts ≡ counts_of t.netlist t.chains (length (universe_of t.netlist)) (length classes.representatives) (length t.patterns) t.limit r.lines
  pub coverage : r.coverage ≡ share_of (length (universe_of t.netlist)) (count_of one_if_detected r.lines)
  pub efficiency : r.efficiency ≡ share_of (length (universe_of t.netlist)) (count_of one_if_detected r.lines + count_of one_if_redundant r.lines)
  pub times : HasTimes t.netlist t.patterns r.times

abbrev pub hold_at : Netlist → ℕ × Option Bool → List Hold
hold_at n (x, None) = []
hold_at n (x, Some bit) = record { name = name_of n x; bit = bit } ∷ []

-- the held inputs by name, in the order of inputs
abbrev pub holds_named : Netlist → Holds → List Hold
holds_named n holds = flat_map (hold_at n) (zip n.inputs holds)
