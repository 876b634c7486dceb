-- The test for slow lines that files say, as it lies in memory.
use Rattle.std.specs.Prelude.{◌≤◌, ◌+◌, ◌^◌, length}
use Rattle.std.specs.List.{All}
use Rattle.netlist.specs.Conditions.{IsSound}
use Rattle.netlist.specs.Designs.{IsDesign}
use Rattle.netlist.specs.Holds.{AreHoldsOf}
use Rattle.cubes.specs.Cubes.{IsPatternOf}
use Rattle.scan_insert.specs.Scanned.{AreChainsOf}
use Rattle.transition_report.specs.Reading.{IsTransitionEvidence}
use Rattle.good_slow_files.specs.GoodSlowFiles.{SlowTest}
use Rattle.slow_check.specs.declared.trials.SlowTrial.{SlowTrial}

abbrev pub slow_test_of : SlowTrial → SlowTest
slow_test_of t =
    record { netlist = t.netlist.now; holds = t.holds.now; chains = t.chains.now; limit = t.limit; patterns = t.patterns.now; evidence = t.evidence.now }

-- what is known of a test before its slow lines are looked at
pub record IsTest (t : SlowTest) : Type 0 where
  pub sound : IsSound t.netlist
  pub design : IsDesign t.netlist
  pub dealt : AreChainsOf t.netlist t.chains
  pub held : AreHoldsOf t.netlist t.holds
  pub obey : All (IsPatternOf t.netlist t.holds) t.patterns
  pub few : length t.patterns + 64 ≤ 2 ^ 32
  pub evidence : All (IsTransitionEvidence t.netlist) t.evidence

abbrev pub IsSlowTrial : SlowTrial → Type 0
IsSlowTrial t = IsTest (slow_test_of t)
