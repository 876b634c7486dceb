-- Laws of the list of faults, each the contract of a function of its name.
use Rattle.std.specs.Prelude.{ℕ, ◌≡◌, ◌<◌, ◌≤◌, ◌+◌, ◌*◌, Some, length}
use Rattle.std.specs.List.{slice_get, Contains}
use Rattle.statement.specs.declared.lines.Fault.{Fault}
use Rattle.statement.specs.Netlists.{Netlist, signals}
use Rattle.netlist.specs.Conditions.{IsSound}
use Rattle.netlist.specs.Designs.{most_design_signals}
use Rattle.netlist.specs.Gates.{most_pins}
use Rattle.statement.specs.Faults.{universe_of, fault_text}
use Rattle.netlist.specs.Lines.{signal_of, IsLineOf}

-- two places of the list whose faults are written alike are one
abbrev pub TextsDiffer : Type 0
TextsDiffer =
    (n : Netlist) (i j : ℕ) (f g : Fault) → IsSound n → slice_get (universe_of n) i ≡ Some f → slice_get (universe_of n) j ≡ Some g
    → fault_text n f ≡ fault_text n g → i ≡ j

-- at most so many for each signal: its stem, a branch for each pin of its definition, and one for an output, each at 0 and at 1
abbrev pub most_faults_per_signal : ℕ
most_faults_per_signal = 2 * (most_pins + 2)

-- and so the most that a design has
abbrev pub most_design_faults : ℕ
most_design_faults = most_faults_per_signal * most_design_signals

abbrev pub FewFaults : Type 0
FewFaults = (n : Netlist) → IsSound n → length (universe_of n) ≤ most_faults_per_signal * length (signals n)

-- each fault of the list has a signal of the netlist, by which it is named
abbrev pub FaultsHaveSignals : Type 0
FaultsHaveSignals = (n : Netlist) (i : ℕ) (f : Fault) → IsSound n → slice_get (universe_of n) i ≡ Some f → signal_of f.line < length (signals n)

-- each fault of the list stands on a line of the netlist
abbrev pub FaultsHaveLines : Type 0
FaultsHaveLines = (n : Netlist) (f : Fault) → IsSound n → Contains (universe_of n) f → IsLineOf n f.line
