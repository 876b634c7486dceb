use Rattle.std.proofs.Common.{◌≡◌, ◌++◌, length, slice_get, take}
use Rattle.std.specs.List.{flat_map}
use Rattle.statement.specs.Faults.{universe_of}
use Rattle.diagnose_command.specs.Diagnoses.{candidates_line, suspect_line}
use Rattle.diagnose_command.proofs.diagnosing.text_of.Given as goal

abbrev pub invariant-loop-place : goal.invariant-loop-place
invariant-loop-place l =
    l.text.items ≡ candidates_line (length l.places) ++ flat_map (λ i. suspect_line l.netlist (slice_get (universe_of l.netlist) i)) (take l.place-index l.places)
