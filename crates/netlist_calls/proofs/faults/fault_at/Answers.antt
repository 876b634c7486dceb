use Rattle.std.proofs.Common.{◌≡◌, Some, subst, List}
use Rattle.std.specs.List.{slice_get}
use Rattle.statement.specs.declared.lines.Fault.{Fault}
use Rattle.statement.specs.Faults.{universe_of}
use Rattle.fault_universe.proofs.Elements.{contains_at}
use Rattle.netlist_calls.proofs.faults.fault_at.Goals as goal

pub returns : goal.returns
returns c =
    let n = c.args.netlist.now in
    let fault = c.fault.result in
    let here : slice_get (universe_of n) c.args.place ≡ Some fault = subst (λ (fs : List Fault). slice_get fs c.args.place ≡ Some fault) c.requires.faults c.fault.ensures in
    c.faults_have_lines.ensures n fault c.sound.ensures (contains_at (universe_of n) c.args.place fault here)
