use Rattle.std.proofs.Common.{◌∙◌, ap, sym}
use Rattle.netlist.proofs.Lists.{map_map}
use Rattle.command_line.specs.CommandLine.{hold_of}
use Rattle.command_line.specs.HoldLists.{HoldItem}
use Rattle.atpg_top.specs.inner.Held.{names_held}
use Rattle.atpg_top.proofs.held_in.Goals as goal

pub returns-in-Run : goal.returns-in-Run
returns-in-Run c = rw c.in-Run.is (ap names_held c.as_slice.ensures.value ∙ sym (map_map hold_of (λ (h : HoldItem). h.0) c.in-Run.holds.items))

pub returns-in-Transition : goal.returns-in-Transition
returns-in-Transition c = rw c.in-Transition.is (ap names_held c.as_slice-in-Transition.ensures.value ∙ sym (map_map hold_of (λ (h : HoldItem). h.0) c.in-Transition.holds.items))
