use Rattle.std.proofs.Common.{◌≡◌, Some, List, subst}
use Rattle.std.specs.List.{slice_get}
use Rattle.statement.specs.declared.lines.Fault.{Fault}
use Rattle.statement.specs.Faults.{universe_of}
use Rattle.fault_marks.proofs.MarkLemmas.{marked_more}
use Rattle.fault_marks.proofs.marking.marks_of.Goals as goal

pub loop-place-preserved : goal.loop-place-preserved
loop-place-preserved c = λ lines kept.
    let n = c.args.netlist.now in
    let place = c.loop-place.place in
    let at : slice_get (universe_of n) place ≡ Some c.fault.result = subst (λ (fs : List Fault). slice_get fs place ≡ Some c.fault.result) c.requires c.fault.ensures in
    marked_more n lines (universe_of n) place c.fault.result c.in_ok-is_named.field-0 c.loop-place.marks.items c.push.new.self.items at (c.in_ok-is_named.ensures lines kept)
    (c.loop-place.invariant lines kept) c.in_ok-push.ensures.items
