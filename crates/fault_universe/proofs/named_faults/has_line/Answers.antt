use Rattle.std.proofs.Common.{◌<◌, length, refl, sym, subst}
use Rattle.std.specs.List.{Contains}
use Rattle.statement.specs.Netlists.{signals}
use Rattle.fault_universe.specs.Universe.{all_lines}
use Rattle.netlist.specs.Lines.{signal_of}
use Rattle.fault_universe.proofs.Members.{stem_is_line}
use Rattle.fault_universe.proofs.named_faults.has_line.Goals as goal

pub returns-in-Stem : goal.returns-in-Stem
returns-in-Stem c =
    let n = c.args.netlist.now in
    let within = subst (λ l. signal_of l < length (signals n)) c.in-Stem.is c.requires in
    ((λ _. subst (Contains (all_lines n)) (sym c.in-Stem.is) (stem_is_line n c.sound.ensures c.in-Stem.field-0 within)), (λ _. refl))
