use Rattle.std.proofs.Common.{◌∙◌, None, Ok, Err, map, option_map, subst, sym}
use Rattle.std.proofs.lemmas.List.{length-map}
use Rattle.statement.specs.Netlists.{Netlist}
use Rattle.netlist.specs.Designs.{IsDesign}
use Rattle.netlist.specs.Holds.{AreHoldsOf, none_held}
use Rattle.command_line.specs.CommandLine.{hold_of}
use Rattle.command_steps.specs.Steps.{named_holds}
use Rattle.asked_run.specs.Asked.{IsWanted}
use Rattle.asked_run.specs.inner.Asking.{ReadsWanted}
use Rattle.asked_run.proofs.AskLemmas.{no_wanted}
use Rattle.command_steps.proofs.HoldLemmas.{held_length}
use Rattle.asked_run.proofs.asking.held_case.Goals as goal

pub wanted_of-requires-clause-held : goal.wanted_of-requires-clause-held
wanted_of-requires-clause-held c =
    let n = c.in-Ok.core in
    subst (λ (m : Netlist). AreHoldsOf m c.in-Ok-holds_of.holds) (sym c.netlist.ensures)
    (held_length n (map hold_of c.args.named.now) (none_held n) c.in-Ok-holds_of.holds c.in-Ok-holds_of.ensures ∙ length-map n.inputs (λ _. None))

pub returns-in-Ok-wanted_of-clause-ready : goal.returns-in-Ok-wanted_of-clause-ready
returns-in-Ok-wanted_of-clause-ready c =
    let n = c.in-Ok.core in
    record {
      design = subst (λ (m : Netlist). IsDesign m) (sym c.in-Ok.ensures) c.requires.design;
      held = held_length n (map hold_of c.args.named.now) (none_held n) c.in-Ok-holds_of.holds c.in-Ok-holds_of.ensures ∙ length-map n.inputs (λ _. None);
      wanted = subst (λ (m : Netlist). IsWanted m c.in-Ok-holds_of.holds c.in-Ok-wanted_of.wanted) c.netlist.ensures c.in-Ok-wanted_of.ensures.wanted;
    }

pub returns-in-Err-wanted_of-clause-reads : goal.returns-in-Err-wanted_of-clause-reads
returns-in-Err-wanted_of-clause-reads c =
    let named = map hold_of c.args.named.now in
    let list = option_map (λ t. t.now) c.args.list in
    let stil = option_map (λ t. t.now) c.args.stil in
    let holds = c.in-Ok-holds_of.holds in
    no_wanted named list stil c.args.netlist holds c.in-Err-wanted_of.stop (subst (λ (m : Netlist). named_holds m named (Ok holds)) c.in-Ok.ensures c.in-Ok-holds_of.ensures)
    (subst (λ (m : Netlist). ReadsWanted m holds list stil (Err c.in-Err-wanted_of.stop)) (c.netlist.ensures ∙ c.in-Ok.ensures) c.in-Err-wanted_of.ensures.reads)
