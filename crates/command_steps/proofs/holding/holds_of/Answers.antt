use Rattle.std.proofs.Common.{◌∙◌, ◌+◌, List, Some, None, length, map, take, get_or, sym, subst, ap, arith, length-set}
use Rattle.std.proofs.lemmas.List.{length-map, take_all}
use Rattle.std.proofs.lemmas.Option.{slice_get_within}
use Rattle.statement.specs.Netlists.{Netlist}
use Rattle.statement.specs.Patterns.{Holds}
use Rattle.netlist.specs.Holds.{none_held}
use Rattle.command_line.specs.CommandLine.{hold_of}
use Rattle.command_line.specs.declared.holds.Held.{Held}
use Rattle.command_steps.specs.Runs.{AreHeldFrom}
use Rattle.command_steps.specs.inner.Found.{IsFound}
use Rattle.command_steps.proofs.HoldLemmas.{held_next, unknown_here}
use Rattle.command_steps.proofs.holding.holds_of.Goals as goal

pub loop-place-init : goal.loop-place-init
loop-place-init c = record {
  held = c.in-Ok.ensures;
  size = ap length c.in-Ok.ensures ∙ length-map c.args.core.now.inputs (λ _. None);
}

pub set-requires : goal.set-requires
set-requires c =
    let d : Held = _ in
    let at = subst (λ (m : Netlist). IsFound m (get_or c.args.named.now c.loop-place.place d).name.now (Some c.in-Some.input)) (c.in-Ok-of.ensures ∙ c.netlist.ensures) c.in-Some.ensures in
    omega (arith, slice_get_within c.args.core.now.inputs c.in-Some.input at.0 at.1, c.loop-place.invariant.size)

pub loop-place-preserved : goal.loop-place-preserved
loop-place-preserved c =
    let d : Held = _ in
    let at = subst (λ (m : Netlist). IsFound m (get_or c.args.named.now c.loop-place.place d).name.now (Some c.in-Some.input)) (c.in-Ok-of.ensures ∙ c.netlist.ensures) c.in-Some.ensures in
    record {
      held = subst (λ (h : Holds). AreHeldFrom c.args.core.now (none_held c.args.core.now) (map hold_of (take (c.loop-place.place + 1) c.args.named.now)) h) (sym c.set.ensures)
          (held_next c.args.core.now c.args.named.now c.loop-place.place d (none_held c.args.core.now) c.loop-place.holds c.in-Some.input c.loop-place-test.true c.loop-place.invariant.held at);
      size = ap length c.set.ensures ∙ (length-set c.loop-place.holds c.in-Some.input _ ∙ c.loop-place.invariant.size);
    }

pub returns-in-None : goal.returns-in-None
returns-in-None c =
    let d : Held = _ in
    let none = subst (λ (m : Netlist). IsFound m (get_or c.args.named.now c.loop-place.place d).name.now None) (c.in-Ok-of.ensures ∙ c.netlist.ensures) c.in-None.ensures in
    unknown_here c.args.core.now c.args.named.now c.loop-place.place d c.loop-place.holds c.loop-place-test.true c.loop-place.invariant.held none

pub returns : goal.returns
returns c = subst (λ (hs : List Held). AreHeldFrom c.args.core.now (none_held c.args.core.now) (map hold_of hs) c.loop-place.holds)
    (take_all c.loop-place.place c.args.named.now (omega (arith, c.loop-place-test.false))) c.loop-place.invariant.held
