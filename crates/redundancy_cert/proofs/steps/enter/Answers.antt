use Rattle.std.proofs.Common.{not, ap, sym, ◌∙◌, subst}
use Rattle.std.specs.Bool.{MatchBool}
use Rattle.std.proofs.lemmas.Bool.{both_ways}
use Rattle.netlist.specs.Conditions.{IsSound}
use Rattle.netlist.proofs.Placed.{signal_below}
use Rattle.tri.specs.Paths.{IsUnknown}
use Rattle.redundancy_cert.specs.declared.nodes.Node.{Node}
use Rattle.redundancy_cert.specs.Trees.{DecidesSignal}
use Rattle.redundancy_cert.specs.inner.Walk.{path_of}
use Rattle.redundancy_cert.proofs.Free.{free_undecided}
use Rattle.redundancy_cert.proofs.steps.enter.Goals as goal
use Rattle.redundancy_cert.proofs.steps.enter.Goals.{then-not-closed, else-not-closed, then-not-closed-2, else-not-closed-2}

pub split-requires-clause-within : goal.split-requires-clause-within
split-requires-clause-within c =
    let n = c.args.pass.now.netlist in
    let sound : IsSound n = subst IsSound (c.netlist.ensures ∙ c.core.ensures) c.sound.ensures in
    signal_below n sound.formed.numbered c.in-Split.signal (subst (λ (node : Node). DecidesSignal n node) c.in-Split.is c.requires.decides)

pub split-requires-clause-free : goal.split-requires-clause-free
split-requires-clause-free c h =
    let n = c.args.pass.now.netlist in
    let f = c.args.fault.now in
    let path = path_of c.args.path.now.items in
    let sound : IsSound n = subst IsSound (c.netlist.ensures ∙ c.core.ensures) c.sound.ensures in
    elim c.if-not-closed.branch [
      | then-not-closed w ↦ free_undecided f n c.args.pass.now.holds path c.in-Split.signal sound
          (subst (λ b. MatchBool b (IsUnknown f n c.args.pass.now.holds path c.in-Split.signal) (¬ IsUnknown f n c.args.pass.now.holds path c.in-Split.signal)) (sym w.fits-is ∙ h)
          (w.is_unknown-fits.ensures f path c.requires.stuck c.requires.at.decided))
      | else-not-closed w ↦ absurd (both_ways c.if-not-closed.fits (w.fits-is ∙ ap not w.if-not-closed.false) h)
    ]

pub force-requires-clause-within : goal.force-requires-clause-within
force-requires-clause-within c =
    let n = c.args.pass.now.netlist in
    let sound : IsSound n = subst IsSound (c.netlist.ensures ∙ c.core.ensures) c.sound.ensures in
    signal_below n sound.formed.numbered c.in-Forced.signal (subst (λ (node : Node). DecidesSignal n node) c.in-Forced.is c.requires.decides)

pub force-requires-clause-free : goal.force-requires-clause-free
force-requires-clause-free c h =
    let n = c.args.pass.now.netlist in
    let f = c.args.fault.now in
    let path = path_of c.args.path.now.items in
    let sound : IsSound n = subst IsSound (c.netlist.ensures ∙ c.core.ensures) c.sound.ensures in
    elim c.if-not-closed-2.branch [
      | then-not-closed-2 w ↦ free_undecided f n c.args.pass.now.holds path c.in-Forced.signal sound
          (subst (λ b. MatchBool b (IsUnknown f n c.args.pass.now.holds path c.in-Forced.signal) (¬ IsUnknown f n c.args.pass.now.holds path c.in-Forced.signal)) (sym w.fits-is ∙ h)
          (w.is_unknown-fits-then-not-closed-2.ensures f path c.requires.stuck c.requires.at.decided))
      | else-not-closed-2 w ↦ absurd (both_ways c.if-not-closed-2.fits (w.fits-is ∙ ap not w.if-not-closed-2.false) h)
    ]
