use Rattle.std.proofs.Common.{subst, sym, ◌∙◌}
use Rattle.statement.specs.Netlists.{Netlist}
use Rattle.netlist.specs.Conditions.{IsSound}
use Rattle.certificate.specs.Certificates.{IsWellFormed}
use Rattle.transition_sim.proofs.FrameLine.{frame_line}
use Rattle.slow_check.proofs.EvidentLemmas.{held_frames, shown_frames}
use Rattle.slow_check.proofs.evident.ends_of.Goals as goal

pub ends_on-ends-requires-clause-line : goal.ends_on-ends-requires-clause-line
ends_on-ends-requires-clause-line c =
    frame_line c.args.walk.now.trial.now.netlist.now c.args.fault c.in-Ok.core c.in_ok-two.slow (c.in-Ok.ensures ∙ c.in_ok-two.ensures.netlist) (subst IsSound c.netlist.ensures c.sound.ensures)
    c.in_ok-two.ensures.fault

pub ends_on-ends-requires-clause-formed : goal.ends_on-ends-requires-clause-formed
ends_on-ends-requires-clause-formed c =
    subst (λ (n : Netlist). IsWellFormed n c.args.evidence.now) (sym (c.in-Ok.ensures ∙ c.in_ok-two.ensures.netlist)) c.requires.formed

pub ends_on-ends-requires-clause-held : goal.ends_on-ends-requires-clause-held
ends_on-ends-requires-clause-held c =
    let t = c.args.walk.now.trial.now in
    held_frames t.netlist.now t.holds.now c.args.fault c.in-Ok.core (c.in-Ok.ensures ∙ c.in_ok-two.ensures.netlist) c.requires.ready.trial.held

pub returns : goal.returns
returns c =
    let t = c.args.walk.now.trial.now in
    shown_frames t.netlist.now t.holds.now c.args.fault c.in-Ok.core c.in_ok-two.slow c.args.evidence.now c.ends_on-ends.result (c.in-Ok.ensures ∙ c.in_ok-two.ensures.netlist)
    c.in_ok-two.ensures.fault c.ends_on-ends.ensures
