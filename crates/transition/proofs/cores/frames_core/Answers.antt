use Rattle.std.proofs.Common.{◌∙◌, subst}
use Rattle.netlist.specs.Conditions.{IsSound}
use Rattle.transition_sim.proofs.FrameLine.{frame_line}
use Rattle.transition.proofs.FrameLemmas.{frame_evidence, held_in_frames}
use Rattle.transition.proofs.cores.frames_core.Goals as goal

pub returns-clause-line : goal.returns-clause-line
returns-clause-line c =
    frame_line c.args.netlist.now c.args.fault c.in_ok-core.core c.in_ok-two.slow (c.in_ok-core.ensures ∙ c.in_ok-two.ensures.netlist) (subst IsSound c.netlist.ensures c.sound.ensures)
    c.in_ok-two.ensures.fault

pub returns-clause-held : goal.returns-clause-held
returns-clause-held c holds held = held_in_frames c.args.netlist.now c.args.fault c.in_ok-core.core holds (c.in_ok-core.ensures ∙ c.in_ok-two.ensures.netlist) held

pub returns-clause-carries : goal.returns-clause-carries
returns-clause-carries c = record {
  each = λ holds limit refutes found evidence kind.
      frame_evidence c.args.netlist.now holds limit refutes c.args.fault c.in_ok-core.core c.in_ok-two.slow found (c.in_ok-core.ensures ∙ c.in_ok-two.ensures.netlist)
      c.in_ok-two.ensures.fault evidence kind;
}
