use Rattle.std.proofs.Common.{◌∙◌, ℕ, sym, ap, subst}
use Rattle.statement.specs.Netlists.{Netlist}
use Rattle.events.specs.Standing.{Standing}
use Rattle.word_sim.specs.inner.Groups.{AreTold, IsPass}
use Rattle.word_sim.proofs.lanes.tell_samples.Goals as goal

pub tell_from-requires-clause-pass : goal.tell_from-requires-clause-pass
tell_from-requires-clause-pass c = subst (λ (e : Standing ℕ). IsPass e.netlist e.values c.args.pass.now) (sym c.loop-at.invariant.0) c.requires.pass

pub loop-at-preserved : goal.loop-at-preserved
loop-at-preserved c =
    let same = ap (λ (e : Standing ℕ). e.netlist) c.loop-at.invariant.0 in (
      c.tell_from.ensures.same ∙ c.loop-at.invariant.0,
      subst (λ (m : Netlist). AreTold m c.args.pass.now c.tell_from.new.told.items) same c.tell_from.ensures.told,
    )
