use Rattle.std.proofs.Common.{refl, sym, ◌∙◌}
use Rattle.refutation_check.proofs.CheckLemmas.{grows_to}
use Rattle.refutation_check.proofs.LookSteps.{open_if}
use Rattle.refutation_check.proofs.sweeps.is_open.Goals as goal

pub returns-clause-grows : goal.returns-clause-grows
returns-clause-grows c =
    grows_to c.args.sets.now c.args.sets.now c.undo.new.self refl (c.undo.ensures c.args.sets.now (sym c.depth-depth.ensures) c.in_ok-narrow.ensures.grows)

pub returns-clause-so : goal.returns-clause-so
returns-clause-so c =
    open_if c.args.netlist.now c.args.fault.now c.args.gate c.args.sets.now.told c.told.result.now c.args.literal.now c.is_gate_blocked-blocked.result (c.told.ensures ∙ c.in_ok-narrow.ensures.told)
    c.is_gate_blocked-blocked.ensures
