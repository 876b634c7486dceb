use Rattle.std.proofs.Common.{ap, ◌∙◌}
use Rattle.refutation.specs.Refutations.{Told, told_of}
use Rattle.refutation.proofs.PairLemmas.{pair}
use Rattle.refutation_check.proofs.LookSteps.{kept_if, kept_off}
use Rattle.refutation_check.proofs.sweeps.is_kept.Goals as goal

pub returns-then-not-is_in-clause-so : goal.returns-then-not-is_in-clause-so
returns-then-not-is_in-clause-so c =
    kept_off c.args.netlist.now c.args.fault.now c.args.sets.now.told c.args.gate c.args.id (pair c.args.good c.args.faulty) c.told_at-own.result c.is_in.result c.is_in.ensures
    (c.told_at-own.ensures ∙ ap (λ (t : Told). told_of t c.args.id) c.told.ensures) c.if-not-is_in.true

pub returns-clause-so : goal.returns-clause-so
returns-clause-so c =
    kept_if c.args.netlist.now c.args.fault.now c.args.sets.now.told c.args.gate c.args.id (pair c.args.good c.args.faulty) c.told_at-own.result c.is_in.result c.is_in.ensures
    (c.told_at-own.ensures ∙ ap (λ (t : Told). told_of t c.args.id) c.told.ensures) c.is_open.result c.only.result c.if-not-is_in.false c.only.ensures c.is_open.ensures.so
