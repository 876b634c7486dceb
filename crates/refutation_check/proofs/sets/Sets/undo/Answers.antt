use Rattle.std.proofs.Common.{sym, subst}
use Rattle.refutation_check.specs.inner.Trails.{Grows}
use Rattle.refutation_check.proofs.TrailLemmas.{had_back}
use Rattle.refutation_check.proofs.sets.Sets.undo.Goals as goal

pub returns : goal.returns
returns c was long grows =
    had_back was (record { told = c.self.inside.told.items; trail = c.self.inside.trail.items }) c.args.depth c.take_back.new.told.items c.take_back.new.trail.items long
    (subst (Grows was) (sym c.self.view_is) grows) c.take_back.ensures.told c.take_back.ensures.trail
