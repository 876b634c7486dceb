use Rattle.std.proofs.Common.{[], ◌∷◌, ◌++◌, set, true, subst, sym}
use Rattle.cell_order.specs.inner.Reads.{AreMarked}
use Rattle.cell_order.proofs.MarkLemmas.{marks_more}
use Rattle.cell_order.proofs.marks.mark.Goals as goal

pub returns-clause-marks : goal.returns-clause-marks
returns-clause-marks c = λ done m.
    subst (λ i. AreMarked (done ++ c.args.signal ∷ []) (set c.args.marks.now.items i true)) (sym c.index.ensures) (marks_more c.args.marks.now.items c.args.signal c.requires done m)
