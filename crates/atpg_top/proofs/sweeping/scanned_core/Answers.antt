use Rattle.std.proofs.Common.{◌∙◌, ap}
use Rattle.std.proofs.lemmas.Result.{IfOk-weaker}
use Rattle.scan_insert.specs.Scanned.{Insertion}
use Rattle.atpg_top.proofs.sweeping.scanned_core.Goals as goal

pub returns : goal.returns
returns c = IfOk-weaker c.core_of-core.result _ _ (λ k same. same ∙ ap (λ (i : Insertion). i.netlist) c.in_ok-scanned.ensures) c.core_of-core.ensures
